use Rattle.std.proofs.Common.{◌∙◌, ◌<◌, List, length, subst, sym}
use Rattle.settle_script.specs.declared.value.Entry.{Entry}
use Rattle.settle_script.specs.declared.outcome.Outcome.{Outcome}
use Rattle.settle_script.proofs.SettlementsLemmas.{known_at, known_later, known_never, place_within}
use Rattle.settle_script.proofs.outcome.Outcomes.get.Goals as goal
use Rattle.settle_script.proofs.outcome.Outcomes.get.Goals.{in_default-via-in-Some+else-place-settled, in_default-via-in_default}

pub bounds-entries-place : goal.bounds-entries-place
bounds-entries-place c =
    subst (λ (xs : List (Entry Outcome)). c.in-Some.place < length xs) (sym (c.as_slice-entries.ensures.value ∙ c.self.view_is))
    (place_within c.args.name.now c.args.self.now c.in-Some.place (sym c.place.ensures ∙ c.in-Some.is))

pub returns-in-Some : goal.returns-in-Some
returns-in-Some c =
    known_at c.args.self.now c.as_slice-entries.result.now c.args.settled c.args.name.now c.in-Some.place c.index-entries-place.result
    (c.as_slice-entries.ensures.value ∙ c.self.view_is) (sym c.place.ensures ∙ c.in-Some.is) c.if-place-settled.true

pub returns-in_default : goal.returns-in_default
returns-in_default c = elim c.in_default.branch [
  | in_default-via-in-Some+else-place-settled w ↦ known_later c.args.self.now c.args.settled c.args.name.now w.in-Some.place (sym c.place.ensures ∙ w.in-Some.is) w.if-place-settled.false
  | in_default-via-in_default w ↦ known_never c.args.self.now c.args.settled c.args.name.now (sym c.place.ensures ∙ w.in_default.is)
]
