use Rattle.std.proofs.Common.{◌∙◌, ◌++◌, ◌∷◌, [], ap, length, List}
use Rattle.settle_script.specs.declared.value.Entry.{Entry}
use Rattle.settle_script.specs.declared.outcome.Outcome.{Outcome}
use Rattle.settle_script.proofs.SettlementsLemmas.{index_kept}
use Rattle.settle_script.proofs.outcome.Outcomes.push.Goals as goal

pub invariant_of-self-2 : goal.invariant_of-self-2
invariant_of-self-2 c =
    let added = rw c.unwrap.ensures at c.push.ensures.items in
    let before = c.reserve.ensures.items ∙ c.self.view_is in
    index_kept c.self.inside.index c.insert.new.self c.self.inside.entries.items c.args.self.now c.push.new.self.items c.args.settlement c.in_ok-key.key
    (length c.as_slice.result.now) c.self.view_is c.self.invariant c.requires.new (c.in_ok-key.ensures.ok ∙ c.as_str.ensures.value) c.in_ok-insert.ensures.updates
    (ap (λ (xs : List (Entry Outcome)). length xs) (c.as_slice.ensures.value ∙ before)) c.requires.few
    (added ∙ ap (λ (xs : List (Entry Outcome)). xs ++ c.args.settlement ∷ []) before)
