use Rattle.std.proofs.Common.{◌∙◌, ◌++◌, ◌∷◌, [], Option, ap, sym, subst, List, length, arith}
use Rattle.std.specs.Option.{option_to_list}
use Rattle.settle_script.specs.declared.value.Entry.{Entry}
use Rattle.settle_script.specs.declared.outcome.Outcome.{Outcome}
use Rattle.settle_script.specs.declared.event.Event.{Event}
use Rattle.settle_script.specs.Settlements.{IsNew}
use Rattle.settle_script.specs.Scripts.{outcomes_of}
use Rattle.settle_script.proofs.ScriptsLemmas.{settlement_new, outcomes_of-push, length-outcomes_of}
use Rattle.settle_script.proofs.script.Script.push.Goals as goal

pub settle-requires-clause-new : goal.settle-requires-clause-new
settle-requires-clause-new c =
    subst (λ (os : List (Entry Outcome)). IsNew c.in_ok-settlement.settlement os) (sym (c.self.invariant ∙ ap outcomes_of c.self.view_is))
    (subst (λ s. IsNew s (outcomes_of c.args.self.now)) (sym c.in_ok-settlement.ensures) (settlement_new c.args.event c.args.self.now c.requires.new))

pub settle-requires-clause-few : goal.settle-requires-clause-few
settle-requires-clause-few c =
    let same = ap (λ (os : List (Entry Outcome)). length os) (c.self.invariant ∙ ap outcomes_of c.self.view_is) in
    let most = length-outcomes_of c.args.self.now in
    omega (arith, c.requires.few)

pub invariant_of-self-2 : goal.invariant_of-self-2
invariant_of-self-2 c =
    let added = rw c.unwrap.ensures at c.push.ensures.items in
    let before = c.reserve.ensures.items ∙ c.self.view_is in
    c.in_ok-settle.ensures.ok
    ∙ ap (λ (os : List (Entry Outcome)). os ++ option_to_list c.in_ok-settlement.settlement) (c.self.invariant ∙ ap outcomes_of c.self.view_is)
    ∙ ap (λ (s : Option (Entry Outcome)). outcomes_of c.args.self.now ++ option_to_list s) c.in_ok-settlement.ensures
    ∙ sym (outcomes_of-push c.args.self.now c.args.event)
    ∙ sym (ap outcomes_of (added ∙ ap (λ (es : List Event). es ++ c.args.event ∷ []) before))
