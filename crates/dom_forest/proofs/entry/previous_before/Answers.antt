use Rattle.std.proofs.Common.{◌≡◌, Bool, ℕ, Option, None, Some, if◌then◌else◌, nat_lt, ltb, eqb, ◌==◌, true, false, refl, sym, ap, ◌∙◌, arith, inl, inr, ◌≤◌}
use Rattle.std.specs.Bool.{then_some}
use Rattle.std.proofs.lemmas.Bool.{cond-true, cond-false, eq-eqb, ne_eqb, lt-ltb, le-ltb, cases_eq}
use Rattle.dom_forest.specs.Chain.{entries_of, entry_in, last_id, up_to}
use Rattle.dom_forest.specs.Runs.{id_after, previous_step}
use Rattle.dom_forest.proofs.Steps.{before_there, kept_last}
use Rattle.dom_forest.proofs.entry.previous_before.Goals as goal

then_some_is : (b : Bool) (id : ℕ) → then_some b id ≡ (if b then Some id else None)
then_some_is true id = refl
then_some_is false id = refl

-- an entry that is no deeper
no_deeper : (e d id : ℕ) (o : Option ℕ) → e ≤ d → ◌≡◌ {A = Option ℕ} (if e == d then Some id else None) (if e == d then Some id else if nat_lt e d then None else o)
no_deeper e d id o h = elim (cases_eq e d) [
  | inl same ↦ cond-true (eqb e d) _ _ (eq-eqb e d same) ∙ sym (cond-true (eqb e d) _ _ (eq-eqb e d same))
  | inr other ↦ cond-false (eqb e d) _ _ (ne_eqb e d other) ∙ sym (cond-false (eqb e d) _ _ (ne_eqb e d other) ∙ cond-true (ltb e d) _ _ (lt-ltb e d (omega (arith, h, other))))
]

pub returns-in_default-slot_of : goal.returns-in_default-slot_of
returns-in_default-slot_of c =
    let es = entries_of c.args.chain.now in
    absurd (before_there es c.in-Some.id (sym c.in-Some.is ∙ c.loop-before.invariant.1 ∙ ap (λ o. last_id None (up_to o es)) c.in-Some.is) c.in_default-slot_of.ensures.absent)

pub returns-then-slot-depth : goal.returns-then-slot-depth
returns-then-slot-depth c =
    let es = entries_of c.args.chain.now in
    let slot = c.in-Some-slot_of.slot.now in
    let above = id_after (previous_step c.args.depth) None (up_to slot.previous es) in
    let step = kept_last (previous_step c.args.depth) (up_to c.loop-before.before es) (up_to slot.previous es) (entry_in c.in-Some.id slot) (ap (λ o. up_to o es) c.in-Some.is ∙ c.in-Some-slot_of.ensures.found.to) in
    (c.then_some.ensures ∙ then_some_is _ c.in-Some.id ∙ no_deeper slot.depth c.args.depth c.in-Some.id above c.if-slot-depth.true) ∙ sym step ∙ c.loop-before.invariant.0

pub loop-before-preserved : goal.loop-before-preserved
loop-before-preserved c =
    let es = entries_of c.args.chain.now in
    let slot = c.in-Some-slot_of.slot.now in
    let above = id_after (previous_step c.args.depth) None (up_to slot.previous es) in
    let step = kept_last (previous_step c.args.depth) (up_to c.loop-before.before es) (up_to slot.previous es) (entry_in c.in-Some.id slot) (ap (λ o. up_to o es) c.in-Some.is ∙ c.in-Some-slot_of.ensures.found.to) in
    (sym (cond-false (eqb slot.depth c.args.depth) _ _ (ne_eqb slot.depth c.args.depth (λ same. omega (arith, same, c.if-slot-depth.false))) ∙ cond-false (ltb slot.depth c.args.depth) _ _ (le-ltb slot.depth c.args.depth (omega (arith, c.if-slot-depth.false)))) ∙ sym step ∙ c.loop-before.invariant.0, c.in-Some-slot_of.ensures.found.before)
