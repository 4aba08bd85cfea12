use Rattle.std.proofs.Common.{None, sym, ◌∙◌, refl, arith}
use Rattle.dom_forest.proofs.Chains.{changed_none, past_from, slot_at-past, slot_at-read, slot_at-set}
use Rattle.dom_forest.proofs.chain.take_slot.Goals as goal

pub returns-in-Some-clause-slot : goal.returns-in-Some-clause-slot
returns-in-Some-clause-slot c =
    c.take.ensures.value ∙ sym (slot_at-read c.args.slots.now.items c.args.id c.in-Some.slot.now (omega (arith, c.in-Some.ensures.variant.0 refl, c.args.slots.now.ok.0)) c.in-Some.ensures.value)

pub returns-in-Some-clause-slots : goal.returns-in-Some-clause-slots
returns-in-Some-clause-slots c =
    rw c.take.ensures.after (slot_at-set c.args.slots.now.items c.args.id None (omega (arith, c.in-Some.ensures.variant.0 refl, c.args.slots.now.ok.0)))

pub returns-in-None-clause-slot : goal.returns-in-None-clause-slot
returns-in-None-clause-slot c =
    sym (slot_at-past c.args.slots.now.items c.args.id (omega (arith, past_from c.args.id c.args.slots.now.len c.in-None.ensures.variant.1, c.args.slots.now.ok.0)))

pub returns-in-None-clause-slots : goal.returns-in-None-clause-slots
returns-in-None-clause-slots c =
    changed_none c.args.slots.now.items c.args.id (λ _. None) refl (omega (arith, past_from c.args.id c.args.slots.now.len c.in-None.ensures.variant.1, c.args.slots.now.ok.0))
