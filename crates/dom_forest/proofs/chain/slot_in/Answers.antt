use Rattle.std.proofs.Common.{length, sym, ◌∙◌}
use Rattle.dom_forest.proofs.Chains.{past_lt, slot_at-past, slot_at-read, within_lt}
use Rattle.dom_forest.proofs.chain.slot_in.Goals as goal

pub returns-in-Some : goal.returns-in-Some
returns-in-Some c =
    c.borrowed.ensures ∙ sym (slot_at-read c.args.slots.now c.args.id c.in-Some.slot.now (within_lt c.args.id (length c.args.slots.now) c.in-Some.ensures.lookup.0) c.in-Some.ensures.lookup.1)

pub returns-in-None : goal.returns-in-None
returns-in-None c = sym (slot_at-past c.args.slots.now c.args.id (past_lt c.args.id (length c.args.slots.now) c.in-None.ensures.lookup.0))
