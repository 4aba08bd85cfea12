use Rattle.std.proofs.Common.{refl, arith}
use Rattle.dom_forest.specs.Chain.{slot_with, to_previous}
use Rattle.dom_forest.proofs.Chains.{changed_slot, changed_none, past_from}
use Rattle.dom_forest.proofs.chain.link_previous.Goals as goal

pub returns-in-Some-clause-slots : goal.returns-in-Some-clause-slots
returns-in-Some-clause-slots c =
    changed_slot c.args.slots.now.items c.args.id c.in-Some.slot.now c.relink_previous.new.slot (slot_with (to_previous c.args.previous)) (omega (arith, c.in-Some.ensures.variant.0 refl, c.args.slots.now.ok.0)) c.in-Some.ensures.value c.relink_previous.ensures

pub returns-in_default-clause-slots : goal.returns-in_default-clause-slots
returns-in_default-clause-slots c =
    changed_none c.args.slots.now.items c.args.id (slot_with (to_previous c.args.previous)) refl (omega (arith, past_from c.args.id c.args.slots.now.len c.in_default.ensures.variant.1, c.args.slots.now.ok.0))
