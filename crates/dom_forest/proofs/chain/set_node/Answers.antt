use Rattle.std.proofs.Common.{refl, arith}
use Rattle.std.proofs.lemmas.List.{length-set}
use Rattle.dom_forest.specs.Chain.{slot_with, to_node}
use Rattle.dom_forest.proofs.Chains.{changed_none, changed_slot, past_from, set_chain}
use Rattle.dom_forest.proofs.chain.set_node.Goals as goal

pub returns-in-Some-clause-chain : goal.returns-in-Some-clause-chain
returns-in-Some-clause-chain c = λ before after e chain same.
    let old = c.args.chain.now in
    set_chain old.slots.items _ old.first old.last before after e c.args.id c.args.node chain same (length-set old.slots.items c.args.id _)
    (changed_slot old.slots.items c.args.id c.in-Some.slot.now c.refill.new.slot (slot_with (to_node c.args.node)) (omega (arith, c.in-Some.ensures.variant.0 refl, old.slots.ok.0)) c.in-Some.ensures.value c.refill.ensures)

pub returns-in_default-clause-chain : goal.returns-in_default-clause-chain
returns-in_default-clause-chain c = λ before after e chain same.
    let old = c.args.chain.now in
    set_chain old.slots.items old.slots.items old.first old.last before after e c.args.id c.args.node chain same refl
    (changed_none old.slots.items c.args.id (slot_with (to_node c.args.node)) refl (omega (arith, past_from c.args.id old.slots.len c.in_default.ensures.variant.1, old.slots.ok.0)))
