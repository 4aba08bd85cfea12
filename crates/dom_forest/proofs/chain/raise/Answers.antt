use Rattle.std.proofs.Common.{length, ap, ◌∙◌}
use Rattle.std.proofs.lemmas.List.{length-map}
use Rattle.dom_forest.specs.Chain.{slot_above, slot_with}
use Rattle.dom_forest.proofs.Chains.{raise_chain}
use Rattle.dom_forest.proofs.chain.raise.Goals as goal

pub returns-clause-chain : goal.returns-clause-chain
returns-clause-chain c = λ entries chain.
    let old = c.args.chain.now in
    raise_chain old.slots.items c.lift_slots.new.slots.items old.first old.last entries chain c.lift_slots.ensures

pub returns-clause-len : goal.returns-clause-len
returns-clause-len c = ap length c.lift_slots.ensures ∙ length-map c.args.chain.now.slots.items (slot_with slot_above)
