use Rattle.dom_forest.specs.Chain.{entries_of}
use Rattle.dom_forest.proofs.Chains.{not_there, slot_is_of}
use Rattle.dom_forest.proofs.chain.slot_of.Goals as goal

pub returns-in-Some-clause-found : goal.returns-in-Some-clause-found
returns-in-Some-clause-found c =
    let chain = c.args.chain.now in
    let here = rw c.deref.ensures.value at c.in-Some.ensures in
    slot_is_of chain.slots.items chain.first chain.last (entries_of chain) c.args.id c.in-Some.slot.now c.requires here

pub returns-in-None-clause-absent : goal.returns-in-None-clause-absent
returns-in-None-clause-absent c =
    let chain = c.args.chain.now in
    let none = rw c.deref.ensures.value at c.in-None.ensures in
    not_there chain.slots.items chain.first chain.last (entries_of chain) c.args.id c.requires none
