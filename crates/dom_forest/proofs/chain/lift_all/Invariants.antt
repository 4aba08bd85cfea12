use Rattle.std.proofs.Common.{◌≡◌, ◌++◌, take, drop, map}
use Rattle.dom_forest.specs.Chain.{slot_with, slot_above}
use Rattle.dom_forest.proofs.chain.lift_all.Given as goal

abbrev pub invariant-loop-slot : goal.invariant-loop-slot
invariant-loop-slot l = l.slots ≡ map (slot_with slot_above) (take l.slot-index l.fn.slots) ++ drop l.slot-index l.fn.slots
