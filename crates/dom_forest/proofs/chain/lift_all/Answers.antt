use Rattle.std.proofs.Common.{get_or, arith}
use Rattle.std.proofs.lemmas.List.Edits.{map_over_more}
use Rattle.std.proofs.lemmas.List.{get_or_default}
use Rattle.dom_forest.specs.Chain.{slot_above, slot_with}
use Rattle.dom_forest.proofs.chain.lift_all.Goals as goal

pub loop-slot-preserved : goal.loop-slot-preserved
loop-slot-preserved c =
    let now = c.loop-slot.slots in
    let place = c.loop-slot.slot-index in
    rw c.lift.ensures (map_over_more (slot_with slot_above) c.args.slots.now now place (get_or now place c.slot-item.result) (omega arith) c.loop-slot.invariant (get_or_default now place c.slot-item.result (get_or now place c.slot-item.result) (omega arith)))
