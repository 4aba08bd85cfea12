use Rattle.std.proofs.Common.{length}
use Rattle.std.specs.BTreeMap.{get_by_text}
use Rattle.dom_forest.specs.Chain.{entries_of, rest_from}
use Rattle.dom_forest.specs.Index.{HasNoted, StaysKnown}
use Rattle.dom_forest.proofs.ids.note_run.Given as goal

abbrev pub invariant-loop-next : goal.invariant-loop-next
invariant-loop-next l = record {
  noted : HasNoted (entries_of l.part) (rest_from l.next (entries_of l.part)) (length l.slots) l.id (get_by_text l.holders);
  kept : StaysKnown l.slots (get_by_text l.fn.holders) (get_by_text l.holders);
}

abbrev pub decreases-loop-next : goal.decreases-loop-next
decreases-loop-next l = length (rest_from l.next (entries_of l.part))
