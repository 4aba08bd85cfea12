use Rattle.std.proofs.Common.{◌≡◌, None, length}
use Rattle.dom_forest.specs.Chain.{entries_of, last_id, up_to}
use Rattle.dom_forest.specs.Runs.{id_after, parent_step}
use Rattle.dom_forest.proofs.entry.parent_before.Given as goal

abbrev pub invariant-loop-before : goal.invariant-loop-before
invariant-loop-before l =
    (id_after (parent_step l.depth) None (up_to l.before (entries_of l.chain)) ≡ id_after (parent_step l.depth) None (up_to l.fn.previous (entries_of l.chain)))
    × (l.before ≡ last_id None (up_to l.before (entries_of l.chain)))

abbrev pub decreases-loop-before : goal.decreases-loop-before
decreases-loop-before l = length (up_to l.before (entries_of l.chain))
