use Rattle.std.proofs.Common.{◌≡◌, ◌+◌, ◌≤◌, length}
use Rattle.dom_forest.specs.Chain.{entries_of, rest_from}
use Rattle.dom_forest.specs.Runs.{closing_in}
use Rattle.dom_forest.proofs.boundary.closing_after.Given as goal

-- the entries that are left give the answer; no more boundaries are open than entries were passed
abbrev pub invariant-loop-next : goal.invariant-loop-next
invariant-loop-next l =
    (closing_in l.depth (rest_from l.next (entries_of l.chain)) l.inner ≡ closing_in l.depth (rest_from l.fn.after (entries_of l.chain)) 0)
    × (l.inner + length (rest_from l.next (entries_of l.chain)) ≤ length (entries_of l.chain))

abbrev pub decreases-loop-next : goal.decreases-loop-next
decreases-loop-next l = length (rest_from l.next (entries_of l.chain))
