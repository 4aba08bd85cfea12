use Rattle.std.proofs.Common.{◌≡◌, ◌+◌, length}
use Rattle.dom_forest.specs.Chain.{entries_of, rest_from}
use Rattle.dom_forest.proofs.chain.count_all.Given as goal

abbrev pub invariant-loop-next : goal.invariant-loop-next
invariant-loop-next l = l.count + length (rest_from l.next (entries_of l.chain)) ≡ length (entries_of l.chain)

abbrev pub decreases-loop-next : goal.decreases-loop-next
decreases-loop-next l = length (rest_from l.next (entries_of l.chain))
