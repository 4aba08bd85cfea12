use Rattle.std.proofs.Common.{◌≡◌, ◌+◌, None, length, drop}
use Rattle.dom_forest.specs.Chain.{entries_of, rest_from, head_id}
use Rattle.std.specs.List.{prefix_len}
use Rattle.dom_forest.specs.Runs.{below_at}
use Rattle.dom_forest.proofs.entry.passed.Given as goal

-- what was passed, and what is left
abbrev pub invariant-loop-slot : goal.invariant-loop-slot
invariant-loop-slot l =
    let old = rest_from l.fn.id (entries_of l.chain) in
    let left = rest_from l.next (entries_of l.chain) in
    (l.count + prefix_len (below_at l.depth) left ≡ prefix_len (below_at l.depth) old) × (left ≡ drop l.count old) × (l.fn.id ≡ head_id old None → l.next ≡ head_id left None)

abbrev pub decreases-loop-slot : goal.decreases-loop-slot
decreases-loop-slot l = length (rest_from l.next (entries_of l.chain))
