use Rattle.std.proofs.Common.{◌+◌, ◌≤◌, vec_len, vec_capacity}
use Rattle.dom_forest.specs.Moves.{Moved}
use Rattle.dom_forest.proofs.edits.move_run.Given as goal

-- the entries so far are moved
abbrev pub invariant-loop-k : goal.invariant-loop-k
invariant-loop-k l =
    Moved l.fn.part l.fn.chain l.part l.chain l.fn.first l.id l.next l.many l.k l.up l.down
    × (vec_len l.chain.slots + l.many ≤ vec_capacity l.chain.slots + l.k)
