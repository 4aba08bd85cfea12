use Rattle.std.proofs.Common.{◌≡◌, ◌++◌, drop}
use Rattle.hole_forest.proofs.filling.+copy.Given as goal

abbrev pub invariant-push_copies-loop-node : goal.invariant-push_copies-loop-node
invariant-push_copies-loop-node l = l.out ++ drop l.node-index l.nodes ≡ l.fn.out ++ l.nodes
