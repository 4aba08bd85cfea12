use Rattle.std.proofs.Common.{◌≡◌, ◌++◌, drop}
use Rattle.hole_forest.specs.Filling.{filled_nodes}
use Rattle.hole_forest.proofs.filling.+fill.Given as goal

abbrev pub invariant-push_filled-loop-node : goal.invariant-push_filled-loop-node
invariant-push_filled-loop-node l =
    l.out ++ filled_nodes l.parts (drop l.node-index l.nodes) ≡ l.fn.out ++ filled_nodes l.parts l.nodes
