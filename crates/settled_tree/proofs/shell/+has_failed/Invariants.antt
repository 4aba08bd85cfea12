use Rattle.std.proofs.Common.{◌≡◌, drop}
use Rattle.jsx_value.specs.Spots.{fails}
use Rattle.settled_tree.specs.Final.{settled_nodes}
use Rattle.settled_tree.specs.Layers.{has_failed}
use Rattle.settled_tree.proofs.shell.+has_failed.Given as goal

abbrev pub invariant-has_failed-loop-node : goal.invariant-has_failed-loop-node
invariant-has_failed-loop-node l =
    has_failed (fails (settled_nodes (drop l.node-index l.nodes))) ≡ has_failed (fails (settled_nodes l.nodes))
