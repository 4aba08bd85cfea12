use Rattle.std.proofs.Common.{◌≡◌, ◌++◌, drop}
use Rattle.jsx_value.specs.Spots.{fails}
use Rattle.settled_tree.specs.Final.{settled_nodes}
use Rattle.settled_tree.proofs.shell.+failures.Given as goal

-- what was found, before what is left
abbrev pub invariant-push_failures-loop-node : goal.invariant-push_failures-loop-node
invariant-push_failures-loop-node l =
    l.digests ++ fails (settled_nodes (drop l.node-index l.nodes)) ≡ l.fn.digests ++ fails (settled_nodes l.nodes)
