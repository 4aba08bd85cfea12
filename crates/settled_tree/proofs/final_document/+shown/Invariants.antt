use Rattle.std.proofs.Common.{◌≡◌, ◌++◌, drop}
use Rattle.settled_tree.specs.Final.{final_document, settled_nodes}
use Rattle.settled_tree.specs.Layers.{parts_of}
use Rattle.settled_tree.proofs.final_document.+shown.Given as goal

-- the parts so far, before those of what is left
abbrev pub invariant-push_nodes-loop-node : goal.invariant-push_nodes-loop-node
invariant-push_nodes-loop-node l =
    l.parts ++ parts_of (final_document (settled_nodes (drop l.node-index l.nodes)))
    ≡ l.fn.parts ++ parts_of (final_document (settled_nodes l.nodes))
