use Rattle.dom_forest.specs.Forest.{from}
use Rattle.document_machine.proofs.Ranges.{IsCut, width}
use Rattle.document_machine.proofs.edits.remove_range.Given as goal

abbrev pub invariant-loop-node : goal.invariant-loop-node
invariant-loop-node l = IsCut l.fn.first.0 l.end.0 l.fn.dom l.node.0 l.dom

abbrev pub decreases-loop-node : goal.decreases-loop-node
decreases-loop-node l = width (from l.node.0 l.dom.forest)
