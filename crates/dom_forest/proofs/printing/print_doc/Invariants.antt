use Rattle.std.proofs.Common.{◌≡◌, ◌++◌}
use Rattle.dom_forest.specs.Documents.{nodes_in}
use Rattle.dom_forest.specs.Printing.{printed_nodes}
use Rattle.dom_forest.specs.OpenElements.{left_bytes, turns_left}
use Rattle.dom_forest.proofs.printing.print_doc.Given as goal

-- what is printed, and what is left, are the document
abbrev pub invariant-parts : goal.invariant-parts
invariant-parts l = l.out.items ++ left_bytes l.next.after_text l.next.parts.now l.open.items ≡ printed_nodes (nodes_in l.doc.parts)

abbrev pub decreases-parts : goal.decreases-parts
decreases-parts l = turns_left l.next.parts.now l.open.items
