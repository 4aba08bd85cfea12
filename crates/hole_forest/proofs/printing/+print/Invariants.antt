use Rattle.std.proofs.Common.{◌≡◌, Bool, drop}
use Rattle.html_print.specs.Sheets.{Sheet, printed_after}
use Rattle.hole_forest.specs.Printing.{Numbered, nodes_sheet}
use Rattle.hole_forest.specs.Prints.{printed_in}
use Rattle.hole_forest.proofs.printing.+print.Given as goal

-- whatever follows, what is left is printed after what was printed so far
abbrev pub invariant-print_nodes-loop-node : goal.invariant-print_nodes-loop-node
invariant-print_nodes-loop-node l = (more : Bool → Sheet Numbered)
    → printed_after (nodes_sheet (drop l.node-index l.nodes) l.sheet.after_text more) (printed_in l.sheet)
    ≡ printed_after (nodes_sheet l.nodes l.fn.sheet.after_text more) (printed_in l.fn.sheet)
