use Rattle.std.proofs.Common.{reverse, sym}
use Rattle.dom_forest.specs.Ids.{element_with}
use Rattle.document_machine.specs.Running.{ids_of}
use Rattle.document_machine.proofs.Finding.{element_found}
use Rattle.document_machine.proofs.Keeping.{closed_found}
use Rattle.document_machine.proofs.edits.find_closed.Goals as goal

pub returns-in-Some-clause-element : goal.returns-in-Some-clause-element
returns-in-Some-clause-element c =
    let forest = c.args.dom.now.forest in
    let node = c.in-Some.node.0 in
    element_found c.in_ok-id.id forest node (c.requires.once node)
    (closed_found (ids_of (reverse c.args.opened.now)) (element_with c.in_ok-id.id forest) node (sym c.in-Some.ensures)).0
