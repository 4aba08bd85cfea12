use Rattle.document_machine.proofs.Finding.{there_element}
use Rattle.document_machine.proofs.edits.fill.Goals as goal

pub move_children-requires-clause-there : goal.move_children-requires-clause-there
move_children-requires-clause-there c =
    there_element c.in_ok-placeholder.placeholder.0 c.args.dom.now.forest c.in_ok-placeholder.ensures.element
