use Rattle.document_machine.proofs.Finding.{some_element}
use Rattle.document_machine.proofs.edits.find_element.Goals as goal

pub returns-clause-element : goal.returns-clause-element
returns-clause-element c = some_element c.as_bytes.result.now c.args.dom.now c.find_id.result c.requires c.find_id.ensures
