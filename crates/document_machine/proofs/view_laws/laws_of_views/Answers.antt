use Rattle.document_machine.proofs.Plain.{settled_of-plain, view_of-plain, view_of-numbered_from}
use Rattle.document_machine.proofs.view_laws.laws_of_views.Goals as goal

pub returns-clause-ids : goal.returns-clause-ids
returns-clause-ids c = view_of-numbered_from

pub returns-clause-plain : goal.returns-clause-plain
returns-clause-plain c = view_of-plain

pub returns-clause-settled : goal.returns-clause-settled
returns-clause-settled c = settled_of-plain
