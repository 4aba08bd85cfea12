use Rattle.page_laws.proofs.StreamedEdits.{client_leaves, complete_leaves, fill_leaves}
use Rattle.page_laws.proofs.edits.laws_of_edits.Goals as goal

pub returns : goal.returns
returns c = record { fill = fill_leaves; complete = complete_leaves; client = client_leaves }
