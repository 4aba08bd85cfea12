use Rattle.page_laws.proofs.PageEditsLemmas.{with_boundary_completed-none, with_boundary_failed-none, with_placeholder_filled-none}
use Rattle.page_laws.proofs.edits.laws_of_absent_ids.Goals as goal

pub returns : goal.returns
returns c = record { fill = with_placeholder_filled-none; complete = with_boundary_completed-none; client = with_boundary_failed-none }
