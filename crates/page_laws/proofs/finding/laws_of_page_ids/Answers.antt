use Rattle.page_laws.proofs.DocumentsLemmas.{segment_ids_in}
use Rattle.page_laws.proofs.PagesLemmas.{boundary_ids, placeholder_ids, segment_ids}
use Rattle.page_laws.proofs.finding.laws_of_page_ids.Goals as goal

pub returns : goal.returns
returns c = record { placeholders = placeholder_ids; boundaries = boundary_ids; segments = segment_ids; containers = segment_ids_in }
