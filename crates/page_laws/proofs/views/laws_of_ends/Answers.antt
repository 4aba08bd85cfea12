use Rattle.page_laws.proofs.ViewsLemmas.{boundary_view, ends_at, ends_found}
use Rattle.page_laws.proofs.views.laws_of_ends.Goals as goal

pub returns : goal.returns
returns c = record { found = ends_at; ends = ends_found; seen = boundary_view }
