use Rattle.page_laws.proofs.PageViewsLemmas.{document_seen, page_seen}
use Rattle.page_laws.proofs.PagesLemmas.{page_balanced}
use Rattle.page_laws.proofs.views.laws_of_page_views.Goals as goal

pub returns : goal.returns
returns c = record { balanced = page_balanced; page = page_seen; shown = document_seen c.laws_of_views.ensures.ids }
