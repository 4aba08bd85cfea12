use Rattle.page_laws.proofs.PagesLemmas.{joined_pages-assoc, page_nodes-joined}
use Rattle.page_laws.proofs.joins.laws_of_page_joins.Goals as goal

pub returns : goal.returns
returns c = record { nodes = page_nodes-joined; assoc = joined_pages-assoc }
