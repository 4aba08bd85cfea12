use Rattle.page_laws.proofs.PageViewsLemmas.{levels_by_nodes}
use Rattle.page_laws.proofs.ViewsLemmas.{container_unseen, view_of-joined}
use Rattle.page_laws.proofs.views.laws_of_joined_views.Goals as goal

pub returns : goal.returns
returns c = record {
  nodes = λ prefix f g e. levels_by_nodes prefix f g e (c.laws_of_views.ensures.ids prefix);
  joined = view_of-joined;
  container = container_unseen;
}
