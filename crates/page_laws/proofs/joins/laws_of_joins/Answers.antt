use Rattle.page_laws.proofs.JoinsLemmas.{page_bytes-joined, with_forest-twice}
use Rattle.page_laws.proofs.NodesLemmas.{joined_nodes-assoc, joined_nodes-none, nodes_of-joined, nodes_of-numbered_from, nodes_of-forest_of_nodes}
use Rattle.page_laws.proofs.joins.laws_of_joins.Goals as goal

pub returns : goal.returns
returns c = record {
  assoc = joined_nodes-assoc;
  none = joined_nodes-none;
  joined = nodes_of-joined;
  numbers = nodes_of-numbered_from;
  unnumbered = nodes_of-forest_of_nodes;
  appended = with_forest-twice;
  bytes = page_bytes-joined;
}
