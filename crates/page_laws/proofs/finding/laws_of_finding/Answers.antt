use Rattle.page_laws.proofs.FindLemmas.{finds_one, id_count-with_change}
use Rattle.page_laws.proofs.NodesLemmas.{element_with-joined, element_with-none, id_count-joined, id_count-zero}
use Rattle.page_laws.proofs.finding.laws_of_finding.Goals as goal

pub returns : goal.returns
returns c = record {
  absent = element_with-none;
  not_found = id_count-zero;
  first = element_with-joined;
  one = finds_one;
  joined = id_count-joined;
  changed = id_count-with_change;
}
