use Rattle.position_laws.proofs.ApartLemmas.{gaps_apart}
use Rattle.position_laws.proofs.CutsLemmas.{piece_gaps}
use Rattle.position_laws.proofs.GapListsLemmas.{own_failures_fill, own_resources_fill}
use Rattle.position_laws.proofs.GapsLemmas.{gap_in, leaf_fills}
use Rattle.position_laws.proofs.gaps.laws_of_gaps.Goals as goal

pub returns : goal.returns
returns c = record {
  cuts = piece_gaps;
  stand = gap_in;
  apart = gaps_apart;
  leaves = leaf_fills;
  failures = λ known root before after path l e f. own_failures_fill known root before after path l e f;
  waits = λ known root before after path l e. own_resources_fill known root before after path l e;
}
