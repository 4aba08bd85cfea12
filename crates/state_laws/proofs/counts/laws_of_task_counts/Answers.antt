use Rattle.state_laws.proofs.CountsLemmas.{claimed_counts, closed_counts, committed_counts, first_counts, flushed_counts, reclaimed_counts, returned_counts, settles_counts}
use Rattle.state_laws.proofs.counts.laws_of_task_counts.Goals as goal

pub returns : goal.returns
returns c = record {
  first = first_counts;
  settled = settles_counts;
  claimed = claimed_counts;
  committed = committed_counts;
  returned = returned_counts;
  reclaimed = reclaimed_counts;
  closed = closed_counts;
  flushed = flushed_counts;
}
