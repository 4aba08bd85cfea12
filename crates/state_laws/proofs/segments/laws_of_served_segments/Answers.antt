use Rattle.state_laws.proofs.ServedLemmas.{claimed_segments, closed_segments, committed_segments, each_serves, first_segments, flushed_segments, reclaimed_segments, returned_segments, settles_segments}
use Rattle.state_laws.proofs.segments.laws_of_served_segments.Goals as goal

pub returns : goal.returns
returns c = record {
  first = first_segments;
  settled = settles_segments;
  claimed = claimed_segments;
  committed = committed_segments;
  returned = returned_segments;
  reclaimed = reclaimed_segments;
  closed = closed_segments;
  flushed = flushed_segments;
  serves = each_serves;
}
