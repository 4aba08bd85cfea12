use Rattle.state_laws.proofs.NumbersLemmas.{claimed_numbers, closed_numbers, committed_numbers, first_numbers, flushed_numbers, reclaimed_numbers, returned_numbers, settles_numbers}
use Rattle.state_laws.proofs.numbers.laws_of_numbers.Goals as goal

pub returns : goal.returns
returns c = record {
  first = first_numbers;
  settled = settles_numbers;
  claimed = claimed_numbers;
  committed = committed_numbers;
  returned = returned_numbers;
  reclaimed = reclaimed_numbers;
  closed = closed_numbers;
  flushed = flushed_numbers;
}
