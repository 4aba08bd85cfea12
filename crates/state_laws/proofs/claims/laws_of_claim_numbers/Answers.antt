use Rattle.state_laws.proofs.ClaimsLemmas.{claimed_claims, closed_claims, committed_claims, first_claims, flushed_claims, reclaimed_claims_fit, returned_claims, settles_claims}
use Rattle.state_laws.proofs.claims.laws_of_claim_numbers.Goals as goal

pub returns : goal.returns
returns c = record {
  first = first_claims;
  settled = settles_claims;
  claimed = claimed_claims;
  committed = committed_claims;
  returned = returned_claims;
  reclaimed = reclaimed_claims_fit;
  closed = closed_claims;
  flushed = flushed_claims;
}
