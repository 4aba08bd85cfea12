use Rattle.std.proofs.Common.{refl}
use Rattle.request_laws.proofs.TranscriptsLemmas.{claimed_sends, closed_sends, committed_sends, first_sent, flushed_sends, returned_sends, settles_sends}
use Rattle.request_laws.proofs.transcripts.laws_of_transcripts.Goals as goal

pub returns : goal.returns
returns c = record {
  first = first_sent;
  settled = settles_sends;
  claimed = claimed_sends;
  committed = committed_sends;
  returned = returned_sends;
  reclaimed = λ old. record { transcript = refl; marks = refl };
  closed = closed_sends;
  flushed = flushed_sends;
}
