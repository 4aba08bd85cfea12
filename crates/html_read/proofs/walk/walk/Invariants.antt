use Rattle.std.proofs.Common.{◌≤◌, ◌-◌, length}
use Rattle.html_read.proofs.WalksLemmas.{Walks}
use Rattle.html_read.proofs.walk.walk.Given as goal

abbrev pub invariant-bytes : goal.invariant-bytes
invariant-bytes l = record {
  walks : Walks l.bytes l.start l.fn.mode l.place l.tokens.items l.at.from l.at.mode l.i;
  within : l.i ≤ length l.bytes;
}

abbrev pub decreases-bytes : goal.decreases-bytes
decreases-bytes l = length l.bytes - l.i
