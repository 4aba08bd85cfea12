use Rattle.std.proofs.Common.{◌≤◌, ◌-◌, length, take}
use Rattle.std.specs.Io.KnownBytes.{Appends}
use Rattle.inline_run.proofs.sending.send.Given as goal

-- the bytes up to here were taken
abbrev pub invariant-pieces : goal.invariant-pieces
invariant-pieces g l = record {
  within : l.at ≤ length l.bytes;
  taken : Appends (g.S.Sink.contents l.fn.out) (g.S.Sink.contents l.out) (take l.at l.bytes);
  later : g.S.Sink.faults l.fn.out ≤ g.S.Sink.faults l.out;
}

abbrev pub decreases-pieces : goal.decreases-pieces
decreases-pieces g l = length l.bytes - l.at
