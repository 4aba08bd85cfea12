use Rattle.std.proofs.Common.{◌≡◌}
use Rattle.std.specs.Io.KnownBytes.{Keeps}
use Rattle.fizz_outside.proofs.std_sink.StdSink.write_some.Given as goal

-- what was interrupted took nothing
abbrev pub invariant-tries : goal.invariant-tries
invariant-tries g l = record {
  kept : Keeps (g.W.Write.contents l.fn.self.writer) (g.W.Write.contents l.self.writer);
  quiet : l.self.faults ≡ l.fn.self.faults;
}
