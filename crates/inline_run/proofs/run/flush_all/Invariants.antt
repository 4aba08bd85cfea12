use Rattle.std.proofs.Common.{◌≡◌}
use Rattle.request_state.specs.Core.{core_of}
use Rattle.inline_run.specs.Sending.{StepsOn, flushes_of}
use Rattle.inline_run.proofs.run.flush_all.Given as goal

-- so many flushes were sent
abbrev pub invariant-flushes : goal.invariant-flushes
invariant-flushes g l = record {
  stepped : StepsOn l.fn.state.plan (flushes_of l.done) (core_of l.fn.state) (core_of l.state)
      (g.S.Sink.contents l.fn.out) (g.S.Sink.contents l.out) (g.S.Sink.faults l.fn.out) (g.S.Sink.faults l.out);
  plan : l.state.plan ≡ l.fn.state.plan;
}
