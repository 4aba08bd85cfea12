use Rattle.std.proofs.Common.{◌≡◌, map, take}
use Rattle.request_state.specs.Core.{core_of}
use Rattle.inline_run.specs.Sending.{StepsOn}
use Rattle.inline_run.specs.Steps.{line}
use Rattle.inline_run.proofs.run.serve_lines.Given as goal

-- the lines up to here were served
abbrev pub invariant-lines : goal.invariant-lines
invariant-lines g l = record {
  stepped : StepsOn l.fn.state.plan (map line (take l.line-index l.lines)) (core_of l.fn.state) (core_of l.state)
      (g.S.Sink.contents l.fn.out) (g.S.Sink.contents l.out) (g.S.Sink.faults l.fn.out) (g.S.Sink.faults l.out);
  plan : l.state.plan ≡ l.fn.state.plan;
}
