use Rattle.std.proofs.Common.{◌≡◌}
use Rattle.request_state.specs.Core.{core_of}
use Rattle.request_laws.specs.Transcripts.{SendsNothing}
use Rattle.request_laws.specs.Works.{WorksStand}
use Rattle.inline_run.specs.Steps.{WorksTimes}
use Rattle.inline_run.proofs.work.work_some.Given as goal

abbrev pub invariant-works : goal.invariant-works
invariant-works l = record {
  worked : WorksTimes l.fn.state.plan l.done (core_of l.fn.state) (core_of l.state);
  works : WorksStand l.fn.state.plan (core_of l.state);
  silent : SendsNothing (core_of l.fn.state) (core_of l.state);
  plan : l.state.plan ≡ l.fn.state.plan;
}
