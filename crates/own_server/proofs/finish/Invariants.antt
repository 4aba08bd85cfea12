use Rattle.std.proofs.Common.{◌≡◌}
use Rattle.request_state.specs.Core.{core_of}
use Rattle.request_laws.specs.Works.{WorksStand}
use Rattle.own_server.proofs.finish.Given as goal

abbrev pub invariant-flushes : goal.invariant-flushes
invariant-flushes g l = WorksStand l.fn.state.plan (core_of l.state) × (l.state.plan ≡ l.fn.state.plan)
