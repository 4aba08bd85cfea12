use Rattle.std.proofs.Common.{◌≡◌}
use Rattle.request_state.specs.Core.{core_of}
use Rattle.request_laws.specs.Works.{WorksStand}
use Rattle.own_server.proofs.stream.Given as goal

abbrev pub invariant-data : goal.invariant-data
invariant-data g l = WorksStand l.fn.plan (core_of l.state) × (l.state.plan ≡ l.fn.plan)
