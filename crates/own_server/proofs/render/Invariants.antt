use Rattle.std.proofs.Common.{◌≡◌}
use Rattle.request_state.specs.Core.{core_of}
use Rattle.request_laws.specs.Works.{WorksStand}
use Rattle.own_server.proofs.render.Given as goal

abbrev pub invariant-works : goal.invariant-works
invariant-works l = WorksStand l.fn.state.plan (core_of l.state) × (l.state.plan ≡ l.fn.state.plan)
