use Rattle.std.proofs.Common.{◌≡◌, ◌+◌, ◌-◌, ◌≤◌, ℕ, length}
use Rattle.request_state.specs.Core.{Core, core_of}
use Rattle.request_state.specs.Closing.{FailEach}
use Rattle.request_state.proofs.state.State.fail_each.Given as goal

abbrev pub invariant-boundaries : goal.invariant-boundaries
invariant-boundaries l =
    (l.boundary-end ≡ length l.initial.self.boundaries.bounds)
    × (l.failed ≤ l.boundary)
    × (l.self.plan ≡ l.initial.self.plan)
    × ((end : Core) (others : ℕ) → FailEach (l.boundary-end - l.boundary) l.boundary (core_of l.self) end others
    → FailEach l.boundary-end 0 (core_of l.initial.self) end (others + l.failed))
