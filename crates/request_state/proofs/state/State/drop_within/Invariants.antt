use Rattle.std.proofs.Common.{◌≡◌, ℕ, List, length, nat_lt, ◌&&◌}
use Rattle.id_lists.specs.Lists.{one, times}
use Rattle.request_state.specs.Core.{core_of}
use Rattle.request_state.specs.Failing.{all_dropped, is_within}
use Rattle.request_state.proofs.state.State.drop_within.Given as goal

abbrev pub invariant-boundaries : goal.invariant-boundaries
invariant-boundaries l =
    (l.boundary ≡ l.initial.boundary)
    × (l.inner-end ≡ length l.initial.self.boundaries.bounds)
    × (l.self.boundaries ≡ l.initial.self.boundaries)
    × (l.self.plan ≡ l.initial.self.plan)
    × ((within : List ℕ) × (((n : ℕ) → times n within
    ≡ one (nat_lt n l.inner && is_within l.initial.self.boundaries.bounds l.initial.boundary n))
    × (core_of l.self ≡ all_dropped within (core_of l.initial.self))))
