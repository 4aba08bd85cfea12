use Rattle.std.proofs.Common.{◌≡◌, ◌-◌, length, Some}
use Rattle.request_state.specs.Failing.{is_around}
use Rattle.request_state.proofs.failing.is_within.Given as goal

abbrev pub invariant-around : goal.invariant-around
invariant-around l =
    is_around (length l.boundaries.bounds - l.step) l.boundaries.bounds l.boundary l.around
    ≡ is_around (length l.boundaries.bounds) l.boundaries.bounds l.boundary (Some l.inner)
