use Rattle.std.proofs.Common.{◌≡◌, ◌-◌, length, Some}
use Rattle.request_state.specs.Closing.{has_failed}
use Rattle.request_state.proofs.closing.has_failed.Given as goal

abbrev pub invariant-around : goal.invariant-around
invariant-around l =
    has_failed (length l.boundaries.bounds - l.step) l.boundaries.bounds l.around
    ≡ has_failed (length l.boundaries.bounds) l.boundaries.bounds (Some l.boundary)
