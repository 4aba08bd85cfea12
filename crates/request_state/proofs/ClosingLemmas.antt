-- Boundaries that have failed, around others.
use Rattle.std.proofs.Common.{◌≡◌, ℕ, suc, ◌+◌, ◌-◌, ◌<◌, true, false, Some, List, sym, subst, refl, arith}
use Rattle.std.proofs.lemmas.Bool.{cond-false}
use Rattle.fizz_boundary.specs.Bounds.{bound_at}
use Rattle.fizz_boundary.specs.declared.boundary.Bound.{Bound}
use Rattle.request_state.specs.Core.{Core}
use Rattle.request_state.specs.Failing.{FailsBoundary, outer_of}
use Rattle.request_state.specs.Closing.{FailEach, has_failed, is_failed, is_working, unsettled}

pub has_failed-step : (bounds : List Bound) (inner step total : ℕ) → step < total → is_failed (bound_at bounds inner) ≡ false
    → has_failed (total - step) bounds (Some inner)
    ≡ has_failed (total - (step + 1)) bounds (outer_of (bound_at bounds inner))
has_failed-step bounds inner step total inside well =
    let more : total - step ≡ suc (total - (step + 1)) = omega (arith, inside) in
    subst
    (λ k. has_failed k bounds (Some inner)
    ≡ has_failed (total - (step + 1)) bounds (outer_of (bound_at bounds inner)))
    (sym more) (cond-false (is_failed (bound_at bounds inner)) _ _ well)

-- a boundary that works fails first
pub FailEach-fails : (count boundary others : ℕ) (old between end : Core) → is_working old.boundaries.bounds boundary ≡ true
    → FailsBoundary boundary unsettled old between → FailEach count (boundary + 1) between end others
    → FailEach (suc count) boundary old end (others + 1)
FailEach-fails count boundary others old between end works fails rest =
    rw works (record { between = between; others = others; fails = fails; goes_on = rest; counted = refl })

-- another one is passed over
pub FailEach-passes : (count boundary others : ℕ) (old end : Core) → is_working old.boundaries.bounds boundary ≡ false
    → FailEach count (boundary + 1) old end others → FailEach (suc count) boundary old end others
FailEach-passes count boundary others old end idle rest = rw idle rest
