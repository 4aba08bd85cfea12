-- The end of a page: what waits for what is never settled fails.
use Rattle.std.specs.Prelude.{◌≡◌, ℕ, zero, suc, ◌+◌, ◌-◌, ◌<◌, ◌≤◌, Bool, true, false, not, ◌&&◌, if◌then◌else◌, is_some, List, codes, length, Option, Some, None}
use Rattle.fizz_boundary.specs.Bounds.{bound_at, tasks_left}
use Rattle.fizz_boundary.specs.declared.boundary.Bound.{Bound}
use Rattle.fizz_boundary.specs.declared.boundary.State.{State}
use Rattle.fizz_boundary.specs.declared.boundary.State.TheVariants.{Pending, Complete, Failed}
use Rattle.settle_script.specs.declared.value.Entry.{Entry}
use Rattle.settle_script.specs.declared.outcome.Outcome.{Outcome}
use Rattle.fizz_task.specs.Board.{count_of, is_claimed, is_runnable}
use Rattle.request_state.specs.declared.closing.Busy.{Busy}
use Rattle.request_state.specs.Core.{Core}
use Rattle.request_state.specs.Failing.{FailsBoundary, outer_of, with_shell_failed}

-- the digest of what waits for what is never settled
abbrev pub unsettled : List ℕ
unsettled = codes "unsettled"

abbrev pub is_failed_state : State → Bool
is_failed_state (Pending tasks bytes) = false
is_failed_state (Complete bytes) = false
is_failed_state (Failed digest) = true

abbrev pub is_failed : Option Bound → Bool
is_failed None = false
is_failed (Some bound) = is_failed_state bound.state

-- whether one of so many boundaries, of which each is around the one before, has failed
abbrev pub has_failed : ℕ → List Bound → Option ℕ → Bool
has_failed zero bounds inner = false
has_failed (suc n) bounds None = false
has_failed (suc n) bounds (Some inner) =
    if is_failed (bound_at bounds inner) then true else has_failed n bounds (outer_of (bound_at bounds inner))

abbrev pub failed_at : List Bound → ℕ → Bool
failed_at bounds boundary = is_failed (bound_at bounds boundary)

-- whether a boundary or one around it has failed
abbrev pub has_failed_around : List Bound → ℕ → Bool
has_failed_around bounds boundary = has_failed (length bounds) bounds (Some boundary)

-- Whether a boundary has tasks of its own, since neither it nor one around it has failed.
abbrev pub is_working : List Bound → ℕ → Bool
is_working bounds boundary =
    is_some (tasks_left (bound_at bounds boundary)) && not (has_failed_around bounds boundary)

-- A boundary fails or doesn't, and then it goes on, with so many failures.
pub record FailsFirst (boundary : ℕ) (old : Core) (Then : Core → ℕ → Type 0) (failed : ℕ) : Type 0 where
  pub between : Core
  pub others : ℕ
  pub fails : FailsBoundary boundary unsettled old between
  pub goes_on : Then between others
  pub counted : failed ≡ others + 1

abbrev pub FailsIf : Bool → ℕ → Core → (Core → ℕ → Type 0) → ℕ → Type 0
FailsIf true boundary old Then failed = FailsFirst boundary old Then failed
FailsIf false boundary old Then failed = Then old failed

-- Of so many boundaries from this one on, each that has tasks of its own fails, in ascending order; so many failed.
abbrev pub FailEach : (count from : ℕ) → Core → Core → ℕ → Type 0
FailEach zero from old new failed = (old ≡ new) × (failed ≡ 0)
FailEach (suc count) from old new failed =
    FailsIf (is_working old.boundaries.bounds from) from old (λ between others. FailEach count (from + 1) between new others) failed

-- A shell that has a task fails; else each boundary that has one does.
abbrev pub Closes : ℕ → Core → Core → ℕ → Type 0
Closes zero old new failed = FailEach (length old.boundaries.bounds) 0 old new failed
Closes (suc tasks) old new failed = (new ≡ with_shell_failed unsettled old) × (failed ≡ 0)

-- Nothing is runnable or claimed, and every outcome is settled.
pub record IsIdle (outcomes : List (Entry Outcome)) (core : Core) : Type 0 where
  pub runnable : count_of is_runnable core.tasks.states ≡ 0
  pub claimed : count_of is_claimed core.tasks.states ≡ 0
  pub settled : length outcomes ≤ core.settled

-- The three counts are told, of which one is above 0.
pub record IsBusy (outcomes : List (Entry Outcome)) (core : Core) (busy : Busy) : Type 0 where
  pub runnable : busy.runnable ≡ count_of is_runnable core.tasks.states
  pub claimed : busy.claimed ≡ count_of is_claimed core.tasks.states
  pub unsettled : busy.unsettled ≡ length outcomes - core.settled
  pub some : 0 < busy.runnable + busy.claimed + busy.unsettled
