-- How many tasks the shell and each boundary have.
use Rattle.std.specs.Prelude.{◌≡◌, ℕ, ◌+◌, ◌≤◌, false, not, ◌&&◌, List, [], ◌∷◌, Option, Some, None}
use Rattle.fizz_boundary.specs.Bounds.{bound_at}
use Rattle.fizz_boundary.specs.declared.boundary.Bound.{Bound}
use Rattle.fizz_boundary.specs.declared.boundary.State.{State as BoundState}
use Rattle.fizz_boundary.specs.declared.boundary.State.TheVariants.{Pending, Complete, Failed}
use Rattle.fizz_task.specs.declared.state.State.{State}
use Rattle.fizz_task.specs.Board.{one}
use Rattle.fizz_task.specs.Calls.{same_owner}
use Rattle.fizz_task.specs.Indexed.{is_gone}
use Rattle.request_state.specs.declared.job.Job.{Job}
use Rattle.request_state.specs.Closing.{has_failed_around}
use Rattle.request_state.specs.Core.{Core}
use Rattle.state_laws.specs.Tasks.{TasksFit}

-- how many of these tasks, with these owners, are left and are an owner's
abbrev pub count_owned : Option ℕ → List (Option ℕ) → List (State Job) → ℕ
count_owned owner [] states = 0
count_owned owner (first ∷ owners) [] = 0
count_owned owner (first ∷ owners) (state ∷ states) =
    one (same_owner owner first && not (is_gone state)) + count_owned owner owners states

-- how many tasks a boundary has that are left, or the shell
abbrev pub tasks_of : Core → Option ℕ → ℕ
tasks_of core owner = count_owned owner core.tasks.owners core.tasks.states

-- A boundary of so many tasks is pending with this count, which isn't 0, or complete where there are none. Of one that has
-- failed nothing is said.
abbrev pub StateCounts : ℕ → BoundState → Type 0
StateCounts count (Pending tasks bytes) = (tasks ≡ count) × (1 ≤ count)
StateCounts count (Complete bytes) = count ≡ 0
StateCounts count (Failed digest) = Unit {0}

-- the same of a boundary; of one that was never made nothing is said
abbrev pub BoundCounts : ℕ → Option Bound → Type 0
BoundCounts count None = Unit {0}
BoundCounts count (Some bound) = StateCounts count bound.state

-- Neither a boundary nor one around it has failed.
abbrev pub IsLive : Core → ℕ → Type 0
IsLive core boundary = has_failed_around core.boundaries.bounds boundary ≡ false

-- Each live boundary counts the tasks that it owns, and is complete exactly where it has none; and so many tasks as are
-- counted are the shell's.
pub record TasksCounted (core : Core) : Type 0 where
  pub tasks : TasksFit core
  pub counts : (boundary : ℕ) → IsLive core boundary
      → BoundCounts (tasks_of core (Some boundary)) (bound_at core.boundaries.bounds boundary)
  pub shell : core.shell_tasks ≡ tasks_of core None
