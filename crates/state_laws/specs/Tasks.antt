-- The tables of tasks fit each other.
use Rattle.std.specs.Prelude.{◌≡◌, ℕ, ◌<◌, false, length, Some}
use Rattle.fizz_task.specs.Board.{state_at}
use Rattle.fizz_task.specs.Calls.{owner_at}
use Rattle.fizz_task.specs.Indexed.{is_gone}
use Rattle.request_state.specs.Core.{Core}

-- A task was made, and isn't gone.
abbrev pub IsLeft : Core → ℕ → Type 0
IsLeft core task = is_gone (state_at core.tasks.states task) ≡ false

-- The tables of tasks have a place for each task, and owners that were made.
pub record TasksFit (core : Core) : Type 0 where
  -- each task has an owner
  pub owned : length core.tasks.owners ≡ length core.tasks.states
  -- where a task is left, each has a place for its claim
  pub places : (task : ℕ) → IsLeft core task → length core.claims ≡ length core.tasks.states
  -- a boundary that owns a task that is left was made
  pub owners : (task boundary : ℕ) → IsLeft core task
      → owner_at core.tasks.owners task ≡ Some boundary → boundary < length core.boundaries.bounds
