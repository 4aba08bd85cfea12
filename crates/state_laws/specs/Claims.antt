-- Claims: their numbers, and what is kept of them.
use Rattle.std.specs.Prelude.{◌≡◌, ℕ, IsSome, Option, None}
use Rattle.fizz_task.specs.declared.state.State.{State}
use Rattle.fizz_task.specs.declared.state.State.TheVariants.{Gone, Runnable, Claimed, Waiting}
use Rattle.fizz_task.specs.Board.{AreNumbered, state_at}
use Rattle.request_state.specs.declared.job.Claim.{Claim}
use Rattle.request_state.specs.declared.job.Job.{Job}
use Rattle.request_state.specs.Claiming.{claim_at}
use Rattle.request_state.specs.Core.{Core}
use Rattle.state_laws.specs.Tasks.{TasksFit}

-- Of a claimed task something is kept, and of one that is runnable or waits nothing. What is kept of one that is gone
-- doesn't matter.
abbrev pub IsKeptOf : State Job → Option Claim → Type 0
IsKeptOf Gone claim = Unit {0}
IsKeptOf (Runnable job) claim = claim ≡ None
IsKeptOf (Claimed number) claim = IsSome claim
IsKeptOf (Waiting resource job) claim = claim ≡ None

-- Claim numbers are below the next one, no two tasks have the same, and what is kept fits the tasks.
pub record ClaimsFit (core : Core) : Type 0 where
  pub tasks : TasksFit core
  pub numbered : AreNumbered core.tasks.states core.tasks.claims
  pub kept : (task : ℕ) → IsKeptOf (state_at core.tasks.states task) (claim_at core.claims task)
