-- What is claimed becomes runnable again.
use Rattle.std.specs.Prelude.{ℕ, zero, suc, ◌+◌, List, [], ◌∷◌, map, Option, Some, None}
use Rattle.fizz_task.specs.Board.{Board, claim_of, count_of, is_claimed, state_at}
use Rattle.fizz_task.specs.Calls.{renumbered, returned}
use Rattle.request_state.specs.declared.job.Claim.{Claim}
use Rattle.request_state.specs.declared.job.Job.{Job}
use Rattle.request_state.specs.Core.{Core, job_of}

-- what a claimed task is to do once more, if something is kept of it
abbrev pub job_kept : Option Claim → Option Job
job_kept None = None
job_kept (Some claim) = Some (job_of claim.segment claim.place)

abbrev pub returned_if : Option ℕ → ℕ → Job → Board Job → Board Job
returned_if None task job board = board
returned_if (Some claim) task job board = returned task job board

-- a claimed task becomes the last of the runnable ones, to do this
abbrev pub again : ℕ → Option Job → Board Job → Board Job
again task None board = board
again task (Some job) board = returned_if (claim_of (state_at board.states task)) task job board

-- of the tasks from this one on, each that is claimed does its job again
abbrev pub all_again : ℕ → List (Option Job) → Board Job → Board Job
all_again task [] board = board
all_again task (job ∷ later) board = all_again (task + 1) later (again task job board)

-- if no task is claimed, claims are numbered from 0
abbrev pub renumbered_if : ℕ → Board Job → Board Job
renumbered_if zero board = renumbered board
renumbered_if (suc claimed) board = board

abbrev pub renumbered_unless_claimed : Board Job → Board Job
renumbered_unless_claimed board = renumbered_if (count_of is_claimed board.states) board

abbrev pub nothing_kept : Option Claim → Option Claim
nothing_kept claim = None

-- Every claimed task is runnable again, in ascending order and after those that are. Then claims are numbered from 0.
abbrev pub with_reclaimed : Core → Core
with_reclaimed core = record core {
  tasks = renumbered_unless_claimed (all_again 0 (map job_kept core.claims) core.tasks);
  claims = map nothing_kept core.claims;
}
