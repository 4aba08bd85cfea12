-- What tasks are to do stands at its path.
use Rattle.std.specs.Prelude.{◌≡◌, ℕ, ◌≤◌, length, All, Option, Some, None}
use Rattle.fizz_piece.specs.declared.plan.Plan.{Plan}
use Rattle.fizz_piece.specs.Pieces.{page_under}
use Rattle.fizz_piece.specs.Places.{place_in}
use Rattle.jsx_value.specs.SeenPlaces.{place_at}
use Rattle.fizz_task.specs.declared.state.State.{State}
use Rattle.fizz_task.specs.declared.state.State.TheVariants.{Gone, Runnable, Claimed, Waiting}
use Rattle.request_state.specs.declared.job.Claim.{Claim}
use Rattle.request_state.specs.declared.job.Job.{Job}
use Rattle.request_state.specs.declared.job.Place.{Place}
use Rattle.request_state.specs.Core.{Core}

-- A place stands at its path, where so many outcomes of the plan are known.
abbrev pub Stands : Plan → ℕ → Place → Type 0
Stands plan settled place = place_in (page_under plan settled) place.path ≡ Some (place_at place.spot place.scope)

pub record JobStands (plan : Plan) (settled : ℕ) (job : Job) : Type 0 where
  pub given : Stands plan settled job.given
  pub kept : Stands plan settled job.kept

abbrev pub TaskStands : Plan → ℕ → State Job → Type 0
TaskStands plan settled Gone = Unit {0}
TaskStands plan settled (Runnable job) = JobStands plan settled job
TaskStands plan settled (Claimed claim) = Unit {0}
TaskStands plan settled (Waiting resource job) = JobStands plan settled job

-- What is kept of a claimed task was handed out when no more was settled, and stands at its path.
pub record IsKeptClaim (plan : Plan) (settled : ℕ) (claim : Claim) : Type 0 where
  pub within : claim.settled ≤ settled
  pub stands : Stands plan settled claim.place

abbrev pub ClaimStands : Plan → ℕ → Option Claim → Type 0
ClaimStands plan settled None = Unit {0}
ClaimStands plan settled (Some claim) = IsKeptClaim plan settled claim

-- No more is settled than the plan has outcomes, and what each task is to do stands at its path.
pub record WorksStand (plan : Plan) (core : Core) : Type 0 where
  pub within : core.settled ≤ length plan.outcomes.now
  pub tasks : All (TaskStands plan core.settled) core.tasks.states
  pub claims : All (ClaimStands plan core.settled) core.claims
