-- Tasks that wait.
use Rattle.std.specs.Prelude.{◌≡◌, ℕ, List, All, None}
use Rattle.settle_script.specs.Settlements.{known}
use Rattle.jsx_value.specs.SeenPlaces.{place_at}
use Rattle.fizz_piece.specs.declared.plan.Plan.{Plan}
use Rattle.fizz_piece.specs.Pieces.{WaitsFor, page_under}
use Rattle.fizz_piece.specs.Places.{position_of}
use Rattle.fizz_task.specs.declared.state.State.{State}
use Rattle.fizz_task.specs.declared.state.State.TheVariants.{Gone, Runnable, Claimed, Waiting}
use Rattle.request_state.specs.declared.job.Job.{Job}
use Rattle.request_state.specs.declared.job.Place.{Place}
use Rattle.request_state.specs.Core.{Core}

-- Where so many outcomes of the plan are known, the resource is none of them, and what stands at the place waits for it.
pub record PlaceWaits (plan : Plan) (settled : ℕ) (resource : List ℕ) (place : Place) : Type 0 where
  pub unknown : known plan.outcomes.now settled resource ≡ None
  pub waits : WaitsFor (position_of (page_under plan settled) (place_at place.spot place.scope)) resource

-- the place of a task that waits does so
abbrev pub TaskWaits : Plan → ℕ → State Job → Type 0
TaskWaits plan settled Gone = Unit {0}
TaskWaits plan settled (Runnable job) = Unit {0}
TaskWaits plan settled (Claimed number) = Unit {0}
TaskWaits plan settled (Waiting resource job) = PlaceWaits plan settled resource job.given

-- Each task that waits for a resource has a place that does, and the resource isn't settled yet.
pub record TasksWait (plan : Plan) (core : Core) : Type 0 where
  pub tasks : All (TaskWaits plan core.settled) core.tasks.states
