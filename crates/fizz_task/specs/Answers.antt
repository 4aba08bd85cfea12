-- What the calls on tasks answer.
use Rattle.std.specs.Prelude.{◌≡◌, ℕ, ◌∷◌}
use Rattle.fizz_task.specs.declared.state.State.{State}
use Rattle.fizz_task.specs.declared.state.State.TheVariants.{Gone, Runnable, Claimed, Waiting}
use Rattle.fizz_task.specs.declared.state.TaskState.{TaskState}
use Rattle.fizz_task.specs.declared.state.TaskState.TheVariants.{Gone as GoneShown, Runnable as RunnableShown, Claimed as ClaimedShown, Waiting as WaitingShown}
use Rattle.fizz_task.specs.declared.state.Claimed.{Claimed as Claim}
use Rattle.fizz_task.specs.declared.state.StaleTask.{StaleTask}
use Rattle.fizz_task.specs.Board.{Board, claim_of, state_at}
use Rattle.fizz_task.specs.Calls.{claimed}

module _ {W : Type 0} where
  -- the state without its payload
  abbrev pub Shows : TaskState → State W → Type 0
  Shows GoneShown Gone = Unit {0}
  Shows GoneShown (Runnable payload) = ⊥
  Shows GoneShown (Claimed claim) = ⊥
  Shows GoneShown (Waiting resource payload) = ⊥
  Shows RunnableShown Gone = ⊥
  Shows RunnableShown (Runnable payload) = Unit {0}
  Shows RunnableShown (Claimed claim) = ⊥
  Shows RunnableShown (Waiting resource payload) = ⊥
  Shows (ClaimedShown number) Gone = ⊥
  Shows (ClaimedShown number) (Runnable payload) = ⊥
  Shows (ClaimedShown number) (Claimed claim) = number ≡ claim
  Shows (ClaimedShown number) (Waiting resource payload) = ⊥
  Shows (WaitingShown name) Gone = ⊥
  Shows (WaitingShown name) (Runnable payload) = ⊥
  Shows (WaitingShown name) (Claimed claim) = ⊥
  Shows (WaitingShown name) (Waiting resource payload) = name.now ≡ resource

  -- the first of the queue is claimed under the next number
  pub record Claims (old new : Board W) (claim : Claim W) : Type 0 where
    pub first : old.queue ≡ claim.task ∷ new.queue
    pub payload : state_at old.states claim.task ≡ Runnable claim.payload
    pub number : claim.claim ≡ old.claims
    pub changed : new ≡ claimed claim.task new.queue old

  -- the payload comes back, with the number under which the task is claimed, and nothing changes
  pub record IsRefused (old new : Board W) (task : ℕ) (payload : W) (stale : StaleTask W) : Type 0 where
    pub returned : stale.payload ≡ payload
    pub now : stale.now ≡ claim_of (state_at old.states task)
    pub unchanged : new ≡ old
