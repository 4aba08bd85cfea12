-- How tasks are kept. The queue that is kept may also have tasks that are gone.
use Rattle.std.specs.Prelude.{◌≡◌, ◌+◌, ◌<◌, ◌≤◌, ◌^◌, ◌==◌, ℕ, true, List, ◌∷◌, length, filter, Option}
use Rattle.fizz_task.specs.declared.state.State.{State}
use Rattle.fizz_task.specs.declared.state.State.TheVariants.{Gone, Runnable, Claimed, Waiting}
use Rattle.fizz_task.specs.Board.{AreNumbered, count_of, is_claimed, is_runnable, is_waiting, one, state_at, times}

module _ {W : Type 0} where
  -- how often a task stands in the queue that is kept, at least and at most
  abbrev pub least_times : State W → ℕ
  least_times Gone = 0
  least_times (Runnable payload) = 1
  least_times (Claimed claim) = 0
  least_times (Waiting resource payload) = 0

  abbrev pub most_times : State W → ℕ
  most_times Gone = 1
  most_times (Runnable payload) = 1
  most_times (Claimed claim) = 0
  most_times (Waiting resource payload) = 0

  -- the runnable ones of a queue
  abbrev pub runnable_in : List (State W) → List ℕ → List ℕ
  runnable_in states queue = filter (λ task. is_runnable (state_at states task)) queue

  pub record IsQueue (states : List (State W)) (queue : List ℕ) : Type 0 where
    pub least : (task : ℕ) → least_times (state_at states task) ≤ times task queue
    pub most : (task : ℕ) → times task queue ≤ most_times (state_at states task)
    pub made : (task : ℕ) → 0 < times task queue → task < length states

  -- the first runnable task of a queue was taken out, with those before it
  pub record IsFirst (states : List (State W)) (old new : List ℕ) (task : ℕ) : Type 0 where
    pub runnable : is_runnable (state_at states task) ≡ true
    pub first : runnable_in states old ≡ task ∷ runnable_in states new
    pub fewer : (other : ℕ) → times other new + one (other == task) ≤ times other old
    pub others : (other : ℕ) → is_runnable (state_at states other) ≡ true
        → times other new + one (other == task) ≡ times other old
    pub shorter : length new < length old

  -- tasks that aren't runnable were taken out of the front of a queue
  pub record DropsGone (states : List (State W)) (old new : List ℕ) : Type 0 where
    pub same : runnable_in states old ≡ runnable_in states new
    pub fewer : (other : ℕ) → times other new ≤ times other old
    pub others : (other : ℕ) → is_runnable (state_at states other) ≡ true → times other new ≡ times other old
    pub shorter : length new ≤ length old

  pub record HasCounts (states : List (State W)) (runnable claimed waiting : ℕ) : Type 0 where
    pub are_runnable : runnable ≡ count_of is_runnable states
    pub are_claimed : claimed ≡ count_of is_claimed states
    pub are_waiting : waiting ≡ count_of is_waiting states

  pub record IsKept (owners : List (Option ℕ)) (states : List (State W)) (queue : List ℕ) (claims spare : ℕ) : Type 0 where
    pub owned : length owners ≡ length states
    pub few : length states + spare < 2 ^ 32
    pub queued : IsQueue states queue
    pub numbered : AreNumbered states claims
    pub counted : claims < 2 ^ 64
    pub room : length queue + count_of is_claimed states + count_of is_waiting states ≤ length states

-- there is room for the spare tasks
pub record HasRoom (made spare owners_room states_room queue_room : ℕ) : Type 0 where
  pub for_owners : made + spare ≤ owners_room
  pub for_states : made + spare ≤ states_room
  pub for_queue : made + spare ≤ queue_room
