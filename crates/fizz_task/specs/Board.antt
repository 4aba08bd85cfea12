-- What tasks are to those who use them: plain data.
use Rattle.std.specs.Prelude.{◌≡◌, ◌+◌, ◌<◌, ◌^◌, ◌==◌, ℕ, Bool, true, false, if◌then◌else◌, List, [], ◌∷◌, length, slice_index_or, Option, Some, None}
use Rattle.std.specs.Str.{bytes_eq}
use Rattle.fizz_task.specs.declared.state.State.{State}
use Rattle.fizz_task.specs.declared.state.State.TheVariants.{Gone, Runnable, Claimed, Waiting}

-- By number: the owner of each task that was made, and its state. Then the numbers of the runnable tasks, the first to
-- be claimed first; the number of the next claim; and how many tasks more can be made without memory.
pub record Board (W : Type 0) : Type 0 where
  pub owners : List (Option ℕ)
  pub states : List (State W)
  pub queue : List ℕ
  pub claims : ℕ
  pub spare : ℕ

abbrev pub one : Bool → ℕ
one true = 1
one false = 0

-- how often a number stands in a list
abbrev pub times : ℕ → List ℕ → ℕ
times n [] = 0
times n (m ∷ ms) = one (n == m) + times n ms

module _ {W : Type 0} where
  -- the state of a task; one that was never made is gone
  abbrev pub state_at : List (State W) → ℕ → State W
  state_at states task = slice_index_or states task Gone

  -- the number under which a task is claimed
  abbrev pub claim_of : State W → Option ℕ
  claim_of Gone = None
  claim_of (Runnable payload) = None
  claim_of (Claimed claim) = Some claim
  claim_of (Waiting resource payload) = None

  abbrev pub is_runnable : State W → Bool
  is_runnable Gone = false
  is_runnable (Runnable payload) = true
  is_runnable (Claimed claim) = false
  is_runnable (Waiting resource payload) = false

  abbrev pub is_claimed : State W → Bool
  is_claimed Gone = false
  is_claimed (Runnable payload) = false
  is_claimed (Claimed claim) = true
  is_claimed (Waiting resource payload) = false

  abbrev pub is_waiting : State W → Bool
  is_waiting Gone = false
  is_waiting (Runnable payload) = false
  is_waiting (Claimed claim) = false
  is_waiting (Waiting resource payload) = true

  -- whether it waits for this resource
  abbrev pub waits_for : List ℕ → State W → Bool
  waits_for name Gone = false
  waits_for name (Runnable payload) = false
  waits_for name (Claimed claim) = false
  waits_for name (Waiting resource payload) = bytes_eq name resource

  abbrev pub count_of : (State W → Bool) → List (State W) → ℕ
  count_of test [] = 0
  count_of test (state ∷ later) = one (test state) + count_of test later

  -- the numbers, from `first` on, of the states that pass a test
  abbrev pub numbers_from : (State W → Bool) → ℕ → List (State W) → List ℕ
  numbers_from test first [] = []
  numbers_from test first (state ∷ later) =
      if test state then first ∷ numbers_from test (first + 1) later else numbers_from test (first + 1) later

  -- the tasks that wait for a resource, in ascending order
  abbrev pub waiters : List ℕ → List (State W) → List ℕ
  waiters name states = numbers_from (waits_for name) 0 states

  -- claim numbers are below the next one, and no two tasks have the same
  pub record AreNumbered (states : List (State W)) (claims : ℕ) : Type 0 where
    pub below : (task claim : ℕ) → claim_of (state_at states task) ≡ Some claim → claim < claims
    pub apart : (task other claim : ℕ) → claim_of (state_at states task) ≡ Some claim
        → claim_of (state_at states other) ≡ Some claim → task ≡ other

  -- what is true of all tasks
  pub record IsBoard (board : Board W) : Type 0 where
    pub owned : length board.owners ≡ length board.states
    -- so every number that a task can get is below 4,294,967,295
    pub few : length board.states + board.spare < 2 ^ 32
    -- the queue has exactly the runnable tasks, each once
    pub queued : (task : ℕ) → times task board.queue ≡ one (is_runnable (state_at board.states task))
    pub numbered : AreNumbered board.states board.claims
    pub counted : board.claims < 2 ^ 64
