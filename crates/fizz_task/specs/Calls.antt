-- What each call makes of the tasks.
use Rattle.std.specs.Prelude.{◌≡◌, ◌⊎◌, ◌+◌, ◌-◌, ◌^◌, ◌==◌, max, ℕ, Bool, not, if◌then◌else◌, List, [], ◌∷◌, ◌++◌, length, map, filter, nat_eq, slice_index_or, slice_set, Option, Some, None}
use Rattle.std.specs.Option.{option_eq}
use Rattle.std.specs.Str.{bytes_eq}
use Rattle.fizz_task.specs.declared.state.State.{State}
use Rattle.fizz_task.specs.declared.state.State.TheVariants.{Gone, Runnable, Claimed, Waiting}
use Rattle.fizz_task.specs.Board.{Board, count_of, is_claimed, state_at, waiters}

abbrev pub same_owner : Option ℕ → Option ℕ → Bool
same_owner = option_eq nat_eq

-- the owner of a task; one that was never made has none
abbrev pub owner_at : List (Option ℕ) → ℕ → Option ℕ
owner_at owners task = slice_index_or owners task None

-- whether a task is one of this owner
abbrev pub is_owned : Option ℕ → List (Option ℕ) → ℕ → Bool
is_owned owner owners task = same_owner owner (owner_at owners task)

module _ {W : Type 0} where
  abbrev pub no_tasks : Board W
  no_tasks = record { owners = []; states = []; queue = []; claims = 0; spare = 0 }

  abbrev pub reserved : ℕ → Board W → Board W
  reserved n board = record board { spare = max board.spare n }

  -- one task more; if it waits for nothing, it is last in the queue
  abbrev pub spawned : Option ℕ → W → Option (List ℕ) → Board W → Board W
  spawned owner payload None board = record board {
    owners = board.owners ++ owner ∷ [];
    states = board.states ++ Runnable payload ∷ [];
    queue = board.queue ++ length board.states ∷ [];
    spare = board.spare - 1;
  }
  spawned owner payload (Some resource) board = record board {
    owners = board.owners ++ owner ∷ [];
    states = board.states ++ Waiting resource payload ∷ [];
    spare = board.spare - 1;
  }

  -- a task that leaves the queue, of which `rest` is left
  abbrev pub claimed : ℕ → List ℕ → Board W → Board W
  claimed task rest board = record board {
    states = slice_set board.states task (Claimed board.claims);
    queue = rest;
    claims = board.claims + 1;
  }

  -- nothing is runnable, or the numbers of claims are used up
  abbrev pub HasNoClaim : Board W → Type 0
  HasNoClaim board = (board.queue ≡ []) ⊎ (board.claims ≡ 2 ^ 64 - 1)

  -- a claimed task that becomes the last of the queue
  abbrev pub returned : ℕ → W → Board W → Board W
  returned task payload board = record board {
    states = slice_set board.states task (Runnable payload);
    queue = board.queue ++ task ∷ [];
  }

  abbrev pub put_off : ℕ → W → List ℕ → Board W → Board W
  put_off task payload resource board = record board { states = slice_set board.states task (Waiting resource payload) }

  abbrev pub ended : ℕ → Board W → Board W
  ended task board = record board { states = slice_set board.states task Gone }

  abbrev pub woken : List ℕ → State W → State W
  woken name Gone = Gone
  woken name (Runnable payload) = Runnable payload
  woken name (Claimed claim) = Claimed claim
  woken name (Waiting resource payload) = if bytes_eq name resource then Runnable payload else Waiting resource payload

  -- all that wait for a resource become runnable, in ascending order
  abbrev pub settled : List ℕ → Board W → Board W
  settled name board = record board {
    states = map (woken name) board.states;
    queue = board.queue ++ waiters name board.states;
  }

  -- one of those that wait becomes runnable, the last of the queue
  abbrev pub woken_one : List ℕ → ℕ → Board W → Board W
  woken_one name task board = record board {
    states = slice_set board.states task (woken name (state_at board.states task));
    queue = board.queue ++ task ∷ [];
  }

  -- a task is gone
  abbrev pub let_go : ℕ → Board W → Board W
  let_go task board = record board {
    states = slice_set board.states task Gone;
    queue = filter (λ n. not (task == n)) board.queue;
  }

  abbrev pub without_owned : Option ℕ → List (Option ℕ) → List (State W) → List (State W)
  without_owned owner [] states = states
  without_owned owner (first ∷ owners) [] = []
  without_owned owner (first ∷ owners) (state ∷ states) =
      (if same_owner owner first then Gone else state) ∷ without_owned owner owners states

  -- all tasks of an owner are gone
  abbrev pub dropped : Option ℕ → Board W → Board W
  dropped owner board = record board {
    states = without_owned owner board.owners board.states;
    queue = filter (λ task. not (is_owned owner board.owners task)) board.queue;
  }

  abbrev pub renumbered : Board W → Board W
  renumbered board = record board { claims = 0 }

  abbrev pub IsUnclaimed : Board W → Type 0
  IsUnclaimed board = count_of is_claimed board.states ≡ 0
