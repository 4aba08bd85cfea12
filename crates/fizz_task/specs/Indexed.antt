-- How tasks are found by their owner and by the resource for which they wait: each stands in a list whose number comes
-- from the owner or the name. Other tasks may stand there too.
use Rattle.std.specs.Prelude.{◌≡◌, ◌+◌, ◌-◌, ◌*◌, ◌%◌, ◌<◌, ◌≤◌, ℕ, Bool, true, false, List, [], ◌∷◌, ◌++◌, length, map, filter, Option, Some, None}
use Rattle.id_lists.specs.Lists.{AreLists, Lists, after, list_at, times as times_in}
use Rattle.id_lists.specs.Calls.{with_pushed, without}
use Rattle.fizz_task.specs.declared.state.State.{State}
use Rattle.fizz_task.specs.declared.state.State.TheVariants.{Gone, Runnable, Claimed, Waiting}
use Rattle.fizz_task.specs.Board.{Board, IsBoard, one, state_at, times, waits_for}
use Rattle.fizz_task.specs.Calls.{dropped, is_owned, owner_at, woken}

-- among so many lists, the one of an owner
abbrev pub owner_list : ℕ → Option ℕ → ℕ
owner_list count None = 0
owner_list count (Some owner) = 1 + owner % (count - 1)

-- a number for some bytes, as good as at random
abbrev pub hash_from : ℕ → List ℕ → ℕ
hash_from hash [] = hash
hash_from hash (byte ∷ bytes) = hash_from ((hash * 257 + byte) % 4294967291) bytes

-- among so many lists, the one of a name
abbrev pub name_list : ℕ → List ℕ → ℕ
name_list count name = hash_from 0 name % count

-- an id leaves its list, and becomes the last of this one
abbrev pub moved : Option ℕ → ℕ → List (List ℕ) → List (List ℕ)
moved None id lists = without id lists
moved (Some list) id lists = with_pushed list id (without id lists)

abbrev pub HasList : Option ℕ → List (List ℕ) → Type 0
HasList None lists = Unit {0}
HasList (Some list) lists = list < length lists

-- each of the first tasks that has a place stands there
abbrev pub IsGuide : ℕ → (ℕ → Option ℕ) → List (List ℕ) → Type 0
IsGuide made place lists =
    (task list : ℕ) → task < made → place task ≡ Some list → 0 < times_in task (list_at lists list)

-- there is an id for each task, and for each spare one; and where there are any, there are two lists
pub record HasPlaces (made spare : ℕ) (all : Lists) : Type 0 where
  pub ids : all.ids ≡ made
  pub spare_ids : spare ≤ all.spare_ids
  pub lists : AreLists all
  pub some : 0 < made + spare → 1 < length all.lists

-- lists with more room for lists and ids
pub record IsRoomier (old new : Lists) : Type 0 where
  pub same_lists : new.lists ≡ old.lists
  pub same_ids : new.ids ≡ old.ids
  pub more_ids : old.spare_ids ≤ new.spare_ids
  pub good : AreLists new

-- the first tasks were put where they belong
pub record IsFilled (made spare count task : ℕ) (place : ℕ → Option ℕ) (all : Lists) : Type 0 where
  pub places : HasPlaces made spare all
  pub counted : length all.lists ≡ count
  pub guide : IsGuide task place all.lists

-- lists were added
pub record HasMore (added : ℕ) (old new : Lists) : Type 0 where
  pub same_ids : new.ids ≡ old.ids
  pub same_spare : new.spare_ids ≡ old.spare_ids
  pub longer : length new.lists ≡ length old.lists + added
  pub fewer_spare : new.spare_lists + added ≡ old.spare_lists
  pub good : AreLists new

-- from an id of a list on
abbrev pub rest : Option ℕ → List ℕ → List ℕ
rest None ids = []
rest (Some id) ids = id ∷ after id ids

-- a list is gone through, and what passes a test is found
pub record IsFinding (test : ℕ → Bool) (ids found : List ℕ) (next : Option ℕ) : Type 0 where
  pub stands : (id : ℕ) → next ≡ Some id → 0 < times_in id ids
  pub total : found ++ filter test (rest next ids) ≡ filter test ids

module _ {W : Type 0} where
  -- a task that isn't gone has a place by its owner
  abbrev pub owner_place : ℕ → Option ℕ → State W → Option ℕ
  owner_place count owner Gone = None
  owner_place count owner (Runnable payload) = Some (owner_list count owner)
  owner_place count owner (Claimed claim) = Some (owner_list count owner)
  owner_place count owner (Waiting resource payload) = Some (owner_list count owner)

  -- a task that waits has a place by the name
  abbrev pub name_place : ℕ → State W → Option ℕ
  name_place count Gone = None
  name_place count (Runnable payload) = None
  name_place count (Claimed claim) = None
  name_place count (Waiting resource payload) = Some (name_list count resource)

  abbrev pub owner_places : Board W → ℕ → ℕ → Option ℕ
  owner_places board count task = owner_place count (owner_at board.owners task) (state_at board.states task)

  abbrev pub name_places : Board W → ℕ → ℕ → Option ℕ
  name_places board count task = name_place count (state_at board.states task)

  pub record IsIndexed (board : Board W) (by_owner by_name : Lists) : Type 0 where
    pub owner_ids : HasPlaces (length board.states) board.spare by_owner
    pub name_ids : HasPlaces (length board.states) board.spare by_name
    pub owners : IsGuide (length board.states) (owner_places board (length by_owner.lists)) by_owner.lists
    pub names : IsGuide (length board.states) (name_places board (length by_name.lists)) by_name.lists

  -- only one task changed its state
  pub record DiffersAt (task : ℕ) (old new : Board W) : Type 0 where
    pub owners : new.owners ≡ old.owners
    pub spare : new.spare ≡ old.spare
    pub made : length new.states ≡ length old.states
    pub states : (other : ℕ) → (other ≡ task → ⊥) → state_at new.states other ≡ state_at old.states other

  -- one task more
  pub record IsAdded (old new : Board W) : Type 0 where
    pub spare : new.spare + 1 ≡ old.spare
    pub made : length new.states ≡ length old.states + 1
    pub owners : (other : ℕ) → other < length old.states → owner_at new.owners other ≡ owner_at old.owners other
    pub states : (other : ℕ) → other < length old.states → state_at new.states other ≡ state_at old.states other

  abbrev pub is_gone : State W → Bool
  is_gone Gone = true
  is_gone (Runnable payload) = false
  is_gone (Claimed claim) = false
  is_gone (Waiting resource payload) = false

  -- the tasks of an owner are let go as its list is gone through; those to come are in what is left of it
  pub record IsDropping (owner : Option ℕ) (list : ℕ) (start now : Board W) (by_owner by_name : Lists) (next : Option ℕ)
      : Type 0 where
    pub indexed : IsIndexed now by_owner by_name
    pub board : IsBoard now
    pub own : list ≡ owner_list (length by_owner.lists) owner
    pub stands : (task : ℕ) → next ≡ Some task → 0 < times_in task (list_at by_owner.lists list)
    pub left : (task : ℕ) → is_owned owner now.owners task ≡ true → is_gone (state_at now.states task) ≡ false
        → 0 < times_in task (rest next (list_at by_owner.lists list))
    pub same : dropped owner now ≡ dropped owner start

  -- of the tasks that waited for a resource, these are left to be woken
  pub record IsWaking (name : List ℕ) (start now : Board W) (by_owner by_name : Lists) (left woken_ones : List ℕ) : Type 0 where
    pub indexed : IsIndexed now by_owner by_name
    pub waits : (task : ℕ) → times task left ≡ one (waits_for name (state_at now.states task))
    pub states : map (woken name) now.states ≡ map (woken name) start.states
    pub queue : now.queue ++ left ≡ start.queue ++ woken_ones
    pub owners : now.owners ≡ start.owners
    pub claims : now.claims ≡ start.claims
    pub spare : now.spare ≡ start.spare
