-- What a piece makes of the state.
use Rattle.std.specs.Prelude.{◌≡◌, ℕ, ◌+◌, ◌-◌, ◌^◌, ◌<◌, ◌≤◌, Bool, true, false, is_some, IfSome, IsSome, List, length, map, slice_set, Option, Some, None, Vec}
use Rattle.std.specs.declared.alloc.Global.{Global}
use Rattle.settle_script.specs.declared.value.Entry.{Entry}
use Rattle.settle_script.specs.declared.outcome.Outcome.{Outcome}
use Rattle.settle_script.specs.Settlements.{known}
use Rattle.fizz_piece.specs.declared.piece.Kid.{Kid}
use Rattle.fizz_piece.specs.declared.piece.Piece.{Piece}
use Rattle.fizz_piece.specs.declared.piece.Piece.TheVariants.{Done, Blocked, Failed}
use Rattle.fizz_piece.specs.declared.work.Work.{Work}
use Rattle.fizz_task.specs.Calls.{ended, put_off}
use Rattle.fizz_segment.specs.Tree.{part_at}
use Rattle.fizz_segment.specs.Calls.{IsLive, completed, is_complete}
use Rattle.fizz_boundary.specs.Bounds.{bound_at, tasks_left}
use Rattle.fizz_boundary.specs.Calls.{more, one_done, with_state}
use Rattle.flush_queues.specs.Telling.{HasPlacesIf, with_done}
use Rattle.request_state.specs.declared.committing.CommitRefused.{CommitRefused}
use Rattle.request_state.specs.declared.committing.CommitRefused.TheVariants.{Stale, OutOfMemory}
use Rattle.request_state.specs.declared.job.Claim.{Claim}
use Rattle.request_state.specs.Claiming.{claim_at, given_back, job_again, keeps, number_now, owner_of, segment_flags}
use Rattle.request_state.specs.declared.committing.Prepared.{Prepared}
use Rattle.request_state.specs.declared.state.State.{State}
use Rattle.request_state.specs.Core.{Core, core_of, free}
use Rattle.request_state.specs.Failing.{FailsOwner}
use Rattle.request_state.specs.Making.{HasRoomFor, made_of, with_all_made, with_kids}

-- A task is done, and its segment complete.
abbrev pub with_bytes : Work → ℕ → List ℕ → Core → Core
with_bytes work segment bytes core = record core {
  tasks = ended work.task core.tasks;
  claims = slice_set core.claims work.task None;
  segments = completed segment (segment_flags work.flags) bytes core.segments;
}

-- One task of the owner is done, which printed so many bytes, and so many are made.
abbrev pub counted : Option ℕ → (tasks bytes : ℕ) → Core → Core
counted None tasks bytes core = record core { shell_tasks = core.shell_tasks + tasks - 1 }
counted (Some boundary) tasks bytes core = record core {
  boundaries = with_state (one_done bytes) boundary (with_state (more tasks) boundary core.boundaries);
}

-- The queues are told that a segment of this owner is complete.
abbrev pub queued : Option ℕ → ℕ → Core → Core
queued owner segment core = record core {
  queues = with_done core.segments core.boundaries segment owner core.queues;
}

-- A piece is done: its segment has its bytes, and of each kid segments and tasks are made, of which one is the owner's.
abbrev pub with_piece : List (Entry Outcome) → Option ℕ → ℕ → Work → List ℕ → List Kid → Core → Core
with_piece outcomes owner segment work bytes kids core =
    queued owner segment (with_kids outcomes owner segment kids
    (counted owner (length kids) (length bytes) (with_bytes work segment bytes core)))

abbrev pub put_off_to : Work → List ℕ → Option Claim → Core → Core
put_off_to work resource None core = core
put_off_to work resource (Some claim) core = record core {
  tasks = put_off work.task (job_again work claim) resource core.tasks;
  claims = slice_set core.claims work.task None;
}

-- A task waits for a resource, with the segment that it has.
abbrev pub with_waiting : Work → List ℕ → Core → Core
with_waiting work resource core = put_off_to work resource (claim_at core.claims work.task) core

-- A task that found that it waits is runnable again where the resource is settled by now; else it waits.
abbrev pub with_blocked : List (Entry Outcome) → Work → List ℕ → Core → Core
with_blocked outcomes work resource core = waits (is_some (known outcomes core.settled resource))
  where
    waits : Bool → Core
    waits true = given_back work core
    waits false = with_waiting work resource core

abbrev pub work_in : Piece → Work
work_in (Done work bytes kids) = work
work_in (Blocked work resource) = work
work_in (Failed work digest) = work

-- A piece is taken by a state that is as before, but for the room that is kept for more.
pub record TakesPiece (outcomes : List (Entry Outcome)) (work : Work) (bytes : List ℕ) (kids : List Kid) (claim : Claim)
    (old new : Core) : Type 0 where
  pub roomy : Core
  pub same : free roomy ≡ free old
  pub taken : new ≡ with_piece outcomes (owner_of old work) claim.segment work bytes kids roomy

abbrev pub TakesPieceIf : List (Entry Outcome) → Work → List ℕ → List Kid → Option Claim → Core → Core → Type 0
TakesPieceIf outcomes work bytes kids None old new = ⊥
TakesPieceIf outcomes work bytes kids (Some claim) old new = TakesPiece outcomes work bytes kids claim old new

-- What a piece makes of the state: it is done, its task waits, or the owner of its task fails.
abbrev pub Commits : List (Entry Outcome) → Piece → Core → Core → Type 0
Commits outcomes (Done work bytes kids) old new =
    TakesPieceIf outcomes work bytes.items kids (claim_at old.claims work.task) old new
Commits outcomes (Blocked work resource) old new = new ≡ with_blocked outcomes work resource old
Commits outcomes (Failed work digest) old new = FailsOwner (owner_of old work) digest old new

pub record CommitsPiece (outcomes : List (Entry Outcome)) (piece : Piece) (old new : Core) : Type 0 where
  pub kept : keeps old (work_in piece) ≡ true
  pub committed : Commits outcomes piece old new

-- A piece is stale exactly where its work isn't kept; it comes back, with the number under which its task is claimed.
-- Else there was no memory, and it comes back too.
abbrev pub IsCommitRefusal : Piece → Core → CommitRefused → Type 0
IsCommitRefusal piece core (Stale own now) =
    (own ≡ piece) × (now ≡ number_now core (work_in piece)) × (keeps core (work_in piece) ≡ false)
IsCommitRefusal piece core (OutOfMemory own) = (own ≡ piece) × (keeps core (work_in piece) ≡ true)

-- For private functions.

abbrev pub done_piece : Work → Vec ℕ Global → List Kid → Piece
done_piece work bytes kids = Done work bytes kids

abbrev pub failed_piece : Work → List ℕ → Piece
failed_piece work digest = Failed work digest

abbrev pub blocked_piece : Work → List ℕ → Piece
blocked_piece work resource = Blocked work resource

abbrev pub kept_segment : Option Claim → Option ℕ
kept_segment None = None
kept_segment (Some claim) = Some claim.segment

-- so many tasks of an owner can be counted
abbrev pub CanCountTasks : Option ℕ → ℕ → State → Type 0
CanCountTasks None count state = (1 ≤ state.shell_tasks) × (state.shell_tasks + count < 2 ^ 32)
CanCountTasks (Some boundary) count state =
    IfSome (tasks_left (bound_at state.boundaries.bounds boundary)) (λ tasks. tasks + count < 2 ^ 32)
    × IsSome (tasks_left (bound_at state.boundaries.bounds boundary))

abbrev pub CanCount : Option ℕ → (segment count : ℕ) → State → Type 0
CanCount owner segment count state = CanCountTasks owner count state × HasPlacesIf segment owner state.queues

-- All memory is there that a piece needs.
pub record CanTake (prepared : Prepared) (state : State) : Type 0 where
  pub live : IsLive state.segments prepared.segment
  pub open_one : is_complete (part_at state.segments.parts prepared.segment) ≡ false
  pub countable : CanCount prepared.owner prepared.segment prepared.kids state
  pub room : HasRoomFor (length prepared.all.items) state
  pub as_many : prepared.kids ≡ length prepared.all.items

pub record IsPrepared (outcomes : List (Entry Outcome)) (work : Work) (kids : List Kid) (prepared : Prepared)
    (state : State) : Type 0 where
  pub can : CanTake prepared state
  pub kept : kept_segment (claim_at state.claims.items work.task) ≡ Some prepared.segment
  pub owner : prepared.owner ≡ owner_of (core_of state) work
  pub made : prepared.all.items ≡ map (made_of outcomes state.settled) kids

abbrev pub with_prepared : Prepared → Work → List ℕ → Core → Core
with_prepared prepared work bytes core =
    queued prepared.owner prepared.segment (with_all_made prepared.owner prepared.segment prepared.all.items
    (counted prepared.owner prepared.kids (length bytes) (with_bytes work prepared.segment bytes core)))
