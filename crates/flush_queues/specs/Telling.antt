-- What the queues are told: how many segments and boundaries there are, and which segment became complete.
use Rattle.std.specs.Prelude.{◌≡◌, ◌<◌, ◌≤◌, ◌==◌, ℕ, Bool, true, false, nat_lt, if◌then◌else◌, [], length, slice_set, Option, Some, None}
use Rattle.fizz_segment.specs.Tree.{Tree, mark_at, part_at}
use Rattle.fizz_segment.specs.declared.segment.Mark.{Mark}
use Rattle.fizz_segment.specs.declared.segment.Part.{Part}
use Rattle.fizz_segment.specs.declared.segment.SegKind.{SegKind}
use Rattle.fizz_segment.specs.declared.segment.SegKind.TheVariants.{Root, Child, Site}
use Rattle.fizz_boundary.specs.Bounds.{Bounds, bound_at, mark_at as boundary_mark_at}
use Rattle.fizz_boundary.specs.declared.boundary.Bound.{Bound}
use Rattle.fizz_boundary.specs.declared.boundary.Mark.{Mark as BoundaryMark}
use Rattle.fizz_boundary.specs.declared.boundary.State.{State}
use Rattle.fizz_boundary.specs.declared.boundary.State.TheVariants.{Pending, Complete, Failed}
use Rattle.id_lists.specs.Lists.{home_of}
use Rattle.id_lists.specs.Calls.{with_pushed, without}
use Rattle.flush_queues.specs.Queues.{number_of, with_entered, without_boundary}
use Rattle.flush_queues.specs.declared.queues.Queue.{Queue}
use Rattle.flush_queues.specs.declared.queues.Queue.TheVariants.{ClientRendered, Completed, Partial}
use Rattle.flush_queues.specs.declared.queues.Queues.{Queues}

-- Whether a segment's parent is printed: a forgotten one was.
abbrev pub is_printed : Option Part → Mark → Bool
is_printed None mark = true
is_printed (Some part) mark = mark.printed

abbrev pub parent_is_printed : Tree → Option ℕ → Bool
parent_is_printed tree None = true
parent_is_printed tree (Some parent) = is_printed (part_at tree.parts parent) (mark_at tree.marks parent)

-- A segment that became complete is ready if what it stands in is printed. The content of a boundary stands in nothing;
-- the fallback of one that shows its content isn't sent any more.
abbrev pub kind_is_ready : Tree → Bounds → SegKind → Option ℕ → Bool
kind_is_ready tree bounds (Root boundary) parent = true
kind_is_ready tree bounds Child parent = parent_is_printed tree parent
kind_is_ready tree bounds (Site boundary) parent =
    if (boundary_mark_at bounds.marks boundary).revealed then false else parent_is_printed tree parent

abbrev pub part_is_ready : Tree → Bounds → Option Part → Bool
part_is_ready tree bounds None = false
part_is_ready tree bounds (Some part) = kind_is_ready tree bounds part.kind part.parent

abbrev pub is_ready : Tree → Bounds → ℕ → Bool
is_ready tree bounds s = part_is_ready tree bounds (part_at tree.parts s)

-- a segment becomes the last of its boundary's ready ones
abbrev pub with_ready : ℕ → ℕ → Queues → Queues
with_ready boundary s queues =
    record queues { ready = record queues.ready { lists = with_pushed boundary s (without s queues.ready.lists) } }

abbrev pub with_ready_if : Bool → ℕ → ℕ → Queues → Queues
with_ready_if true boundary s queues = with_ready boundary s queues
with_ready_if false boundary s queues = queues

abbrev pub entered_unless : Option ℕ → ℕ → Queues → Queues
entered_unless None boundary queues = with_entered Partial boundary queues
entered_unless (Some queue) boundary queues =
    if queue == number_of Partial then queues else with_entered Partial boundary queues

abbrev pub entered_partial : Bool → ℕ → Queues → Queues
entered_partial false boundary queues = queues
entered_partial true boundary queues = entered_unless (home_of boundary queues.boundaries.lists) boundary queues

abbrev pub state_served : State → Bool → ℕ → Queues → Queues
state_served (Pending tasks bytes) ready boundary queues = entered_partial ready boundary queues
state_served (Complete bytes) ready boundary queues = with_entered Completed boundary queues
state_served (Failed digest) ready boundary queues = queues

abbrev pub bound_served : Option Bound → Bool → ℕ → Queues → Queues
bound_served None ready boundary queues = queues
bound_served (Some bound) ready boundary queues = state_served bound.state ready boundary queues

-- A boundary that is printed with its fallback is served: where it became complete it leaves its queue for that of the
-- complete ones; where a segment of it became ready before, it stands in that of the partial ones.
abbrev pub served_if_pending : BoundaryMark → Option Bound → Bool → ℕ → Queues → Queues
served_if_pending mark bound ready boundary queues = pending_served mark.drawn mark.revealed
  where
    pending_served : Option ℕ → Bool → Queues
    pending_served None revealed = queues
    pending_served (Some id) true = queues
    pending_served (Some id) false = bound_served bound ready boundary queues

-- A segment of this owner became complete, after its task was counted. Those of the shell are no one's.
abbrev pub with_done : Tree → Bounds → ℕ → Option ℕ → Queues → Queues
with_done tree bounds s None queues = queues
with_done tree bounds s (Some boundary) queues =
    served_if_pending (boundary_mark_at bounds.marks boundary) (bound_at bounds.bounds boundary)
    (is_ready tree bounds s) boundary (with_ready_if (is_ready tree bounds s) boundary s queues)

-- there is a place for a segment and its owner
pub record HasPlaces (s boundary : ℕ) (queues : Queues) : Type 0 where
  pub queues_made : 3 ≤ length queues.boundaries.lists
  pub segment_made : s < queues.ready.ids
  pub list_made : boundary < length queues.ready.lists
  pub boundary_made : boundary < queues.boundaries.ids

abbrev pub HasPlacesIf : ℕ → Option ℕ → Queues → Type 0
HasPlacesIf s None queues = Unit {0}
HasPlacesIf s (Some boundary) queues = HasPlaces s boundary queues

-- Nothing of a boundary is sent any more: no segment of it is ready, and it stands in no queue.
abbrev pub with_dropped : ℕ → Queues → Queues
with_dropped boundary queues = without_boundary boundary
    (record queues { ready = record queues.ready { lists = slice_set queues.ready.lists boundary [] } })

-- a boundary leaves its queue, and becomes the last of this one if it was made
abbrev pub with_entered_if_made : Queue → ℕ → Queues → Queues
with_entered_if_made queue boundary queues =
    if nat_lt boundary queues.boundaries.ids then with_entered queue boundary queues
    else without_boundary boundary queues

-- A boundary that has failed since it was printed with its fallback waits for its instruction.
abbrev pub with_failed : BoundaryMark → ℕ → Queues → Queues
with_failed mark boundary queues = pending_failed mark.drawn mark.revealed
  where
    pending_failed : Option ℕ → Bool → Queues
    pending_failed None revealed = queues
    pending_failed (Some id) true = queues
    pending_failed (Some id) false = with_entered_if_made ClientRendered boundary queues
