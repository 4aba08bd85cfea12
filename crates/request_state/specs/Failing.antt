-- What a failure takes with it.
use Rattle.std.specs.Prelude.{◌≡◌, ℕ, zero, suc, ◌+◌, ◌==◌, Bool, true, false, ◌&&◌, nat_lt, if◌then◌else◌, List, [], ◌∷◌, length, slice_set, Option, Some, None}
use Rattle.fizz_task.specs.Board.{Board}
use Rattle.fizz_task.specs.Calls.{dropped}
use Rattle.fizz_segment.specs.Tree.{Tree, mark_at}
use Rattle.fizz_segment.specs.Calls.{forgotten, no_segments}
use Rattle.fizz_boundary.specs.Bounds.{bound_at, mark_at as boundary_mark_at}
use Rattle.fizz_boundary.specs.Calls.{failed_with, no_boundaries, with_state}
use Rattle.fizz_boundary.specs.declared.boundary.Bound.{Bound}
use Rattle.flush_queues.specs.Queues.{new_queues}
use Rattle.flush_queues.specs.Telling.{with_dropped as queues_dropped, with_failed as queues_failed}
use Rattle.id_lists.specs.Lists.{list_at, one, times}
use Rattle.id_lists.specs.Calls.{no_lists}
use Rattle.request_state.specs.declared.job.Job.{Job}
use Rattle.request_state.specs.Core.{Core}

-- the boundary around a boundary
abbrev pub outer_of : Option Bound → Option ℕ
outer_of None = None
outer_of (Some bound) = bound.parent

-- whether one of so many boundaries, of which each is around the one before, is this one
abbrev pub is_around : ℕ → List Bound → ℕ → Option ℕ → Bool
is_around zero bounds outer inner = false
is_around (suc n) bounds outer None = false
is_around (suc n) bounds outer (Some inner) =
    if inner == outer then true else is_around n bounds outer (outer_of (bound_at bounds inner))

-- Whether a boundary is this one or stands inside it. Each boundary was made before those inside, so there are no more
-- around one than were made.
abbrev pub is_within : List Bound → ℕ → ℕ → Bool
is_within bounds outer inner = nat_lt inner (length bounds) && is_around (length bounds) bounds outer (Some inner)

-- these are the boundaries within one, each once
pub record AreWithin (bounds : List Bound) (outer : ℕ) (found : List ℕ) : Type 0 where
  pub exactly : (inner : ℕ) → times inner found ≡ one (is_within bounds outer inner)

-- a segment is forgotten, unless it is printed
abbrev pub forgotten_unless_printed : ℕ → Tree → Tree
forgotten_unless_printed s tree = if (mark_at tree.marks s).printed then tree else forgotten s tree

abbrev pub all_forgotten : List ℕ → Tree → Tree
all_forgotten [] tree = tree
all_forgotten (s ∷ later) tree = all_forgotten later (forgotten_unless_printed s tree)

-- What belongs to a boundary goes: its tasks, its segments, of which those that aren't printed are forgotten, and what is
-- to be sent of it.
abbrev pub with_dropped : ℕ → Core → Core
with_dropped boundary core = record core {
  tasks = dropped (Some boundary) core.tasks;
  segments = all_forgotten (list_at core.own.lists boundary) core.segments;
  own = record core.own { lists = slice_set core.own.lists boundary [] };
  queues = queues_dropped boundary core.queues;
}

abbrev pub all_dropped : List ℕ → Core → Core
all_dropped [] core = core
all_dropped (boundary ∷ later) core = all_dropped later (with_dropped boundary core)

-- for private functions
abbrev pub dropped_if : Bool → ℕ → Core → Core
dropped_if true boundary core = with_dropped boundary core
dropped_if false boundary core = core

-- What belongs to a boundary and to those inside goes.
pub record DropsWithin (boundary : ℕ) (old new : Core) : Type 0 where
  pub within : List ℕ
  pub exactly : AreWithin old.boundaries.bounds boundary within
  pub dropped : new ≡ all_dropped within old

-- A boundary has failed. If it is printed with its fallback, it waits for its instruction.
abbrev pub marked_failed : ℕ → List ℕ → Core → Core
marked_failed boundary digest core = record core {
  boundaries = with_state (failed_with digest) boundary core.boundaries;
  queues = queues_failed (boundary_mark_at core.boundaries.marks boundary) boundary core.queues;
}

-- A boundary fails: what belongs to it and to those inside goes.
pub record FailsBoundary (boundary : ℕ) (digest : List ℕ) (old new : Core) : Type 0 where
  pub between : Core
  pub dropped : DropsWithin boundary old between
  pub failed : new ≡ marked_failed boundary digest between

abbrev pub each_dropped : (count from : ℕ) → Board Job → Board Job
each_dropped zero from board = board
each_dropped (suc count) from board = each_dropped count (from + 1) (dropped (Some from) board)

-- the shell's tasks go, and those of so many boundaries
abbrev pub all_tasks_dropped : ℕ → Board Job → Board Job
all_tasks_dropped count board = each_dropped count 0 (dropped None board)

-- The shell fails: nothing is left of the page, and nothing is sent of it.
abbrev pub with_shell_failed : List ℕ → Core → Core
with_shell_failed digest core = record core {
  tasks = all_tasks_dropped (length core.boundaries.bounds) core.tasks;
  claims = [];
  shell_tasks = 0;
  segments = no_segments;
  own = no_lists;
  boundaries = no_boundaries;
  queues = new_queues core.queues.next None;
  failure = Some digest;
}

-- the boundary that owns a task fails, or the shell
abbrev pub FailsOwner : Option ℕ → List ℕ → Core → Core → Type 0
FailsOwner None digest old new = new ≡ with_shell_failed digest old
FailsOwner (Some boundary) digest old new = FailsBoundary boundary digest old new
