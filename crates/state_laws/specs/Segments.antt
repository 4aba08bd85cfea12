-- Segments that are open, and the tasks that serve them.
use Rattle.std.specs.Prelude.{◌≡◌, ℕ, ◌≤◌, Bool, true, false, not, is_some, length, Option, Some, None}
use Rattle.fizz_segment.specs.declared.segment.Part.{Part}
use Rattle.fizz_segment.specs.Tree.{mark_at, part_at}
use Rattle.fizz_task.specs.declared.state.State.{State}
use Rattle.fizz_task.specs.declared.state.State.TheVariants.{Gone, Runnable, Claimed, Waiting}
use Rattle.fizz_task.specs.Board.{state_at}
use Rattle.fizz_task.specs.Calls.{owner_at, same_owner}
use Rattle.id_lists.specs.Lists.{list_at, one, times}
use Rattle.request_state.specs.declared.job.Claim.{Claim}
use Rattle.request_state.specs.declared.job.Job.{Job}
use Rattle.request_state.specs.Claiming.{claim_at}
use Rattle.request_state.specs.Committing.{kept_segment}
use Rattle.request_state.specs.Core.{Core}
use Rattle.state_laws.specs.Claims.{ClaimsFit}

-- whether there is a segment whose bytes are still to come
abbrev pub is_open : Option Part → Bool
is_open None = false
is_open (Some part) = not (is_some part.bytes)

-- The segment of this number is open.
abbrev pub IsOpen : Core → ℕ → Type 0
IsOpen core segment = is_open (part_at core.segments.parts segment) ≡ true

-- The segment that a task completes: the one of its job, or of what is kept of its claim. One that is gone completes none.
abbrev pub served_by : State Job → Option Claim → Option ℕ
served_by Gone claim = None
served_by (Runnable job) claim = Some job.segment
served_by (Claimed number) claim = kept_segment claim
served_by (Waiting resource job) claim = Some job.segment

-- A task, which is left, completes this segment.
abbrev pub Serves : Core → (task segment : ℕ) → Type 0
Serves core task segment =
    served_by (state_at core.tasks.states task) (claim_at core.claims task) ≡ Some segment

-- The tables of segments fit each other.
pub record SegmentsFit (core : Core) : Type 0 where
  -- each segment has a mark, and an id among those of the boundaries' segments
  pub marked : length core.segments.marks ≡ length core.segments.parts
  pub ids : core.own.ids ≡ length core.segments.parts
  -- each boundary has a list of its segments
  pub lists : length core.own.lists ≡ length core.boundaries.bounds
  -- only segments that were made stand in a list
  pub made : (boundary segment : ℕ) → length core.segments.parts ≤ segment
      → times segment (list_at core.own.lists boundary) ≡ 0
  -- what is printed isn't open
  pub unprinted : (segment : ℕ) → IsOpen core segment → (mark_at core.segments.marks segment).printed ≡ false

-- Each open segment has exactly one task, and each task that is left serves an open segment. That segment stands once in
-- the list of the boundary that owns the task, and in no other.
pub record SegmentsServed (core : Core) : Type 0 where
  pub claims : ClaimsFit core
  pub tables : SegmentsFit core
  -- an open segment has a task
  pub has_task : (segment : ℕ) → IsOpen core segment → (task : ℕ) × Serves core task segment
  -- what a task serves is open
  pub opened : (task segment : ℕ) → Serves core task segment → IsOpen core segment
  -- no two tasks serve one segment
  pub alone : (task other segment : ℕ) → Serves core task segment → Serves core other segment → task ≡ other
  -- it is its task's owner's
  pub owned : (task segment boundary : ℕ) → Serves core task segment
      → times segment (list_at core.own.lists boundary)
      ≡ one (same_owner (owner_at core.tasks.owners task) (Some boundary))
