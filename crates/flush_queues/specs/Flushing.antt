-- A flush: one unit after another, in the order of React's server renderer.
use Rattle.std.specs.Prelude.{◌≡◌, ℕ, ◌<◌, ◌≤◌, ◌==◌, if◌then◌else◌, List, [], ◌∷◌, length, slice_set, true, Option, Some, None, unwrap_or}
use Rattle.fizz_instructions.specs.declared.instruction.Instruction.TheVariants.{Complete, Segment, ClientRender}
use Rattle.fizz_segment.specs.Tree.{mark_at, part_at}
use Rattle.fizz_segment.specs.declared.segment.Part.{Part}
use Rattle.fizz_segment.specs.declared.segment.SegKind.{SegKind}
use Rattle.fizz_segment.specs.declared.segment.SegKind.TheVariants.{Root, Child, Site}
use Rattle.fizz_boundary.specs.Bounds.{bound_at, mark_at as boundary_mark_at}
use Rattle.fizz_boundary.specs.declared.boundary.Bound.{Bound}
use Rattle.fizz_boundary.specs.declared.boundary.State.{State}
use Rattle.fizz_boundary.specs.declared.boundary.State.TheVariants.{Pending as PendingState, Complete as CompleteState, Failed as FailedState}
use Rattle.id_lists.specs.Lists.{home_of}
use Rattle.flush_queues.specs.Flows.{Tables, container_end, container_start, with_script, with_written}
use Rattle.flush_queues.specs.Printing.{Prints, segment}
use Rattle.flush_queues.specs.Queues.{number_of, queue_of, ready_of, without_boundary, without_ready}
use Rattle.flush_queues.specs.declared.flow.Flow.{Flow}
use Rattle.flush_queues.specs.declared.queues.Queue.{Queue}
use Rattle.flush_queues.specs.declared.queues.Queue.TheVariants.{ClientRendered, Completed, Partial}
use Rattle.flush_queues.specs.declared.queues.Queues.{Queues}
use Rattle.flush_queues.specs.declared.sending.Role.{Role}
use Rattle.flush_queues.specs.declared.sending.Role.TheVariants.{Content, Inner}

-- the id that a boundary was printed with
abbrev pub boundary_id_of : Flow → ℕ → ℕ
boundary_id_of flow boundary = unwrap_or (boundary_mark_at flow.boundaries boundary).drawn 0

-- the id that a segment's placeholder was printed with
abbrev pub segment_id_of : Flow → ℕ → ℕ
segment_id_of flow s = unwrap_or (mark_at flow.segments s).drawn 0

abbrev pub state_digest : State → List ℕ
state_digest (PendingState tasks bytes) = []
state_digest (CompleteState bytes) = []
state_digest (FailedState digest) = digest

abbrev pub bound_digest : Option Bound → List ℕ
bound_digest None = []
bound_digest (Some bound) = state_digest bound.state

abbrev pub bound_site : Option Bound → Option ℕ
bound_site None = None
bound_site (Some bound) = bound.site

abbrev pub kind_role : SegKind → Role
kind_role (Root boundary) = Content
kind_role Child = Inner
kind_role (Site boundary) = Inner

abbrev pub part_role : Option Part → Role
part_role None = Inner
part_role (Some part) = kind_role part.kind

abbrev pub role_at : Tables → ℕ → Role
role_at t s = part_role (part_at t.parts s)

-- `$RX` of a boundary whose content has failed. It leaves its queue.
abbrev pub with_refused : Tables → ℕ → Flow → Flow
with_refused t boundary flow =
    with_script t (ClientRender (boundary_id_of flow boundary) (bound_digest (bound_at t.bounds boundary)))
    (record flow { queues = without_boundary boundary flow.queues })

-- The id of a segment's container: its boundary's, of a content; else that of its placeholder.
abbrev pub container_id : Role → Flow → (boundary s : ℕ) → ℕ
container_id Content flow boundary s = boundary_id_of flow boundary
container_id Inner flow boundary s = segment_id_of flow s

abbrev pub with_container_start : Tables → (boundary s : ℕ) → Flow → Flow
with_container_start t boundary s flow =
    with_written (container_start t.prefix (container_id (role_at t s) flow boundary s))
    (record flow { queues = without_ready s flow.queues })

-- The container ends. What isn't the content of a boundary goes to the place of its placeholder, by `$RS`.
abbrev pub with_moved : Tables → Role → ℕ → Flow → Flow
with_moved t Content s flow = flow
with_moved t Inner s flow = with_script t (Segment (segment_id_of flow s)) flow

abbrev pub with_container_end : Tables → ℕ → Flow → Flow
with_container_end t s flow = with_moved t (role_at t s) s (with_written container_end flow)

-- A ready segment of a boundary is sent in a hidden container.
pub record Sends (t : Tables) (boundary s : ℕ) (flow after : Flow) : Type 0 where
  pub between : Flow
  pub printed : Prints t (segment s) (with_container_start t boundary s flow) between
  pub ended : after ≡ with_container_end t s between

-- a boundary without ready segments leaves its queue
abbrev pub left_if_none : List ℕ → ℕ → Queues → Queues
left_if_none [] boundary queues = without_boundary boundary queues
left_if_none (s ∷ later) boundary queues = queues

abbrev pub with_left_if_none : ℕ → Flow → Flow
with_left_if_none boundary flow =
    record flow { queues = left_if_none (ready_of flow.queues boundary) boundary flow.queues }

abbrev pub left_if_partial : Option ℕ → List ℕ → ℕ → Queues → Queues
left_if_partial None ready boundary queues = queues
left_if_partial (Some queue) ready boundary queues =
    if queue == number_of Partial then left_if_none ready boundary queues else queues

abbrev pub withdrawn_from : Option ℕ → ℕ → Queues → Queues
withdrawn_from None s queues = queues
withdrawn_from (Some boundary) s queues =
    left_if_partial (home_of boundary queues.boundaries.lists) (ready_of (without_ready s queues) boundary) boundary
    (without_ready s queues)

-- A segment isn't sent any more. If it was ready, and the boundary that it was ready for is partial and nothing else of
-- it is ready, that boundary leaves its queue.
abbrev pub withdrawn : Option ℕ → Queues → Queues
withdrawn None queues = queues
withdrawn (Some s) queues = withdrawn_from (home_of s queues.ready.lists) s queues

-- `$RC` of a complete boundary of which nothing is ready any more. It leaves its queue, and its fallback isn't sent any
-- more.
abbrev pub with_revealed : Tables → ℕ → Flow → Flow
with_revealed t boundary flow =
    with_script t (Complete (boundary_id_of flow boundary) (boundary_id_of flow boundary))
    (record flow {
      boundaries = slice_set flow.boundaries boundary (record (boundary_mark_at flow.boundaries boundary) { revealed = true });
      queues = withdrawn (bound_site (bound_at t.bounds boundary)) (without_boundary boundary flow.queues);
    })

-- One unit of a flush, from a queue: its first boundary is served.
pub data Unit (t : Tables) : Queue → Flow → Flow → Type 0 where
  refuses : (boundary : ℕ) (others : List ℕ) (flow : Flow) → queue_of flow.queues ClientRendered ≡ boundary ∷ others
      → Unit t ClientRendered flow (with_refused t boundary flow)
  -- of a complete boundary first the ready segments, and then its `$RC`
  sends_complete : (boundary s : ℕ) (others later : List ℕ) (flow after : Flow)
      → queue_of flow.queues Completed ≡ boundary ∷ others → ready_of flow.queues boundary ≡ s ∷ later
      → Sends t boundary s flow after → Unit t Completed flow after
  reveals : (boundary : ℕ) (others : List ℕ) (flow : Flow)
      → queue_of flow.queues Completed ≡ boundary ∷ others → ready_of flow.queues boundary ≡ []
      → Unit t Completed flow (with_revealed t boundary flow)
  -- a partial boundary leaves its queue after its last ready segment
  sends_partial : (boundary s : ℕ) (others later : List ℕ) (flow after : Flow)
      → queue_of flow.queues Partial ≡ boundary ∷ others → ready_of flow.queues boundary ≡ s ∷ later
      → Sends t boundary s flow after → Unit t Partial flow (with_left_if_none boundary after)
  leaves : (boundary : ℕ) (others : List ℕ) (flow : Flow)
      → queue_of flow.queues Partial ≡ boundary ∷ others → ready_of flow.queues boundary ≡ []
      → Unit t Partial flow (record flow { queues = without_boundary boundary flow.queues })

-- A flush has written enough where it has a budget, and at least so many bytes.
pub record IsEnough (budget : ℕ) (out : List ℕ) : Type 0 where
  pub limited : 0 < budget
  pub reached : budget ≤ length out

-- Units from these queues, one queue after the other, until nothing stands in them or enough is written.
pub data Serves (t : Tables) (budget : ℕ) : List Queue → Flow → Flow → Type 0 where
  over : (flow : Flow) → Serves t budget [] flow flow
  turns : (queue : Queue) (queues : List Queue) (flow after : Flow) → queue_of flow.queues queue ≡ []
      → Serves t budget queues flow after → Serves t budget (queue ∷ queues) flow after
  stops : (queue : Queue) (queues : List Queue) (flow after : Flow) → Unit t queue flow after
      → IsEnough budget after.out → Serves t budget (queue ∷ queues) flow after
  serves : (queue : Queue) (queues : List Queue) (flow between after : Flow) → Unit t queue flow between
      → ¬ (IsEnough budget between.out) → Serves t budget (queue ∷ queues) between after
      → Serves t budget (queue ∷ queues) flow after

-- Boundaries that partial ones completed come last.
abbrev pub serving_order : List Queue
serving_order = ClientRendered ∷ Completed ∷ Partial ∷ Completed ∷ []

-- the shell is being printed
abbrev pub without_shell : Flow → Flow
without_shell flow = record flow { queues = record flow.queues { shell = None } }

-- A flush. The shell goes before all else.
pub data Flushes (t : Tables) (budget : ℕ) : Flow → Flow → Type 0 where
  goes_on : (flow after : Flow) → flow.queues.shell ≡ None → Serves t budget serving_order flow after
      → Flushes t budget flow after
  stops_at_shell : (s : ℕ) (flow after : Flow) → flow.queues.shell ≡ Some s
      → Prints t (segment s) (without_shell flow) after → IsEnough budget after.out → Flushes t budget flow after
  begins : (s : ℕ) (flow between after : Flow) → flow.queues.shell ≡ Some s
      → Prints t (segment s) (without_shell flow) between → ¬ (IsEnough budget between.out)
      → Serves t budget serving_order between after → Flushes t budget flow after
