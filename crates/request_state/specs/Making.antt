-- What is made of the kids of a piece.
use Rattle.std.specs.Prelude.{ℕ, ◌+◌, ◌*◌, ◌≤◌, Bool, true, false, is_some, List, [], ◌∷◌, ◌++◌, length, map, vec_capacity, Option, Some, None}
use Rattle.settle_script.specs.declared.value.Entry.{Entry}
use Rattle.settle_script.specs.declared.outcome.Outcome.{Outcome}
use Rattle.settle_script.specs.declared.value.Value.{Value}
use Rattle.settle_script.specs.Settlements.{known}
use Rattle.jsx_value.specs.declared.spot.Spot.{Spot}
use Rattle.fizz_piece.specs.declared.piece.Kid.{Kid}
use Rattle.fizz_piece.specs.declared.piece.Kid.TheVariants.{Hole, Boundary}
use Rattle.fizz_task.specs.Calls.{spawned}
use Rattle.fizz_segment.specs.Tree.{no_flags}
use Rattle.fizz_segment.specs.Calls.{added, child_of, root_of, site_of}
use Rattle.fizz_boundary.specs.Calls.{added as boundary_added}
use Rattle.flush_queues.specs.Queues.{HasRoom, with_boundary as queues_with_boundary, with_segment as queues_with_segment}
use Rattle.id_lists.specs.Lists.{Lists}
use Rattle.id_lists.specs.Calls.{with_id, with_list, with_pushed}
use Rattle.request_state.specs.declared.making.Made.{Made}
use Rattle.request_state.specs.declared.making.Made.TheVariants as m
use Rattle.request_state.specs.declared.making.Twin.{Twin}
use Rattle.request_state.specs.declared.state.State.{State}
use Rattle.request_state.specs.Core.{Core, core_of}

abbrev pub unless : Bool → List ℕ → Option (List ℕ)
unless true resource = None
unless false resource = Some resource

-- what a position that waits for a resource still waits for, where so many outcomes are settled
abbrev pub still_waits : List (Entry Outcome) → ℕ → List ℕ → Option (List ℕ)
still_waits outcomes settled resource = unless (is_some (known outcomes settled resource)) resource

-- a position, to be handed out and to be kept
abbrev pub twin_of : List ℕ → Spot → List (Entry Value) → Twin
twin_of path spot scope = record {
  given = record { path = path; spot = spot; scope = scope };
  kept = record { path = path; spot = spot; scope = scope };
}

-- A kid with what it comes to: a hole's position; of a boundary the positions of its content and its fallback.
abbrev pub made_of : List (Entry Outcome) → ℕ → Kid → Made
made_of outcomes settled (Hole place path spot scope resource lead) =
    m.Hole place lead (twin_of path spot scope) (still_waits outcomes settled resource)
made_of outcomes settled (Boundary place path content content_scope fallback fallback_scope) =
    m.Boundary place path (twin_of (path ++ 0 ∷ []) content content_scope)
    (twin_of (path ++ 1 ∷ []) fallback fallback_scope)

-- a segment more, of this owner; those of the shell stand in no list
abbrev pub owned : Option ℕ → Lists → Lists
owned None own = with_id own
owned (Some boundary) own = record (with_id own) { lists = with_pushed boundary own.ids own.lists }

abbrev pub with_own_segment : Option ℕ → Core → Core
with_own_segment owner core =
    record core { own = owned owner core.own; queues = queues_with_segment core.queues }

-- a task with its segment, which waits for a resource or is runnable
abbrev pub with_task : Option ℕ → ℕ → Twin → Option (List ℕ) → Core → Core
with_task owner segment position waits core = record core {
  tasks = spawned owner (record { segment = segment; given = position.given; kept = position.kept }) waits core.tasks;
  claims = core.claims ++ None ∷ [];
}

-- A position that waits is a child of the piece's segment, with a task of the same owner. It waits for its resource, or is
-- runnable where that is settled by now.
abbrev pub with_hole : Option ℕ → (parent «at» : ℕ) → Bool → Twin → Option (List ℕ) → Core → Core
with_hole owner parent place lead position waits core =
    with_task owner (length core.segments.parts) position waits
    (with_own_segment owner
    (record core {
      segments = added (child_of parent place) (record { lead = lead; embedded = true }) core.segments;
    }))

-- A boundary with a root segment for its content and a site in the piece's segment for its fallback.
abbrev pub with_bound : Option ℕ → (parent «at» : ℕ) → List ℕ → Core → Core
with_bound owner parent place path core = record core {
  segments = added (site_of parent place (length core.boundaries.bounds)) no_flags
      (added (root_of (Some (length core.boundaries.bounds))) no_flags core.segments);
  boundaries = boundary_added path owner (length core.segments.parts) (Some (length core.segments.parts + 1))
      core.boundaries;
  own = with_list core.own;
  queues = queues_with_boundary core.queues;
}

-- The boundary owns the task of its content; that of its fallback is the owner's around it.
abbrev pub with_boundary : Option ℕ → (parent «at» : ℕ) → List ℕ → (content fallback : Twin) → Core → Core
with_boundary owner parent place path content fallback core =
    with_task owner (length core.segments.parts + 1) fallback None
    (with_task (Some (length core.boundaries.bounds)) (length core.segments.parts) content None
    (with_own_segment owner
    (with_own_segment (Some (length core.boundaries.bounds))
    (with_bound owner parent place path core))))

-- what is made of one kid of a piece whose owner and segment these are
abbrev pub with_made : Option ℕ → ℕ → Made → Core → Core
with_made owner parent (m.Hole place lead position waits) core =
    with_hole owner parent place lead position waits core
with_made owner parent (m.Boundary place path content fallback) core =
    with_boundary owner parent place path content fallback core

abbrev pub with_all_made : Option ℕ → ℕ → List Made → Core → Core
with_all_made owner parent [] core = core
with_all_made owner parent (made ∷ later) core =
    with_all_made owner parent later (with_made owner parent made core)

-- what is made of the kids of a piece
abbrev pub with_kids : List (Entry Outcome) → Option ℕ → ℕ → List Kid → Core → Core
with_kids outcomes owner parent kids core =
    with_all_made owner parent (map (made_of outcomes core.settled) kids) core

-- For private functions.

-- There is room for what so many kids come to, where so many claims can be kept without memory.
pub record RoomFor (kids capacity : ℕ) (core : Core) : Type 0 where
  pub for_tasks : 2 * kids ≤ core.tasks.spare
  pub for_claims : length core.claims + 2 * kids ≤ capacity
  pub for_segments : 2 * kids ≤ core.segments.spare
  pub for_boundaries : kids ≤ core.boundaries.spare
  pub for_own : 2 * kids ≤ core.own.spare_ids
  pub for_own_lists : kids ≤ core.own.spare_lists
  pub for_queues : HasRoom (2 * kids) kids core.queues

abbrev pub HasRoomFor : ℕ → State → Type 0
HasRoomFor kids state = RoomFor kids (vec_capacity state.claims) (core_of state)
