-- What a flush reads, what it changes, and the steps by which it does so.
use Rattle.std.specs.Prelude.{ℕ, Bool, true, false, not, nat_le, if◌then◌else◌, List, [], ◌∷◌, ◌++◌, codes, slice_set, Option, Some, None}
use Rattle.html_names.specs.Comments.{comment_spelling}
use Rattle.html_names.specs.Escape.{escape_of}
use Rattle.html_names.specs.declared.comments.CommentKind.TheVariants.{Complete as ShownMarker, Pending as PendingMarker, Client as ClientMarker, End as EndMarker}
use Rattle.fizz_instructions.specs.Bodies.{boundary_id, function_of, placeholder_id, script_of, segment_id}
use Rattle.fizz_instructions.specs.Sending.{has, with_function}
use Rattle.fizz_instructions.specs.declared.instruction.Instruction.{Instruction}
use Rattle.fizz_segment.specs.Calls.{drawn_as}
use Rattle.fizz_segment.specs.Tree.{mark_at, part_at}
use Rattle.fizz_segment.specs.declared.segment.Mark.{Mark}
use Rattle.fizz_segment.specs.declared.segment.Part.{Part}
use Rattle.fizz_segment.specs.declared.segment.SegKind.{SegKind}
use Rattle.fizz_segment.specs.declared.segment.SegKind.TheVariants.{Root, Child, Site}
use Rattle.fizz_boundary.specs.Bounds.{bound_at, mark_at as boundary_mark_at}
use Rattle.fizz_boundary.specs.declared.boundary.Bound.{Bound}
use Rattle.fizz_boundary.specs.declared.boundary.State.{State}
use Rattle.fizz_boundary.specs.declared.boundary.State.TheVariants.{Pending, Complete, Failed}
use Rattle.flush_queues.specs.Queues.{ready_of, with_entered, with_next_drawn, without_ready}
use Rattle.flush_queues.specs.declared.flow.Flow.{Flow}
use Rattle.flush_queues.specs.declared.queues.Queue.TheVariants.{Completed, Partial}
use Rattle.flush_queues.specs.declared.queues.Queues.{Queues}

-- What a flush only reads: what ids begin with, the most bytes of a boundary that stands in its place at once, and the
-- segments and boundaries but for how they are printed.
pub record Tables : Type 0 where
  pub prefix : List ℕ
  pub progressive : ℕ
  pub parts : List (Option Part)
  pub bounds : List Bound

-- How a segment stands for who prints it: it is forgotten or printed already, its bytes are still to come, or they are
-- there.
pub data Stage : Type 0 where
  passed : Stage
  pending : Stage
  complete : List ℕ → Stage

abbrev pub stage_with : Bool → Option (List ℕ) → Stage
stage_with true bytes = passed
stage_with false None = pending
stage_with false (Some bytes) = complete bytes

abbrev pub stage_of : Option Part → Mark → Stage
stage_of None mark = passed
stage_of (Some part) mark = stage_with mark.printed part.bytes

abbrev pub stage_at : Tables → Flow → ℕ → Stage
stage_at t flow s = stage_of (part_at t.parts s) (mark_at flow.segments s)

-- where a segment stands in the bytes of its parent
abbrev pub place_of : Option Part → ℕ
place_of None = 0
place_of (Some part) = part.at

abbrev pub kind_site : SegKind → Option ℕ
kind_site (Root boundary) = None
kind_site Child = None
kind_site (Site boundary) = Some boundary

-- the boundary in whose place a segment stands as its fallback
abbrev pub site_of : Option Part → Option ℕ
site_of None = None
site_of (Some part) = kind_site part.kind

-- How a boundary is printed in the bytes around it: it has failed, with this digest; its content stands in its place; or
-- its fallback stands there until the content comes.
pub data Way : Type 0 where
  failed : List ℕ → Way
  inline : Way
  late : Way

-- A complete boundary stands in its place if its own bytes are `progressive` at most.
abbrev pub state_way : ℕ → State → Way
state_way progressive (Pending tasks bytes) = late
state_way progressive (Complete bytes) = if nat_le bytes progressive then inline else late
state_way progressive (Failed digest) = failed digest

abbrev pub way_of : ℕ → Option Bound → Way
way_of progressive None = late
way_of progressive (Some bound) = state_way progressive bound.state

abbrev pub way_at : Tables → ℕ → Way
way_at t boundary = way_of t.progressive (bound_at t.bounds boundary)

abbrev pub bound_root : Option Bound → ℕ
bound_root None = 0
bound_root (Some bound) = bound.root

-- the segment of a boundary's content
abbrev pub root_at : Tables → ℕ → ℕ
root_at t boundary = bound_root (bound_at t.bounds boundary)

-- Bytes.

-- `<template id="P:1"></template>`
abbrev pub id_template : List ℕ → List ℕ
id_template id = codes "<template id=\"" ++ (escape_of id ++ codes "\"></template>")

abbrev pub placeholder_bytes : List ℕ → ℕ → List ℕ
placeholder_bytes prefix id = id_template (placeholder_id prefix id)

-- `<!--$?--><template id="B:0"></template>`
abbrev pub pending_bytes : List ℕ → ℕ → List ℕ
pending_bytes prefix id = comment_spelling PendingMarker ++ id_template (boundary_id prefix id)

-- A digest stands in an attribute unless it is empty.
abbrev pub digest_template : List ℕ → List ℕ
digest_template [] = codes "<template></template>"
digest_template (b ∷ bs) = codes "<template data-dgst=\"" ++ (escape_of (b ∷ bs) ++ codes "\"></template>")

-- `<!--$!--><template data-dgst="e"></template>`
abbrev pub failed_bytes : List ℕ → List ℕ
failed_bytes digest = comment_spelling ClientMarker ++ digest_template digest

-- `<div hidden id="S:0">`
abbrev pub container_start : List ℕ → ℕ → List ℕ
container_start prefix id = codes "<div hidden id=\"" ++ (escape_of (segment_id prefix id) ++ codes "\">")

abbrev pub container_end : List ℕ
container_end = codes "</div>"

-- Steps.

abbrev pub with_written : List ℕ → Flow → Flow
with_written bytes flow = record flow { out = flow.out ++ bytes }

-- a segment whose bytes are still to come: a placeholder with the next id
abbrev pub with_placeholder : Tables → ℕ → Flow → Flow
with_placeholder t s flow = record flow {
  segments = slice_set flow.segments s (drawn_as flow.queues.next false (mark_at flow.segments s));
  queues = with_next_drawn flow.queues;
  out = flow.out ++ placeholder_bytes t.prefix flow.queues.next;
}

-- a segment is printed from here on, and isn't ready any more
abbrev pub with_begun : ℕ → Flow → Flow
with_begun s flow = record flow {
  segments = slice_set flow.segments s (record (mark_at flow.segments s) { printed = true });
  queues = without_ready s flow.queues;
}

-- a boundary whose content stands in its place
abbrev pub with_inline : ℕ → Flow → Flow
with_inline boundary flow = record flow {
  boundaries = slice_set flow.boundaries boundary (record (boundary_mark_at flow.boundaries boundary) { revealed = true });
  out = flow.out ++ comment_spelling ShownMarker;
}

-- a boundary whose fallback stands in its place, with the next id
abbrev pub with_late : Tables → ℕ → Flow → Flow
with_late t boundary flow = record flow {
  boundaries = slice_set flow.boundaries boundary
      (record (boundary_mark_at flow.boundaries boundary) { drawn = Some flow.queues.next });
  queues = with_next_drawn flow.queues;
  out = flow.out ++ pending_bytes t.prefix flow.queues.next;
}

abbrev pub with_end : Flow → Flow
with_end flow = with_written (comment_spelling EndMarker) flow

abbrev pub entered_if_ready : List ℕ → ℕ → Queues → Queues
entered_if_ready [] boundary queues = queues
entered_if_ready (s ∷ later) boundary queues = with_entered Partial boundary queues

abbrev pub entered_by : State → List ℕ → ℕ → Queues → Queues
entered_by (Pending tasks bytes) ready boundary queues = entered_if_ready ready boundary queues
entered_by (Complete bytes) ready boundary queues = with_entered Completed boundary queues
entered_by (Failed digest) ready boundary queues = entered_if_ready ready boundary queues

abbrev pub entered_if_made : Option Bound → List ℕ → ℕ → Queues → Queues
entered_if_made None ready boundary queues = queues
entered_if_made (Some bound) ready boundary queues = entered_by bound.state ready boundary queues

-- A boundary that was printed with its fallback is to be served: if it is complete, or has ready segments.
abbrev pub with_awaited : Tables → ℕ → Flow → Flow
with_awaited t boundary flow = record flow {
  queues = entered_if_made (bound_at t.bounds boundary) (ready_of flow.queues boundary) boundary flow.queues;
}

-- an instruction, with the definition of its function where that wasn't sent before
abbrev pub with_script : Tables → Instruction → Flow → Flow
with_script t instruction flow = record flow {
  queues = record flow.queues { sent = with_function flow.queues.sent (function_of instruction) };
  out = flow.out ++ script_of t.prefix instruction (not (has flow.queues.sent (function_of instruction)));
}
