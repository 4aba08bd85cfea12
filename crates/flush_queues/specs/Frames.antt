-- Printing with a stack in place of recursion: for private functions.
use Rattle.std.specs.Prelude.{◌≡◌, ℕ, true, List, [], ◌∷◌, Option, Some, None}
use Rattle.fizz_segment.specs.Tree.{after as after_in, is_kid, kids_of, part_at}
use Rattle.fizz_segment.specs.declared.segment.Part.{Part}
use Rattle.flush_queues.specs.Flows.{Tables, complete, passed, pending, Stage as Standing, with_awaited, with_end, Way as Printing, failed, inline, late}
use Rattle.flush_queues.specs.Printing.{Prints, kid, rest, segment}
use Rattle.flush_queues.specs.declared.flow.Flow.{Flow}
use Rattle.flush_queues.specs.declared.page.Page.{Page}
use Rattle.flush_queues.specs.declared.frame.Frame.{Frame}
use Rattle.flush_queues.specs.declared.frame.Closing.{Closing}
use Rattle.flush_queues.specs.declared.frame.Closing.TheVariants.{Nothing, End, EndOfLate}
use Rattle.flush_queues.specs.declared.page.Stage.{Stage}
use Rattle.flush_queues.specs.declared.page.Stage.TheVariants.{Passed, Pending, Complete}
use Rattle.flush_queues.specs.declared.page.Way.{Way}
use Rattle.flush_queues.specs.declared.page.Way.TheVariants.{Failed, Inline, Late}

abbrev pub tables_of : Page → Tables
tables_of page = record {
  prefix = page.prefix.now;
  progressive = page.progressive;
  parts = page.segments.now.parts;
  bounds = page.boundaries.now.bounds;
}

abbrev pub stage_kind : Standing → Stage
stage_kind passed = Passed
stage_kind pending = Pending
stage_kind (complete bytes) = Complete

abbrev pub IsWay : Printing → Way → Type 0
IsWay way (Failed digest) = way ≡ failed digest.now
IsWay way Inline = way ≡ inline
IsWay way Late = way ≡ late

-- what follows a segment
abbrev pub closed : Tables → Closing → Flow → Flow
closed t Nothing flow = flow
closed t End flow = with_end flow
closed t (EndOfLate boundary) flow = with_awaited t boundary (with_end flow)

abbrev pub bytes_with : Option (List ℕ) → List ℕ
bytes_with None = []
bytes_with (Some bytes) = bytes

abbrev pub part_bytes : Option Part → List ℕ
part_bytes None = []
part_bytes (Some part) = bytes_with part.bytes

-- a kid of a segment, if there is one, and the kids after it
abbrev pub kids_from : List (Option Part) → ℕ → Option ℕ → List ℕ
kids_from parts parent None = []
kids_from parts parent (Some k) = k ∷ after_in k (kids_of parts parent)

abbrev pub IsKidIf : List (Option Part) → ℕ → Option ℕ → Type 0
IsKidIf parts parent None = Unit {0}
IsKidIf parts parent (Some k) = is_kid parent (part_at parts k) ≡ true

-- What a frame has still to do, if its kid is one of its segment.
pub record RunsRest (t : Tables) (frame : Frame) (flow after : Flow) : Type 0 where
  pub between : Flow
  pub printed : Prints t
      (rest (part_bytes (part_at t.parts frame.segment)) frame.place (kids_from t.parts frame.segment frame.kid)) flow between
  pub closes : after ≡ closed t frame.closing between

abbrev pub RunsFrame : Tables → Frame → Flow → Flow → Type 0
RunsFrame t frame flow after = IsKidIf t.parts frame.segment frame.kid → RunsRest t frame flow after

-- What frames have still to do, the last one first.
abbrev pub Runs : Tables → List Frame → Flow → Flow → Type 0
Runs t [] flow after = flow ≡ after
Runs t (outer ∷ inner) flow after = (between : Flow) × Runs t inner flow between × RunsFrame t outer between after

-- the last frame has still to run, and then the others
pub record RunsWith (t : Tables) (frame : Frame) (frames : List Frame) (flow after : Flow) : Type 0 where
  pub between : Flow
  pub first : RunsFrame t frame flow between
  pub runs : Runs t frames between after

-- A segment is printed, with what follows it, and then the frames run.
pub record RunsSegment (t : Tables) (s : ℕ) (closing : Closing) (frames : List Frame) (flow after : Flow) : Type 0 where
  pub between : Flow
  pub printed : Prints t (segment s) flow between
  pub runs : Runs t frames (closed t closing between) after

-- A kid is printed, and then the frames run.
pub record RunsKid (t : Tables) (k : ℕ) (frames : List Frame) (flow after : Flow) : Type 0 where
  pub between : Flow
  pub printed : Prints t (kid k) flow between
  pub runs : Runs t frames between after
