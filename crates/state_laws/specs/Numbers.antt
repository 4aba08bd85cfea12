-- Segments and boundaries that are told by others were made.
use Rattle.std.specs.Prelude.{ℕ, ◌<◌, length, Option, Some, None}
use Rattle.fizz_boundary.specs.Bounds.{bound_at}
use Rattle.fizz_boundary.specs.declared.boundary.Bound.{Bound}
use Rattle.fizz_segment.specs.declared.segment.Part.{Part}
use Rattle.fizz_segment.specs.declared.segment.SegKind.{SegKind}
use Rattle.fizz_segment.specs.declared.segment.SegKind.TheVariants.{Root, Child, Site}
use Rattle.fizz_segment.specs.Tree.{part_at}
use Rattle.request_state.specs.Core.{Core}

-- a number, if there is one, is below this
abbrev pub IsBelow : Option ℕ → ℕ → Type 0
IsBelow None bound = Unit {0}
IsBelow (Some number) bound = number < bound

-- the boundary of which a segment is the content or the fallback is one of so many
abbrev pub KindFits : SegKind → ℕ → Type 0
KindFits (Root boundary) bounds = IsBelow boundary bounds
KindFits Child bounds = Unit {0}
KindFits (Site boundary) bounds = boundary < bounds

-- A segment stands in one that was made before it.
abbrev pub PartFits : (segment bounds : ℕ) → Option Part → Type 0
PartFits segment bounds None = Unit {0}
PartFits segment bounds (Some part) = IsBelow part.parent segment × KindFits part.kind bounds

-- A boundary stands in one that was made before it, and its content and its fallback are of so many segments.
abbrev pub BoundFits : (boundary segments : ℕ) → Option Bound → Type 0
BoundFits boundary segments None = Unit {0}
BoundFits boundary segments (Some bound) =
    IsBelow bound.parent boundary × (bound.root < segments) × IsBelow bound.site segments

-- Each segment and each boundary tells only of what was made.
pub record NumbersFit (core : Core) : Type 0 where
  pub parts : (segment : ℕ)
      → PartFits segment (length core.boundaries.bounds) (part_at core.segments.parts segment)
  pub bounds : (boundary : ℕ)
      → BoundFits boundary (length core.segments.parts) (bound_at core.boundaries.bounds boundary)
