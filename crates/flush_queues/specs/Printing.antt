-- Segments as they are printed: their bytes, with each kid at its place.
use Rattle.std.specs.Prelude.{◌≡◌, ℕ, List, [], ◌∷◌, drop, slice_range, Some, None}
use Rattle.fizz_segment.specs.Tree.{kids_of, part_at}
use Rattle.flush_queues.specs.Flows.{Tables, complete, failed, failed_bytes, inline, late, passed, pending, place_of, root_at, site_of, stage_at, way_at, with_awaited, with_begun, with_end, with_inline, with_late, with_placeholder, with_written}
use Rattle.flush_queues.specs.declared.flow.Flow.{Flow}

-- What is printed: of a segment's bytes what stands from a place on, with these kids; a kid; or a segment.
pub data Job : Type 0 where
  rest : (bytes : List ℕ) → (place : ℕ) → (kids : List ℕ) → Job
  kid : ℕ → Job
  segment : ℕ → Job

pub data Prints (t : Tables) : Job → Flow → Flow → Type 0 where
  ends : (bytes : List ℕ) (place : ℕ) (flow : Flow)
      → Prints t (rest bytes place []) flow (with_written (drop place bytes) flow)
  -- the bytes before the first kid, the kid, and the rest
  goes_on : (bytes : List ℕ) (place k : ℕ) (kids : List ℕ) (flow between after : Flow)
      → Prints t (kid k) (with_written (slice_range bytes place (place_of (part_at t.parts k))) flow) between
      → Prints t (rest bytes (place_of (part_at t.parts k)) kids) between after
      → Prints t (rest bytes place (k ∷ kids)) flow after
  -- what is printed or forgotten isn't printed again
  passes : (s : ℕ) (flow : Flow) → stage_at t flow s ≡ passed → Prints t (segment s) flow flow
  -- a placeholder stands for bytes that are still to come
  names : (s : ℕ) (flow : Flow) → stage_at t flow s ≡ pending → Prints t (segment s) flow (with_placeholder t s flow)
  prints : (s : ℕ) (bytes : List ℕ) (flow after : Flow) → stage_at t flow s ≡ complete bytes
      → Prints t (rest bytes 0 (kids_of t.parts s)) (with_begun s flow) after → Prints t (segment s) flow after
  is_child : (k : ℕ) (flow after : Flow) → site_of (part_at t.parts k) ≡ None
      → Prints t (segment k) flow after → Prints t (kid k) flow after
  -- a boundary that has failed: `$!`, its fallback, `/$`
  has_failed : (k boundary : ℕ) (digest : List ℕ) (flow after : Flow)
      → site_of (part_at t.parts k) ≡ Some boundary → way_at t boundary ≡ failed digest
      → Prints t (segment k) (with_written (failed_bytes digest) flow) after
      → Prints t (kid k) flow (with_end after)
  -- a small complete one: `$`, its content, `/$`
  is_inline : (k boundary : ℕ) (flow after : Flow)
      → site_of (part_at t.parts k) ≡ Some boundary → way_at t boundary ≡ inline
      → Prints t (segment (root_at t boundary)) (with_inline boundary flow) after
      → Prints t (kid k) flow (with_end after)
  -- any other one: `$?`, its fallback, `/$`
  is_late : (k boundary : ℕ) (flow after : Flow)
      → site_of (part_at t.parts k) ≡ Some boundary → way_at t boundary ≡ late
      → Prints t (segment k) (with_late t boundary flow) after
      → Prints t (kid k) flow (with_awaited t boundary (with_end after))
