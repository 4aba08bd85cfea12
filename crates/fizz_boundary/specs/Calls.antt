-- What each call makes of the boundaries.
use Rattle.std.specs.Prelude.{◌+◌, ◌-◌, ◌^◌, ◌==◌, ◌<◌, max, min, ℕ, true, if◌then◌else◌, List, [], ◌∷◌, ◌++◌, length, slice_set, IsSome, Option, Some, None}
use Rattle.fizz_boundary.specs.declared.boundary.State.{State}
use Rattle.fizz_boundary.specs.declared.boundary.State.TheVariants.{Pending, Complete, Failed}
use Rattle.fizz_boundary.specs.declared.boundary.Bound.{Bound}
use Rattle.fizz_boundary.specs.Bounds.{Bounds, blank, bound_at, mark_at, tasks_left}

abbrev pub no_boundaries : Bounds
no_boundaries = record { bounds = []; marks = []; spare = 0 }

abbrev pub reserved : ℕ → Bounds → Bounds
reserved n all = record all { spare = max all.spare n }

-- one boundary more, whose content is its one task
abbrev pub added : List ℕ → Option ℕ → ℕ → Option ℕ → Bounds → Bounds
added path parent root site all = record all {
  bounds = all.bounds
      ++ record { path = path; parent = parent; root = root; site = site; state = Pending 1 0 } ∷ [];
  marks = all.marks ++ blank ∷ [];
  spare = all.spare - 1;
}

-- the boundary around it was made, or there is none
abbrev pub IsParent : Bounds → Option ℕ → Type 0
IsParent all None = Unit {0}
IsParent all (Some parent) = parent < length all.bounds

abbrev pub IsMade : Bounds → ℕ → Type 0
IsMade all id = id < length all.bounds

abbrev pub IsPending : Bounds → ℕ → Type 0
IsPending all id = IsSome (tasks_left (bound_at all.bounds id))

abbrev pub with_drawn : ℕ → ℕ → Bounds → Bounds
with_drawn id h all = record all { marks = slice_set all.marks id (record (mark_at all.marks id) { drawn = Some h }) }

abbrev pub with_revealed : ℕ → Bounds → Bounds
with_revealed id all = record all { marks = slice_set all.marks id (record (mark_at all.marks id) { revealed = true }) }

-- a boundary whose state is changed
abbrev pub changed_at : (State → State) → ℕ → List Bound → List Bound
changed_at change id bounds = changed (bound_at bounds id)
  where
    changed : Option Bound → List Bound
    changed None = bounds
    changed (Some bound) = slice_set bounds id (record bound { state = change bound.state })

abbrev pub with_state : (State → State) → ℕ → Bounds → Bounds
with_state change id all = record all { bounds = changed_at change id all.bounds }

-- so many tasks more
abbrev pub more : ℕ → State → State
more count (Pending tasks bytes) = Pending (tasks + count) bytes
more count (Complete bytes) = Complete bytes
more count (Failed digest) = Failed digest

-- both numbers together, or the greatest one
abbrev pub bytes_with : ℕ → ℕ → ℕ
bytes_with bytes more = min (bytes + more) (2 ^ 64 - 1)

-- one task less, which printed so many bytes
abbrev pub one_done : ℕ → State → State
one_done more (Pending tasks bytes) =
    if tasks == 1 then Complete (bytes_with bytes more) else Pending (tasks - 1) (bytes_with bytes more)
one_done more (Complete bytes) = Complete bytes
one_done more (Failed digest) = Failed digest

abbrev pub failed_with : List ℕ → State → State
failed_with digest state = Failed digest
