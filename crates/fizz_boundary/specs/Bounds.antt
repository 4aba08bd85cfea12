-- What boundaries are to those who use them: plain data.
use Rattle.std.specs.Prelude.{◌≡◌, ◌+◌, ◌<◌, ◌^◌, ℕ, false, List, length, slice_get, slice_index_or, Option, Some, None}
use Rattle.fizz_boundary.specs.declared.boundary.State.{State}
use Rattle.fizz_boundary.specs.declared.boundary.State.TheVariants.{Pending, Complete, Failed}
use Rattle.fizz_boundary.specs.declared.boundary.Bound.{Bound}
use Rattle.fizz_boundary.specs.declared.boundary.Mark.{Mark}

-- By number: each boundary that was made, and how it is printed. Then how many more can be made without memory.
pub record Bounds : Type 0 where
  pub bounds : List Bound
  pub marks : List Mark
  pub spare : ℕ

abbrev pub blank : Mark
blank = record { drawn = None; revealed = false }

abbrev pub bound_at : List Bound → ℕ → Option Bound
bound_at bounds id = slice_get bounds id

abbrev pub mark_at : List Mark → ℕ → Mark
mark_at marks id = slice_index_or marks id blank

-- the number of own tasks that are left, of a boundary that is pending
abbrev pub tasks_of : State → Option ℕ
tasks_of (Pending tasks bytes) = Some tasks
tasks_of (Complete bytes) = None
tasks_of (Failed digest) = None

abbrev pub tasks_left : Option Bound → Option ℕ
tasks_left None = None
tasks_left (Some bound) = tasks_of bound.state

-- what is true of all boundaries
pub record AreBounds (all : Bounds) : Type 0 where
  pub marked : length all.marks ≡ length all.bounds
  -- so every number that a boundary can get is below 4,294,967,295
  pub few : length all.bounds + all.spare < 2 ^ 32
  -- a pending boundary has tasks left
  pub working : (id tasks : ℕ) → tasks_left (bound_at all.bounds id) ≡ Some tasks → 0 < tasks
