-- Counts of faults, which are kept in 64 bits.
use Rattle.std.specs.Prelude.{ℕ, ◌+◌, ◌-◌, ◌^◌, ◌≤◌, min}

-- a fault was counted: the count rose by one at least, or stands at the greatest that it can have
abbrev pub FaultCounted : ℕ → ℕ → Type 0
FaultCounted before now = min (before + 1) (2 ^ 64 - 1) ≤ now
