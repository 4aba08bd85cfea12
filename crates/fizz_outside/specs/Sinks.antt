-- What a sink takes, and when it may fail.
use Rattle.std.specs.Prelude.{◌≡◌, ℕ, ◌≤◌, List, take, Option, Result, Ok, Err}
use Rattle.std.specs.Io.KnownBytes.{Appends}
use Rattle.fizz_outside.specs.declared.sink.SinkRefused.{SinkRefused}
use Rattle.fizz_outside.specs.declared.sink.SinkRefused.TheVariants.{Failed}
use Rattle.fizz_outside.specs.Faults.{FaultCounted}

-- all of the bytes were appended, or by a refusal some prefix of them
abbrev pub Takes : {T : Type 0} → Option (List ℕ) → Option (List ℕ) → List ℕ → Result T SinkRefused → Type 0
Takes old new bytes (Ok v) = Appends old new bytes
Takes old new bytes (Err e) = (n : ℕ) × Appends old new (take n bytes)

-- the count of faults never falls, and rose where the sink failed
pub record HasSinkCause {T : Type 0} (before now : ℕ) (result : Result T SinkRefused) : Type 0 where
  pub later : before ≤ now
  pub failed : result ≡ Err Failed → FaultCounted before now
