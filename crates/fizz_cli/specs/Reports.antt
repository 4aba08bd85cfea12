-- What the objects of a call report of themselves, before and after it: what files and sinks hold, where they report
-- it, and how many faults they counted.
use Rattle.std.specs.Prelude.{ℕ, List, take, Option}
use Rattle.std.specs.Io.KnownBytes.{Appends}
use Rattle.fizz_outside.specs.FileContents.{Contents}
use Rattle.fizz_outside.specs.Faults.{FaultCounted}

pub record FilesReport : Type 0 where
  pub contents : Option Contents
  pub faults : ℕ

pub record SinkReport : Type 0 where
  pub held : Option (List ℕ)
  pub faults : ℕ

-- what an object reported before and after
pub record Change (Report : Type 0) : Type 0 where
  pub before : Report
  pub after : Report

abbrev pub files_change : Option Contents → ℕ → Option Contents → ℕ → Change FilesReport
files_change contents faults contents_after faults_after = record {
  before = record { contents = contents; faults = faults };
  after = record { contents = contents_after; faults = faults_after };
}

abbrev pub sink_change : Option (List ℕ) → ℕ → Option (List ℕ) → ℕ → Change SinkReport
sink_change held faults held_after faults_after = record {
  before = record { held = held; faults = faults };
  after = record { held = held_after; faults = faults_after };
}

-- The files counted a fault.
abbrev pub HasFilesFault : Change FilesReport → Type 0
HasFilesFault files = FaultCounted files.before.faults files.after.faults

-- The sink counted a fault.
abbrev pub HasSinkFault : Change SinkReport → Type 0
HasSinkFault sink = FaultCounted sink.before.faults sink.after.faults

-- Some prefix of the bytes was appended.
abbrev pub AppendsPrefix : Option (List ℕ) → Option (List ℕ) → List ℕ → Type 0
AppendsPrefix old new bytes = (n : ℕ) × Appends old new (take n bytes)
