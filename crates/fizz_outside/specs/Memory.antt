-- What contracts see of the sink and of the files in memory.
use Rattle.std.specs.Prelude.{ℕ, ◌+◌, ◌-◌, ◌^◌, min, List, [], ◌∷◌, ◌++◌, map, Vec, Option, Some, None, if◌then◌else◌}
use Rattle.std.specs.Str.{bytes_eq}
use Rattle.std.specs.declared.alloc.Global.{Global}

-- a sink in memory: its bytes, the numbers of the calls that fail, how many calls it answered, and its faults
pub record SinkRecord : Type 0 where
  pub bytes : List ℕ
  pub fails : List ℕ
  pub calls : ℕ
  pub faults : ℕ

-- a file: its name and its bytes
pub record Entry : Type 0 where
  pub name : List ℕ
  pub bytes : List ℕ

-- files in memory: the files, the numbers of the calls that fail, how many calls were answered, and the faults
pub record FilesRecord : Type 0 where
  pub entries : List Entry
  pub fails : List ℕ
  pub calls : ℕ
  pub faults : ℕ

-- the files that the code keeps as names and vectors
abbrev pub entry_of : (List ℕ × Vec ℕ Global) → Entry
entry_of pair = record { name = pair.0; bytes = pair.1.items }

abbrev pub entries_of : List (List ℕ × Vec ℕ Global) → List Entry
entries_of pairs = map entry_of pairs

-- the bytes of the first file of this name
abbrev pub file_at : List Entry → List ℕ → Option (List ℕ)
file_at [] name = None
file_at (entry ∷ entries) name = if bytes_eq entry.name name then Some entry.bytes else file_at entries name

-- one more, and at most what 64 bits hold
abbrev pub next_count : ℕ → ℕ
next_count n = min (n + 1) (2 ^ 64 - 1)

-- the sink after a call that failed
abbrev pub sink_failed : SinkRecord → SinkRecord
sink_failed s = record s { calls = next_count s.calls; faults = next_count s.faults }

-- the sink after it took the bytes
abbrev pub sink_took : SinkRecord → List ℕ → SinkRecord
sink_took s bytes = record s { bytes = s.bytes ++ bytes; calls = next_count s.calls }

-- the files after a call that was answered, and after one that failed
abbrev pub files_answered : FilesRecord → FilesRecord
files_answered f = record f { calls = next_count f.calls }

abbrev pub files_failed : FilesRecord → FilesRecord
files_failed f = record f { calls = next_count f.calls; faults = next_count f.faults }

-- the files with one more in front
abbrev pub files_with : FilesRecord → List ℕ → List ℕ → FilesRecord
files_with f name bytes = record f { entries = record { name = name; bytes = bytes } ∷ f.entries }
