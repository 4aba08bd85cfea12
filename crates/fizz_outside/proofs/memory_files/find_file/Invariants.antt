use Rattle.std.proofs.Common.{◌≡◌, drop}
use Rattle.fizz_outside.specs.Memory.{file_at}
use Rattle.fizz_outside.specs.Memory.{entries_of}
use Rattle.fizz_outside.proofs.memory_files.find_file.Given as goal

-- the file is the one that stands in what is left
abbrev pub invariant-loop-entry : goal.invariant-loop-entry
invariant-loop-entry l = file_at (entries_of (drop l.entry-index l.entries)) l.name ≡ file_at (entries_of l.entries) l.name
