use Rattle.std.proofs.Common.{◌≡◌, ◌++◌, take}
use Rattle.std.specs.List.{flat_map}
use Rattle.fizz_cli.specs.Notes.{two_digits}
use Rattle.fizz_cli.proofs.note.push_hash.Given as goal

abbrev pub invariant-loop-byte : goal.invariant-loop-byte
invariant-loop-byte l = l.note.items ≡ l.fn.note.items ++ flat_map two_digits (take l.byte-index l.bytes)
