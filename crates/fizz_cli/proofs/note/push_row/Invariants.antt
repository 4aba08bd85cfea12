use Rattle.std.proofs.Common.{◌≡◌, ◌++◌, map, take}
use Rattle.std.specs.List.{flat_map}
use Rattle.fizz_cli.specs.Notes.{entry_of, entry_text}
use Rattle.fizz_cli.proofs.note.push_row.Given as goal

abbrev pub invariant-loop-field : goal.invariant-loop-field
invariant-loop-field l = l.note.items ≡ l.fn.note.items ++ (l.label ++ flat_map entry_text (map entry_of (take l.field-index l.fields)))
