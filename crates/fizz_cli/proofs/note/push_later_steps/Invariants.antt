use Rattle.std.proofs.Common.{◌≡◌, ◌++◌, take}
use Rattle.std.specs.List.{flat_map}
use Rattle.fizz_cli.specs.Notes.{after_dot}
use Rattle.fizz_cli.proofs.note.push_later_steps.Given as goal

abbrev pub invariant-loop-step : goal.invariant-loop-step
invariant-loop-step l = l.note.items ≡ l.fn.note.items ++ flat_map after_dot (take l.step-index l.later)
