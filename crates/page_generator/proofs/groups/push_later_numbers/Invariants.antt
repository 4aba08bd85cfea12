use Rattle.std.proofs.Common.{◌≡◌, ◌++◌}
use Rattle.page_generator.specs.Parts.{later_numbers, numbers_from}
use Rattle.page_generator.proofs.groups.push_later_numbers.Given as goal

abbrev pub invariant-loop-number : goal.invariant-loop-number
invariant-loop-number l = l.script.items ++ later_numbers (numbers_from l.number l.past) ≡ l.fn.script.items ++ later_numbers (numbers_from l.first l.past)
