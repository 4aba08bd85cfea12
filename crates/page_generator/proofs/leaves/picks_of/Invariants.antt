use Rattle.std.proofs.Common.{◌≡◌, ◌-◌, ◌++◌}
use Rattle.page_generator.specs.Pages.{picks_from}
use Rattle.page_generator.proofs.leaves.picks_of.Given as goal

abbrev pub invariant-loop-leaf : goal.invariant-loop-leaf
invariant-loop-leaf l = l.picks.items ++ picks_from l.draws (l.count - l._leaf) ≡ picks_from l.fn.draws l.count
