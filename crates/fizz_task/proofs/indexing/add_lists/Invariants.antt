use Rattle.fizz_task.specs.Indexed.{HasMore}
use Rattle.fizz_task.proofs.indexing.add_lists.Given as goal

abbrev pub invariant-loop : goal.invariant-loop
invariant-loop l = HasMore l.counter l.fn.lists l.lists
