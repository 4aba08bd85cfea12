use Rattle.std.proofs.Common.{length}
use Rattle.fizz_task.specs.Indexed.{IsFilled, name_places}
use Rattle.fizz_task.proofs.indexing.grow_names.Given as goal

abbrev pub invariant-loop-task : goal.invariant-loop-task
invariant-loop-task g l =
    IsFilled (length l.columns.states) l.columns.spare l.count l.task (name_places l.columns l.count) l.by_name
