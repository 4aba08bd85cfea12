use Rattle.std.proofs.Common.{drop}
use Rattle.fizz_task.specs.Indexed.{IsWaking}
use Rattle.fizz_task.proofs.indexing.wake_all.Given as goal

abbrev pub invariant-loop-task : goal.invariant-loop-task
invariant-loop-task g l = IsWaking l.name l.fn.columns l.columns l.by_owner l.by_name (drop l.task-index l.tasks) l.tasks
