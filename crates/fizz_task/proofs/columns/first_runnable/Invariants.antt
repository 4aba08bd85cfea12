use Rattle.std.proofs.Common.{length, deque_capacity, ◌≡◌}
use Rattle.fizz_task.specs.Stored.{DropsGone}
use Rattle.fizz_task.proofs.columns.first_runnable.Given as goal

abbrev pub invariant-loop-task : goal.invariant-loop-task
invariant-loop-task g l = DropsGone l.states l.fn.queue.items l.queue.items × (deque_capacity l.queue ≡ deque_capacity l.fn.queue)

abbrev pub decreases-loop-task : goal.decreases-loop-task
decreases-loop-task g l = length l.queue.items
