use Rattle.std.proofs.Common.{length}
use Rattle.id_lists.specs.Lists.{list_at}
use Rattle.fizz_task.specs.Indexed.{IsDropping, rest}
use Rattle.fizz_task.proofs.indexing.drop_all.Given as goal

abbrev pub invariant-loop-next : goal.invariant-loop-next
invariant-loop-next g l = IsDropping l.owner l.list l.fn.columns l.columns l.by_owner l.by_name l.next

abbrev pub decreases-loop-next : goal.decreases-loop-next
decreases-loop-next g l = length (rest l.next (list_at l.by_owner.lists l.list))
