use Rattle.std.proofs.Common.{◌≡◌, length}
use Rattle.std.specs.Vec.{vec_capacity}
use Rattle.id_lists.specs.Lists.{list_at}
use Rattle.fizz_task.specs.Board.{state_at, waits_for}
use Rattle.fizz_task.specs.Indexed.{IsFinding, rest}
use Rattle.fizz_task.proofs.indexing.find_waiting.Given as goal

abbrev pub invariant-loop-next : goal.invariant-loop-next
invariant-loop-next g l =
    IsFinding (λ n. waits_for l.name (state_at l.columns.states n)) (list_at l.by_name.lists l.list) l.found.items l.next
    × (vec_capacity l.found ≡ vec_capacity l.fn.found)

abbrev pub decreases-loop-next : goal.decreases-loop-next
decreases-loop-next g l = length (rest l.next (list_at l.by_name.lists l.list))
