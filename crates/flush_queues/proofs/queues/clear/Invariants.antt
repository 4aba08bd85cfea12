use Rattle.std.proofs.Common.{◌≡◌, [], length, slice_set}
use Rattle.id_lists.specs.Lists.{AreLists, list_at}
use Rattle.flush_queues.proofs.queues.clear.Given as goal

abbrev pub invariant-left : goal.invariant-left
invariant-left l =
    AreLists l.lists
    × (l.list ≡ l.initial.list)
    × (record l.lists { lists = slice_set l.lists.lists l.list [] }
    ≡ record l.initial.lists { lists = slice_set l.initial.lists.lists l.initial.list [] })

abbrev pub decreases-left : goal.decreases-left
decreases-left l = length (list_at l.lists.lists l.list)
