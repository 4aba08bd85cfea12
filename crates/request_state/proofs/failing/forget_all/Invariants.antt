use Rattle.std.proofs.Common.{◌≡◌, [], length, slice_set}
use Rattle.id_lists.specs.Lists.{AreLists, list_at}
use Rattle.request_state.specs.Failing.{all_forgotten}
use Rattle.request_state.proofs.failing.forget_all.Given as goal

abbrev pub invariant-segments : goal.invariant-segments
invariant-segments l =
    AreLists l.own
    × (l.list ≡ l.initial.list)
    × (all_forgotten (list_at l.own.lists l.list) l.segments
    ≡ all_forgotten (list_at l.initial.own.lists l.initial.list) l.initial.segments)
    × (record l.own { lists = slice_set l.own.lists l.list [] }
    ≡ record l.initial.own { lists = slice_set l.initial.own.lists l.initial.list [] })

abbrev pub decreases-segments : goal.decreases-segments
decreases-segments l = length (list_at l.own.lists l.list)
