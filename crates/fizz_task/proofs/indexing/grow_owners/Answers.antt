use Rattle.std.proofs.Common.{ℕ, Option, ap, ◌∙◌, arith}
use Rattle.fizz_task.specs.Board.{state_at}
use Rattle.fizz_task.specs.Calls.{owner_at}
use Rattle.fizz_task.specs.Indexed.{moved, owner_places}
use Rattle.fizz_task.proofs.Guides.{filled_more, owner_has}
use Rattle.fizz_task.proofs.indexing.grow_owners.Goals as goal

pub loop-task-preserved : goal.loop-task-preserved
loop-task-preserved g c =
    filled_more _ _ _ c.loop-task.task (owner_places c.args.columns.now c.list_count-count.result) c.loop-task.by_owner c.move_to.new.lists
    c.loop-task.invariant
    (owner_has c.list_count-count.result (owner_at c.args.columns.now.owners c.loop-task.task) (state_at c.args.columns.now.states c.loop-task.task)
    c.loop-task.by_owner.lists c.loop-task.invariant.counted
    (omega (arith, c.list_count-count.ensures.count, c.add_lists.ensures.count, c.requires.some)))
    (c.move_to.ensures.moved
    ∙ ap (λ (list : Option ℕ). record c.loop-task.by_owner { lists = moved list c.loop-task.task c.loop-task.by_owner.lists }) c.owner_place.ensures)
    c.move_to.ensures.lists
