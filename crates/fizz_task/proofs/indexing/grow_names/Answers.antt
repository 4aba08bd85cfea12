use Rattle.std.proofs.Common.{ℕ, Option, ap, ◌∙◌, arith}
use Rattle.fizz_task.specs.Board.{state_at}
use Rattle.fizz_task.specs.Indexed.{moved, name_places}
use Rattle.fizz_task.proofs.Guides.{filled_more, name_has}
use Rattle.fizz_task.proofs.indexing.grow_names.Goals as goal

pub loop-task-preserved : goal.loop-task-preserved
loop-task-preserved g c =
    filled_more _ _ _ c.loop-task.task (name_places c.args.columns.now c.list_count-count.result) c.loop-task.by_name c.move_to.new.lists
    c.loop-task.invariant
    (name_has c.list_count-count.result (state_at c.args.columns.now.states c.loop-task.task)
    c.loop-task.by_name.lists c.loop-task.invariant.counted
    (omega (arith, c.list_count-count.ensures.count, c.add_lists.ensures.count, c.requires.some)))
    (c.move_to.ensures.moved
    ∙ ap (λ (list : Option ℕ). record c.loop-task.by_name { lists = moved list c.loop-task.task c.loop-task.by_name.lists }) c.name_place.ensures)
    c.move_to.ensures.lists
