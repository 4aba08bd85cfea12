use Rattle.std.proofs.Common.{◌≡◌, ◌<◌, length, sym, ap, ◌∙◌}
use Rattle.std.proofs.lemmas.List.{get_or_read}
use Rattle.fizz_task.specs.declared.state.State.TheVariants.{Gone}
use Rattle.fizz_task.specs.Board.{is_runnable, state_at}
use Rattle.fizz_task.proofs.Views.{drops_more, first_inside}
use Rattle.fizz_task.proofs.columns.first_runnable.Goals as goal

pub loop-task-preserved : goal.loop-task-preserved
loop-task-preserved g c =
    let inside : c.in-Some.task < length c.args.states.now =
    first_inside c.args.states.now c.args.queue.now.items _ _ c.in-Some.task c.requires c.loop-task.invariant.0 c.in-Some.ensures.items in
    let read : is_runnable c.index-states-task.result ≡ is_runnable (state_at c.args.states.now c.in-Some.task) =
    ap is_runnable (get_or_read c.args.states.now c.in-Some.task c.index-states-task.result inside c.index-states-task.is Gone) in (
      drops_more c.args.states.now c.args.queue.now.items c.loop-task.queue.items c.pop_front.new.self.items c.in-Some.task
          c.loop-task.invariant.0 c.in-Some.ensures.items (sym read ∙ sym c.if-is_runnable.ensures),
      c.in-Some.ensures.capacity ∙ c.loop-task.invariant.1,
    )
