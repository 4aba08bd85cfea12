use Rattle.std.proofs.Common.{length, ap, arith}
use Rattle.fizz_task.proofs.Waking.{waiters_few}
use Rattle.fizz_task.proofs.tasks.Tasks.settle.Goals as goal

pub overflow_cast-result : goal.overflow_cast-result
overflow_cast-result g c =
    omega (
      arith,
      c.len.ensures,
      c.find_all.new.found.ok.0,
      ap length c.find_all.ensures.found,
      waiters_few c.args.name.now c.self.inside.columns.states,
      c.made.ensures.board.few,
    )
