use Rattle.std.proofs.Common.{◌≡◌, length, sym, ap, subst, arith}
use Rattle.fizz_task.specs.Board.{Board}
use Rattle.fizz_task.specs.Calls.{dropped}
use Rattle.fizz_task.proofs.Dropping.{length-dropped}
use Rattle.fizz_task.proofs.Owned.{dropped_empty}
use Rattle.fizz_task.proofs.tasks.Tasks.drop_owned.Goals as goal

pub returns-else-made-gt0 : goal.returns-else-made-gt0
returns-else-made-gt0 g c =
    sym (subst (λ (b : Board g.row.W.Denot). dropped c.args.owner b ≡ b) c.self.view_is
    (dropped_empty c.args.owner c.self.inside.columns c.made.ensures.board (omega (arith, c.made.ensures.made, c.if-made-gt0.false))))

pub invariant_of-self : goal.invariant_of-self
invariant_of-self g c = (
  c.drop_all.ensures.indexed,
  omega (
    arith,
    c.self.invariant.1,
    ap (λ (b : Board g.row.W.Denot). length b.states) c.drop_all.ensures.dropped,
    ap (λ (b : Board g.row.W.Denot). b.spare) c.drop_all.ensures.dropped,
    length-dropped c.args.owner c.self.inside.columns.owners c.self.inside.columns.states,
  ),
)
