use Rattle.std.proofs.Common.{◌≡◌, ap, ◌∙◌}
use Rattle.fizz_task.specs.Board.{Board, count_of, is_claimed}
use Rattle.fizz_task.proofs.Keeping.{kept_renumbered}
use Rattle.fizz_task.proofs.columns.Columns.renumber.Goals as goal

pub invariant_of-self : goal.invariant_of-self
invariant_of-self g c =
    let none : count_of is_claimed c.self.inside.states.items ≡ 0 = ap (λ (b : Board g.row.W.Denot). count_of is_claimed b.states) c.self.view_is ∙ c.requires in
    (kept_renumbered _ _ _ _ _ c.self.invariant.0 none, c.self.invariant.1, c.self.invariant.2)
