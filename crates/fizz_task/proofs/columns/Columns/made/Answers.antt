use Rattle.std.proofs.Common.{subst}
use Rattle.fizz_task.specs.Board.{Board, IsBoard}
use Rattle.fizz_task.proofs.Views.{board_kept}
use Rattle.fizz_task.proofs.columns.Columns.made.Goals as goal

pub returns-clause-board : goal.returns-clause-board
returns-clause-board g c =
    subst (λ (b : Board g.row.W.Denot). IsBoard b) c.self.view_is (board_kept _ _ _ _ _ c.self.invariant.0)
