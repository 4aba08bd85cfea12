use Rattle.std.proofs.Common.{sym, subst}
use Rattle.jsx_value.specs.Expansions.{IsUnfolded}
use Rattle.jsx_value.specs.Positions.{Page}
use Rattle.jsx_value.specs.Weights.{AddsUp}
use Rattle.fizz_piece.specs.Pieces.{page_under}
use Rattle.fizz_piece.proofs.rendering.outcome_of.Goals as goal

pub outcome_on-requires-clause-unfolded : goal.outcome_on-requires-clause-unfolded
outcome_on-requires-clause-unfolded c =
    subst (λ (p : Page). IsUnfolded p) (sym c.page_of.ensures.page)
    (c.laws_of_expansions.ensures.unfolded (page_under c.args.plan.now c.args.work.now.settled) (c.laws_of_apps.ensures c.args.plan.now.app.now c.page_of.ensures.app))

pub outcome_on-requires-clause-adds_up : goal.outcome_on-requires-clause-adds_up
outcome_on-requires-clause-adds_up c =
    subst (λ (p : Page). AddsUp p) (sym c.page_of.ensures.page)
    (c.laws_of_expansions.ensures.weight (page_under c.args.plan.now c.args.work.now.settled) (c.laws_of_apps.ensures c.args.plan.now.app.now c.page_of.ensures.app))
