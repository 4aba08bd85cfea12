use Rattle.std.proofs.Common.{◌-◌, ◌+◌, length, ap, sym, ◌∙◌, arith}
use Rattle.request_state.specs.Failing.{is_around}
use Rattle.request_state.proofs.FailingLemmas.{is_around-step}
use Rattle.request_state.proofs.failing.is_within.Goals as goal

pub around-preserved : goal.around-preserved
around-preserved c =
    ap (is_around (length c.args.boundaries.now.bounds - (c.around.step + 1)) c.args.boundaries.now.bounds c.args.boundary)
    c.outer-around.ensures
    ∙ sym (is_around-step c.args.boundaries.now.bounds c.args.boundary c.in-Some.one c.around.step
    (length c.args.boundaries.now.bounds) (omega (arith, c.around-test.true, c.next-step-end.ensures.next))
    c.if-one-boundary.false)
    ∙ ap (is_around (length c.args.boundaries.now.bounds - c.around.step) c.args.boundaries.now.bounds c.args.boundary)
    (sym c.in-Some.is)
    ∙ c.around.invariant
