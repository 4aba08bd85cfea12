use Rattle.std.proofs.Common.{◌-◌, ◌+◌, length, ap, sym, ◌∙◌, arith}
use Rattle.request_state.specs.Closing.{has_failed}
use Rattle.request_state.proofs.ClosingLemmas.{has_failed-step}
use Rattle.request_state.proofs.closing.has_failed.Goals as goal

pub around-preserved : goal.around-preserved
around-preserved c =
    ap (has_failed (length c.args.boundaries.now.bounds - (c.around.step + 1)) c.args.boundaries.now.bounds)
    c.outer-around.ensures
    ∙ sym (has_failed-step c.args.boundaries.now.bounds c.in-Some.one c.around.step
    (length c.args.boundaries.now.bounds) (omega (arith, c.around-test.true, c.next-step-end.ensures.next))
    (sym c.is_failed.ensures ∙ c.if-is_failed.false))
    ∙ ap (has_failed (length c.args.boundaries.now.bounds - c.around.step) c.args.boundaries.now.bounds)
    (sym c.in-Some.is)
    ∙ c.around.invariant
