use Rattle.std.proofs.lemmas.Result.{err_from_is_err_and}
use Rattle.request_state.specs.Core.{Core, core_of}
use Rattle.inline_run.proofs.RunLemmas.{cut_run, if_err, if_err_map, if_ok_map, not_begun, whole_run}
use Rattle.inline_run.proofs.run.run_inline.Goals as goal

pub returns-in_err-state-clause-ended : goal.returns-in_err-state-clause-ended
returns-in_err-state-clause-ended g c =
    let p = err_from_is_err_and c.from_residual.result c.from_residual.ensures.1 in
    if_err c.from_residual.result _ p.0 p.1 (not_begun c.args.plan c.args.script.now _ _ p.0 p.2)

pub returns-clause-done : goal.returns-clause-done
returns-clause-done g c =
    if_ok_map c.drive_inline.result _ _ c.drive_inline.ensures.done (λ report. whole_run c.args.plan c.in_ok-state.state.plan
    c.in_ok-state.ensures.plan c.args.script.now (core_of c.in_ok-state.state) _ _ report c.in_ok-state.ensures.new)

pub returns-clause-ended : goal.returns-clause-ended
returns-clause-ended g c =
    if_err_map c.drive_inline.result _ _ c.drive_inline.ensures.ended (λ fault. cut_run c.args.plan c.in_ok-state.state.plan
    c.in_ok-state.ensures.plan c.args.script.now (core_of c.in_ok-state.state) _ _ _ _ fault c.in_ok-state.ensures.new)
