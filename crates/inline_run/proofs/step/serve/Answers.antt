use Rattle.std.proofs.Common.{ap, length}
use Rattle.std.proofs.lemmas.Result.{err_from_is_err_and}
use Rattle.request_state.specs.Core.{core_of}
use Rattle.inline_run.specs.Steps.{line}
use Rattle.inline_run.proofs.RunLemmas.{ends_before, if_err, step_ends, step_goes_on}
use Rattle.inline_run.proofs.step.serve.Goals as goal

pub returns-in_err-serve-clause-ended : goal.returns-in_err-serve-clause-ended
returns-in_err-serve-clause-ended g c =
    let p = err_from_is_err_and c.from_residual.result c.from_residual.ensures.1 in
    if_err c.from_residual.result _ p.0 p.1 (ends_before c.args.state.now.plan _ _ _ _ p.0 p.2)

pub returns-clause-stepped : goal.returns-clause-stepped
returns-clause-stepped g c =
    step_goes_on c.args.state.now.plan (line c.args.line.now) (core_of c.args.state.now) _ _ _ _ _ _ c.go_on.result
    c.in_ok-serve.ensures.stepped c.requires.sound (ap length c.transcript-from.ensures) c.go_on.ensures.sound
    c.go_on.ensures.sent c.go_on.ensures.later

pub returns-clause-ended : goal.returns-clause-ended
returns-clause-ended g c =
    step_ends c.args.state.now.plan (line c.args.line.now) (core_of c.args.state.now) _ _ _ _ _ _ c.go_on.result
    c.in_ok-serve.ensures.stepped c.requires.sound (ap length c.transcript-from.ensures) c.go_on.ensures.ended
