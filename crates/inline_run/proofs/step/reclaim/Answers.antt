use Rattle.std.proofs.Common.{ap, length, subst, sym}
use Rattle.std.proofs.lemmas.Result.{err_from_is_err_and}
use Rattle.request_state.specs.Core.{Core, core_of}
use Rattle.request_laws.specs.Transcripts.{SendsNothing}
use Rattle.request_laws.specs.Works.{WorksStand}
use Rattle.inline_run.specs.Sending.{Steps}
use Rattle.inline_run.specs.Steps.{reclaim}
use Rattle.inline_run.proofs.RunLemmas.{ends_before, if_err, silent_step, step_ends, step_goes_on}
use Rattle.inline_run.proofs.step.reclaim.Goals as goal

pub returns-in_err-reclaim-clause-ended : goal.returns-in_err-reclaim-clause-ended
returns-in_err-reclaim-clause-ended g c =
    let p = err_from_is_err_and c.from_residual.result c.from_residual.ensures.1 in
    if_err c.from_residual.result _ p.0 p.1 (ends_before c.args.state.now.plan _ _ _ _ p.0 p.2)

pub returns-clause-stepped : goal.returns-clause-stepped
returns-clause-stepped g c =
    let plan = c.args.state.now.plan in
    let old : Core = core_of c.args.state.now in
    let new : Core = core_of c.reclaim.new.self in
    let steps : Steps plan reclaim old new = silent_step plan reclaim old new c.in_ok-reclaim.ensures.ok
    (subst (WorksStand plan) (sym c.in_ok-reclaim.ensures.ok)
    (c.laws_of_standing_works.ensures.reclaimed plan old c.requires.works))
    (subst (SendsNothing old) (sym c.in_ok-reclaim.ensures.ok) (c.laws_of_transcripts.ensures.reclaimed old)) in
    step_goes_on plan reclaim old new _ _ _ _ _ c.go_on.result steps c.requires.sound
    (ap length c.transcript-from.ensures) c.go_on.ensures.sound c.go_on.ensures.sent c.go_on.ensures.later

pub returns-clause-ended : goal.returns-clause-ended
returns-clause-ended g c =
    let plan = c.args.state.now.plan in
    let old : Core = core_of c.args.state.now in
    let new : Core = core_of c.reclaim.new.self in
    let steps : Steps plan reclaim old new = silent_step plan reclaim old new c.in_ok-reclaim.ensures.ok
    (subst (WorksStand plan) (sym c.in_ok-reclaim.ensures.ok)
    (c.laws_of_standing_works.ensures.reclaimed plan old c.requires.works))
    (subst (SendsNothing old) (sym c.in_ok-reclaim.ensures.ok) (c.laws_of_transcripts.ensures.reclaimed old)) in
    step_ends plan reclaim old new _ _ _ _ _ c.go_on.result steps c.requires.sound
    (ap length c.transcript-from.ensures) c.go_on.ensures.ended
