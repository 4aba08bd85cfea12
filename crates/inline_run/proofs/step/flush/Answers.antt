use Rattle.std.proofs.Common.{ap, length}
use Rattle.std.proofs.lemmas.Result.{err_from_is_err_and}
use Rattle.settle_script.specs.declared.event.Event.TheVariants.{Flush}
use Rattle.request_state.specs.Core.{Core, core_of}
use Rattle.inline_run.specs.Sending.{Steps}
use Rattle.inline_run.specs.Steps.{line}
use Rattle.inline_run.proofs.RunLemmas.{ends_before, if_err, one_taken_from, sending_step, step_ends_as}
use Rattle.inline_run.proofs.step.flush.Goals as goal

pub returns-in_err-flushed-clause-ended : goal.returns-in_err-flushed-clause-ended
returns-in_err-flushed-clause-ended g c =
    let p = err_from_is_err_and c.from_residual.result c.from_residual.ensures.1 in
    if_err c.from_residual.result _ p.0 p.1 (ends_before c.args.state.now.plan _ _ _ _ p.0 p.2)

pub returns-clause-stepped : goal.returns-clause-stepped
returns-clause-stepped g c =
    let plan = c.args.state.now.plan in
    let old : Core = core_of c.args.state.now in
    let new : Core = core_of c.flush.new.self in
    let steps : Steps plan (line (Flush 0)) old new = sending_step plan (line (Flush 0)) old new
    c.in_ok-flushed.ensures.flushed
    (c.laws_of_standing_works.ensures.flushed plan 0 old new c.requires.works c.in_ok-flushed.ensures.flushed)
    (c.laws_of_transcripts.ensures.flushed plan 0 old new c.in_ok-flushed.ensures.flushed) in
    one_taken_from plan (line (Flush 0)) old new _ _ _ _ _ steps c.requires.sound c.in_ok-go_on.ensures.sound
    (ap length c.transcript-from.ensures) c.in_ok-go_on.ensures.sent c.in_ok-go_on.ensures.later

pub returns-in_err-go_on-clause-ended : goal.returns-in_err-go_on-clause-ended
returns-in_err-go_on-clause-ended g c =
    let plan = c.args.state.now.plan in
    let old : Core = core_of c.args.state.now in
    let new : Core = core_of c.flush.new.self in
    let p = err_from_is_err_and c.from_residual-in_err-go_on.result c.from_residual-in_err-go_on.ensures.1 in
    let steps : Steps plan (line (Flush 0)) old new = sending_step plan (line (Flush 0)) old new
    c.in_ok-flushed.ensures.flushed
    (c.laws_of_standing_works.ensures.flushed plan 0 old new c.requires.works c.in_ok-flushed.ensures.flushed)
    (c.laws_of_transcripts.ensures.flushed plan 0 old new c.in_ok-flushed.ensures.flushed) in
    step_ends_as plan (line (Flush 0)) old new _ _ _ _ _ _ c.from_residual-in_err-go_on.result p.0 steps c.requires.sound
    (ap length c.transcript-from.ensures) p.1 p.2 c.in_err-go_on.ensures.ended
