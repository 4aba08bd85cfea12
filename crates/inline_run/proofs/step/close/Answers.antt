use Rattle.std.proofs.Common.{ap, length, refl}
use Rattle.request_state.specs.Core.{Core, core_of}
use Rattle.inline_run.specs.Sending.{Steps}
use Rattle.inline_run.specs.Steps.{close}
use Rattle.inline_run.proofs.RunLemmas.{ends_before, silent_step, step_ends, step_goes_on}
use Rattle.inline_run.proofs.step.close.Goals as goal

pub returns-in-Ok-clause-stepped : goal.returns-in-Ok-clause-stepped
returns-in-Ok-clause-stepped g c =
    let plan = c.args.state.now.plan in
    let old : Core = core_of c.args.state.now in
    let new : Core = core_of c.close.new.self in
    let steps : Steps plan close old new = silent_step plan close old new
    (record { idle = c.in-Ok.ensures.idle; failed = c.in-Ok.field-0; closes = c.in-Ok.ensures.closed })
    (c.laws_of_standing_works.ensures.closed plan old.shell_tasks c.in-Ok.field-0 old new c.requires.works c.in-Ok.ensures.closed)
    (c.laws_of_transcripts.ensures.closed old.shell_tasks c.in-Ok.field-0 old new c.in-Ok.ensures.closed) in
    step_goes_on plan close old new _ _ _ _ _ c.go_on.result steps c.requires.sound
    (ap length c.transcript-from.ensures) c.go_on.ensures.sound c.go_on.ensures.sent c.go_on.ensures.later

pub returns-in-Ok-clause-ended : goal.returns-in-Ok-clause-ended
returns-in-Ok-clause-ended g c =
    let plan = c.args.state.now.plan in
    let old : Core = core_of c.args.state.now in
    let new : Core = core_of c.close.new.self in
    let steps : Steps plan close old new = silent_step plan close old new
    (record { idle = c.in-Ok.ensures.idle; failed = c.in-Ok.field-0; closes = c.in-Ok.ensures.closed })
    (c.laws_of_standing_works.ensures.closed plan old.shell_tasks c.in-Ok.field-0 old new c.requires.works c.in-Ok.ensures.closed)
    (c.laws_of_transcripts.ensures.closed old.shell_tasks c.in-Ok.field-0 old new c.in-Ok.ensures.closed) in
    step_ends plan close old new _ _ _ _ _ c.go_on.result steps c.requires.sound
    (ap length c.transcript-from.ensures) c.go_on.ensures.ended

pub returns-in-Err-clause-ended : goal.returns-in-Err-clause-ended
returns-in-Err-clause-ended g c = ends_before c.args.state.now.plan _ _ _ _ _ refl
