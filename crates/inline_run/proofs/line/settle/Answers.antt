use Rattle.std.proofs.Common.{refl}
use Rattle.request_state.specs.Core.{Core, core_of}
use Rattle.request_laws.specs.Transcripts.{SendsNothing}
use Rattle.request_laws.specs.Works.{WorksStand}
use Rattle.inline_run.specs.Steps.{SettlesLine}
use Rattle.inline_run.proofs.WorkLemmas.{settles_if, settles_keep}
use Rattle.inline_run.proofs.line.settle.Goals as goal

pub returns : goal.returns
returns c =
    let plan = c.args.state.now.plan in
    let old : Core = core_of c.args.state.now in
    let new : Core = core_of c.settle.new.self in
    let settled : SettlesLine plan old new = settles_if plan old new c.settle.result _ c.settle.ensures.exactly
    c.settle.ensures.none c.settle.ensures.settled in
    record {
      settled = settled;
      works = settles_keep plan old new (WorksStand plan) c.requires
          (c.laws_of_standing_works.ensures.settled plan old new c.requires) settled;
      silent = settles_keep plan old new (SendsNothing old) (record { transcript = refl; marks = refl })
          (c.laws_of_transcripts.ensures.settled plan.outcomes.now old new) settled;
      plan = c.settle.ensures.plan;
    }
