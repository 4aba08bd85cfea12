use Rattle.document_machine.proofs.DecidedRuns.{DecidingLaws, edit_wants_no_memory, runs_decided}
use Rattle.document_machine.proofs.RunsLemmas.{RestLaws, runs_begun, runs_knowing, runs_numbered, runs_prefix}
use Rattle.document_machine.proofs.run_laws.laws_of_runs.Goals as goal

pub returns : goal.returns
returns c =
    let rests : RestLaws = record { prefix = c.laws_of_tokens.ensures.prefix; text = c.laws_of_rests.ensures.text } in
    let deciding : DecidingLaws = record { bytes = c.laws_of_rests.ensures.decided; text = c.laws_of_rests.ensures.text; body = c.laws_of_instructions.ensures.decided } in
    record {
      decided = runs_decided deciding;
      no_memory = edit_wants_no_memory;
      prefix = runs_prefix rests;
      numbered = runs_numbered;
      more_known = runs_knowing;
      begun = runs_begun;
    }
