use Rattle.document_machine.proofs.Endings.{one_ending, whole_or_early}
use Rattle.document_machine.proofs.FirstFaults.{followed, one_fault, sound}
use Rattle.document_machine.proofs.JoinedRuns.{joined, parted, rest_run}
use Rattle.document_machine.proofs.LowerLaws.{TokenLaws, ScriptLaws}
use Rattle.document_machine.proofs.TokenRuns.{one_run, tokens_run}
use Rattle.document_machine.proofs.laws.laws_of_documents.Goals as goal

pub returns : goal.returns
returns c =
    let tokens : TokenLaws = record {
      one = c.laws_of_tokens.ensures.one;
      alive = c.laws_of_tokens.ensures.alive;
      front = c.laws_of_tokens.ensures.first_tokens;
      split = c.laws_of_tokens.ensures.split;
    } in
    let scripts : ScriptLaws = record { one = c.laws_of_instructions.ensures.one; no_end = c.laws_of_instructions.ensures.no_end } in
    record {
      one = one_run tokens scripts;
      tokens = tokens_run tokens;
      joined = joined;
      parted = parted tokens scripts;
      rest = rest_run tokens;
      followed = followed tokens scripts;
      sound = sound tokens scripts;
      one_fault = one_fault tokens scripts;
      one_end = one_ending tokens;
      whole = whole_or_early tokens scripts;
    }
