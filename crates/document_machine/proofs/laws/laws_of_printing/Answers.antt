use Rattle.document_machine.proofs.LowerLaws.{TokenLaws, ScriptLaws}
use Rattle.document_machine.proofs.PrintedForests.{prints}
use Rattle.document_machine.proofs.PrintedScripts.{script_says}
use Rattle.document_machine.proofs.laws.laws_of_printing.Goals as goal

pub returns : goal.returns
returns c =
    let tokens : TokenLaws = record {
      one = c.laws_of_tokens.ensures.one;
      alive = c.laws_of_tokens.ensures.alive;
      front = c.laws_of_tokens.ensures.first_tokens;
      split = c.laws_of_tokens.ensures.split;
    } in
    let scripts : ScriptLaws = record { one = c.laws_of_instructions.ensures.one; no_end = c.laws_of_instructions.ensures.no_end } in
    record { prints = prints tokens; says = script_says tokens scripts }
