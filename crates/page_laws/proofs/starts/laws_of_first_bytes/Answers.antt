use Rattle.document_machine.proofs.LowerLaws.{ScriptLaws}
use Rattle.page_laws.proofs.FirstBytesLemmas.{first_bytes}
use Rattle.page_laws.proofs.PlacesLemmas.{TokenLaws}
use Rattle.page_laws.proofs.starts.laws_of_first_bytes.Goals as goal

pub returns : goal.returns
returns c =
    let tokens = c.laws_of_tokens.ensures in
    let laws : TokenLaws = record { one = tokens.one; first_tokens = tokens.first_tokens; split = tokens.split; prefix = tokens.prefix } in
    let scripts : ScriptLaws = record { one = c.laws_of_instructions.ensures.one; no_end = c.laws_of_instructions.ensures.no_end } in
    first_bytes laws scripts
