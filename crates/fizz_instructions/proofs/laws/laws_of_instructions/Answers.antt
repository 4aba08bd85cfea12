use Rattle.fizz_instructions.proofs.BodiesLemmas.{one_body, reads_back}
use Rattle.fizz_instructions.proofs.BodyMarkLemmas.{body_no_end, body_no_mark, script_utf8}
use Rattle.fizz_instructions.proofs.DecidedLemmas.{body_decided}
use Rattle.fizz_instructions.proofs.laws.laws_of_instructions.Goals as goal

pub returns : goal.returns
returns c = record { decided = body_decided; one = one_body; reads_back = reads_back; utf8 = script_utf8; no_mark = body_no_mark; no_end = body_no_end }
