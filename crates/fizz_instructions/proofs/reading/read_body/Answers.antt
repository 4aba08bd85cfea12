use Rattle.fizz_instructions.proofs.BodiesLemmas.{no_name, no_body}
use Rattle.fizz_instructions.proofs.reading.read_body.Goals as goal

pub returns-in_default : goal.returns-in_default
returns-in_default c = no_name c.args.prefix.now c.args.body.now c.named_function.result c.named_function.ensures c.in_default.is

pub returns-in-None : goal.returns-in-None
returns-in-None c =
    no_body c.args.prefix.now c.args.body.now c.split_definition-defines.result.1.now c.in-Some.function c.split_definition-defines.result.0
    c.in-Some.ensures c.split_definition-defines.ensures.split c.split_definition-defines.ensures.first (rw c.in-None.is at c.in_ok-instruction.ensures)
