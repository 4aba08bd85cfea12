use Rattle.fizz_instructions.proofs.ArgumentsLemmas.{no_digest}
use Rattle.fizz_instructions.proofs.reading.read_client_render.Goals as goal

pub returns-in-None : goal.returns-in-None
returns-in-None c =
    no_digest c.args.prefix.now c.args.arguments.now c.in-Some.rest.now c.in-Some.boundary c.utf8.prefix
    (rw c.in-Some.is at c.in_ok-boundary.ensures) (rw c.in-None.is at c.in_ok-digest.ensures)
