use Rattle.std.proofs.Common.{ap, arith}
use Rattle.document_machine.specs.Viewing.{frames_turns}
use Rattle.document_machine.proofs.WalksLemmas.{frames_turns-push}
use Rattle.document_machine.proofs.viewing.end_boundary.Goals as goal

pub returns-in_ok-push-in-Boundary-clause-less : goal.returns-in_ok-push-in-Boundary-clause-less
returns-in_ok-push-in-Boundary-clause-less c = λ forest.
    omega (arith, ap (frames_turns forest) c.in-Some.ensures, frames_turns-push forest c.pop.new.self c.in-Some.frame)
