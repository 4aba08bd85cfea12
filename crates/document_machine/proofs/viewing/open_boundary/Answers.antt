use Rattle.std.proofs.Common.{ap, arith}
use Rattle.document_machine.specs.declared.viewing.Frame.TheVariants.{Boundary}
use Rattle.document_machine.specs.Viewing.{frames_turns}
use Rattle.document_machine.proofs.WalksLemmas.{frames_turns-push, opens_boundary}
use Rattle.document_machine.proofs.viewing.open_boundary.Goals as goal

pub returns-clause-view : goal.returns-clause-view
returns-clause-view c = λ prefix forest levels.
    opens_boundary prefix forest c.args.walk.now c.push.new.self c.push-2.new.self c.args.kind c.args.digest levels c.in_ok-push.ensures.ok c.in_ok-push-2.ensures.ok

pub returns-clause-less : goal.returns-clause-less
returns-clause-less c = λ forest.
    omega (arith, ap (frames_turns forest) c.in_ok-push-2.ensures.ok, frames_turns-push forest c.args.walk.now.frames Boundary)
