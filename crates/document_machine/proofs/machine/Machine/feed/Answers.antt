use Rattle.std.proofs.Common.{ap, ◌∙◌}
use Rattle.std.proofs.lemmas.Result.{err_from_is_err_and}
use Rattle.document_machine.specs.MachineState.{MachineState}
use Rattle.document_machine.proofs.Pieces.{refused_again}
use Rattle.document_machine.proofs.machine.Machine.feed.Goals as goal

pub returns-in_err-again-clause-refused : goal.returns-in_err-again-clause-refused
returns-in_err-again-clause-refused c =
    let p = err_from_is_err_and c.from_residual.result c.from_residual.ensures.1 in
    rw (p.1, p.2) (refused_again c.args.self.now _ c.args.piece.now c.in_err-again.field-0.0 c.in_err-again.ensures.stopped
    (λ e. c.in_err-again.ensures.before (ap (λ (h : MachineState). h.stop) c.self.view_is ∙ e)))
