use Rattle.std.proofs.Common.{reverse, subst}
use Rattle.std.proofs.lemmas.Result.{err_from_is_err_and}
use Rattle.document_machine.specs.Running.{ids_of}
use Rattle.document_machine.specs.Taking.{IsScriptRefusal}
use Rattle.document_machine.proofs.building.run.Goals as goal

pub returns-in_err-instruction-clause-refused : goal.returns-in_err-instruction-clause-refused
returns-in_err-instruction-clause-refused c =
    let p = err_from_is_err_and c.from_residual.result c.from_residual.ensures.1 in
    rw (p.1, p.2) (subst (λ body. IsScriptRefusal c.args.prefix.now body (ids_of (reverse c.args.opened.now)) c.args.dom.now c.args.known.now c.args.from c.in_err-instruction.field-0.0)
    c.as_bytes.ensures (c.in_err-instruction.ensures.refused (ids_of (reverse c.args.opened.now)) c.args.dom.now))
