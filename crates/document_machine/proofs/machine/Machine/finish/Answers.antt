use Rattle.std.proofs.Common.{sym, ap, ◌∙◌}
use Rattle.std.proofs.lemmas.Result.{err_from_is_err_and}
use Rattle.dom_forest.specs.Edits.{DomState}
use Rattle.document_machine.specs.Views.{view_of}
use Rattle.document_machine.proofs.Ends.{end_refusal, open_refusal, sees_whole}
use Rattle.document_machine.proofs.machine.Machine.finish.Goals as goal

pub returns-in_err-finish_page-clause-refused : goal.returns-in_err-finish_page-clause-refused
returns-in_err-finish_page-clause-refused c =
    let p = err_from_is_err_and c.from_residual.result c.from_residual.ensures.1 in
    rw (p.1, p.2) (end_refusal _ c.args.self c.in_err-finish_page.field-0.0 c.self.view_is c.in_err-finish_page.ensures.refused)

pub returns-then-is_open-clause-refused : goal.returns-then-is_open-clause-refused
returns-then-is_open-clause-refused c =
    open_refusal _ c.args.self c.self.inside.length c.finish_page.new.page c.self.view_is c.self.invariant c.in_ok-finish_page.ensures.ended (sym c.is_open.ensures ∙ c.if-is_open.true)

pub returns-clause-whole : goal.returns-clause-whole
returns-clause-whole c =
    sees_whole _ c.args.self c.finish_page.new.page c.in_ok-view_of.field-0 c.self.view_is c.in_ok-finish_page.ensures.ended
    (sym c.is_open.ensures ∙ c.if-is_open.false) (c.in_ok-view_of.ensures ∙ ap (λ (d : DomState). view_of c.self.inside.prefix d.forest) c.dom.ensures)
