use Rattle.std.proofs.Common.{reverse, subst, sym, ap, ◌∙◌, refl}
use Rattle.dom_forest.specs.declared.node.Mark.{Mark}
use Rattle.dom_forest.specs.declared.node.NewNode.TheVariants.{Comment}
use Rattle.document_machine.specs.Paths.{IsOpenDocument}
use Rattle.document_machine.specs.Running.{PageState, ids_of, with_node}
use Rattle.document_machine.proofs.Steps.{on_ok, on_err, ok_three, stepped, caused, opens_step, open_cause, ends_step, ends_document, close_cause, void_step, text_step, comment_step, script_step, script_cause}
use Rattle.document_machine.proofs.building.Page.take.Goals as goal

pub returns-in-Start-clause-step : goal.returns-in-Start-clause-step
returns-in-Start-clause-step c =
    stepped c.open.result c.args.prefix.now _ c.args.self.now _ c.args.token _ c.self.view_is c.in-Start.is
    (ok_three c.open.result _ _ _ _ c.open.ensures.room c.open.ensures.dom c.open.ensures.opened
    (opens_step c.args.prefix.now c.self.inside.dom c.open.new.dom (reverse c.self.inside.opened.items) (reverse c.open.new.opened.items) c.self.inside.known c.in-Start.name c.in-Start.attributes c.in-Start.from))

pub returns-in-Start-clause-refused : goal.returns-in-Start-clause-refused
returns-in-Start-clause-refused c =
    caused c.open.result c.args.prefix.now _ c.args.self.now _ c.args.token c.self.view_is c.in-Start.is
    (on_err c.open.result _ _ (open_cause c.args.prefix.now _ c.in-Start.name c.in-Start.attributes c.in-Start.from) c.open.ensures.refused)

pub returns-in-End-clause-step : goal.returns-in-End-clause-step
returns-in-End-clause-step c =
    stepped c.close.result c.args.prefix.now _ c.args.self.now _ c.args.token _ c.self-in-End.view_is c.in-End.is
    (on_ok c.close.result _ _ (ends_step c.args.prefix.now c.self-in-End.inside.dom (reverse c.self-in-End.inside.opened.items) (reverse c.close.new.opened.items) c.self-in-End.inside.known c.in-End.name c.in-End.from) c.close.ensures.ok)

pub returns-in-End-clause-refused : goal.returns-in-End-clause-refused
returns-in-End-clause-refused c =
    caused c.close.result c.args.prefix.now _ c.args.self.now _ c.args.token c.self-in-End.view_is c.in-End.is
    (on_err c.close.result _ _ (close_cause c.args.prefix.now _ c.in-End.name c.in-End.from) c.close.ensures.refused)

pub returns-in-End-clause-document : goal.returns-in-End-clause-document
returns-in-End-clause-document c =
    on_ok c.close.result _ _ (ends_document c.self-in-End.inside.dom (reverse c.self-in-End.inside.opened.items) (reverse c.close.new.opened.items) c.in-End.name
    (subst (λ (b : PageState). IsOpenDocument (ids_of b.opened) b.dom) (sym c.self-in-End.view_is) c.requires)) c.close.ensures.ok

pub returns-in-Void-clause-step : goal.returns-in-Void-clause-step
returns-in-Void-clause-step c =
    on_ok c.add.result _ _ (void_step c.args.prefix.now c.args.self.now c.add.new.self c.args.token c.in-Void.name c.in-Void.attributes c.in-Void.from c.in-Void.is) c.add.ensures.added

pub returns-in-Text-clause-step : goal.returns-in-Text-clause-step
returns-in-Text-clause-step c =
    on_ok c.add-in-Text.result _ _ (text_step c.args.prefix.now c.args.self.now c.add-in-Text.new.self c.args.token c.in-Text.text c.in-Text.from c.in-Text.is) c.add-in-Text.ensures.added

pub returns-in-Comment-clause-step : goal.returns-in-Comment-clause-step
returns-in-Comment-clause-step c =
    on_ok c.add-in-Comment.result _ _ (λ e. comment_step c.args.prefix.now c.args.self.now c.add-in-Comment.new.self c.args.token c.in-Comment.which c.in-Comment.from c.in-Comment.is
    (e ∙ ap (λ (m : Mark). with_node (Comment m) c.args.self.now) c.mark_of.ensures)) c.add-in-Comment.ensures.added

pub returns-in-Script-clause-step : goal.returns-in-Script-clause-step
returns-in-Script-clause-step c =
    stepped c.run.result c.args.prefix.now _ c.args.self.now _ c.args.token _ c.self-in-Script.view_is c.in-Script.is
    (on_ok c.run.result _ _ (script_step c.args.prefix.now c.self-in-Script.inside.dom c.run.new.dom c.self-in-Script.inside.opened.items c.deref.result.now c.self-in-Script.inside.known c.run.new.known
    c.in-Script.body c.in-Script.body c.in-Script.from c.deref.ensures.value refl) c.run.ensures.ok)

pub returns-in-Script-clause-refused : goal.returns-in-Script-clause-refused
returns-in-Script-clause-refused c =
    caused c.run.result c.args.prefix.now _ c.args.self.now _ c.args.token c.self-in-Script.view_is c.in-Script.is
    (on_err c.run.result _ _ (script_cause c.args.prefix.now c.self-in-Script.inside.dom c.self-in-Script.inside.opened.items c.deref.result.now c.self-in-Script.inside.known
    c.in-Script.body c.in-Script.body c.in-Script.from c.deref.ensures.value refl) c.run.ensures.refused)
