use Rattle.std.proofs.Common.{subst, ap, ◌∙◌}
use Rattle.dom_forest.specs.Edits.{DomState}
use Rattle.document_machine.specs.MachineState.{MachineState}
use Rattle.document_machine.specs.Taking.{IsTextNow}
use Rattle.document_machine.specs.Views.{view_of}
use Rattle.document_machine.proofs.Ends.{if_ok, sees, sees_text}
use Rattle.document_machine.proofs.machine.Machine.view.Goals as goal

pub returns-in-Some : goal.returns-in-Some
returns-in-Some c = record {
  view = if_ok c.view_with.result _ _ (λ v is. sees_text _ c.args.self.now v c.in-Some.text c.self.view_is (subst (IsTextNow c.self.inside.reader) c.in-Some.is c.in_ok-text.ensures) is) c.view_with.ensures;
  again = λ e. absurd (c.in_default.not-NoMemory (ap (λ (h : MachineState). h.stop) c.self.view_is ∙ e));
}

pub returns-in-None : goal.returns-in-None
returns-in-None c = record {
  view = if_ok c.view_of.result _ _ (λ v is. sees _ c.args.self.now v c.self.view_is (subst (IsTextNow c.self.inside.reader) c.in-None.is c.in_ok-text.ensures)
      (is ∙ ap (λ (d : DomState). view_of c.self.inside.prefix d.forest) c.dom.ensures)) c.view_of.ensures;
  again = λ e. absurd (c.in_default.not-NoMemory (ap (λ (h : MachineState). h.stop) c.self.view_is ∙ e));
}
