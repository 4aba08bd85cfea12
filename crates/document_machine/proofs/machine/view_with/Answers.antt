use Rattle.std.proofs.Common.{subst, sym, ◌∙◌}
use Rattle.dom_forest.specs.Edits.{DomState}
use Rattle.dom_forest.specs.Forest.{MayHaveChildren}
use Rattle.document_machine.proofs.OpenPaths.{may_append}
use Rattle.document_machine.proofs.machine.view_with.Goals as goal

pub append-requires : goal.append-requires
append-requires c =
    subst (λ (d : DomState). MayHaveChildren c.innermost.result d.forest) (sym (c.in_ok-dom.ensures ∙ c.dom.ensures))
    (subst (λ p. MayHaveChildren p c.args.page.now.dom.forest) (sym c.innermost.ensures) (may_append c.args.page.now.opened c.args.page.now.dom c.requires))
