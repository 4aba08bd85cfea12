use Rattle.std.proofs.Common.{sym, subst}
use Rattle.dom_forest.specs.declared.node.Mark.TheVariants.{Client}
use Rattle.dom_forest.specs.declared.node.NewNode.TheVariants.{Comment}
use Rattle.dom_forest.specs.Edits.{DomState}
use Rattle.dom_forest.specs.Forest.{IsElement, content_of}
use Rattle.document_machine.proofs.Finding.{element_stays}
use Rattle.document_machine.proofs.edits.give_up.Goals as goal

pub set_digest-requires : goal.set_digest-requires
set_digest-requires c =
    subst (λ (d : DomState). IsElement (content_of c.args.template.0 d.forest)) (sym c.set_mark.ensures)
    (element_stays c.args.template.0 c.in-Some.marker.0 (Comment Client) c.args.dom.now.forest c.requires c.in-Some.ensures.comment)
