use Rattle.std.proofs.Common.{sym, subst}
use Rattle.dom_forest.specs.declared.node.Mark.TheVariants.{Complete}
use Rattle.dom_forest.specs.declared.node.NewNode.TheVariants.{Comment}
use Rattle.dom_forest.specs.Edits.{DomState, IsNumbered}
use Rattle.dom_forest.specs.Forest.{IsThere, later_of}
use Rattle.document_machine.specs.Edits.{from_sibling}
use Rattle.document_machine.proofs.Numbering.{numbered_content}
use Rattle.document_machine.proofs.Keeping.{end_stays}
use Rattle.document_machine.proofs.edits.show.Goals as goal

pub remove_range-requires-clause-numbered : goal.remove_range-requires-clause-numbered
remove_range-requires-clause-numbered c =
    subst IsNumbered (sym c.set_mark.ensures) (numbered_content c.in-Some.marker.0 (Comment Complete) c.args.dom.now c.requires)

pub remove_range-requires-clause-later : goal.remove_range-requires-clause-later
remove_range-requires-clause-later c =
    let end = c.in-Some-end_of_boundary.end.0 in
    subst (λ (d : DomState). IsThere end (from_sibling end (later_of c.args.template.0 d.forest))) (sym c.set_mark.ensures)
    (end_stays c.args.template.0 end c.in-Some.marker.0 (Comment Complete) c.args.dom.now c.requires (sym c.in-Some-end_of_boundary.ensures))
