use Rattle.std.proofs.Common.{sym, subst}
use Rattle.dom_forest.specs.Edits.{IsNumbered}
use Rattle.document_machine.proofs.Numbering.{numbered_without}
use Rattle.document_machine.proofs.edits.complete.Goals as goal

pub find_element-requires : goal.find_element-requires
find_element-requires c =
    subst IsNumbered (sym c.in_ok-children.ensures.rest) (numbered_without c.in_ok-container.container.0 c.args.dom.now c.requires)

pub show-requires : goal.show-requires
show-requires c =
    subst IsNumbered (sym c.in_ok-children.ensures.rest) (numbered_without c.in_ok-container.container.0 c.args.dom.now c.requires)
