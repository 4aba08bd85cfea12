use Rattle.std.proofs.Common.{nat_lt, not, sym, ap, ◌∙◌}
use Rattle.dom_forest.specs.Edits.{DomState}
use Rattle.dom_forest.specs.Forest.{times}
use Rattle.document_machine.proofs.Finding.{there_element, inside_or_not}
use Rattle.document_machine.proofs.edits.move_children.Goals as goal

pub returns-then-not-branch-clause-inside : goal.returns-then-not-branch-clause-inside
returns-then-not-branch-clause-inside c =
    let place = c.args.placeholder.0 in
    inside_or_not place c.args.container.0 c.args.dom.now c.requires.numbered
    (there_element c.args.container.0 c.args.dom.now.forest c.requires.element) c.requires.there
    ∙ ap not (ap (λ (d : DomState). nat_lt 0 (times place d.forest)) (sym c.in_ok-children.ensures.rest) ∙ sym c.in_ok-put_before.ensures.there ∙ c.if-not-branch.true)

pub returns-clause-inside : goal.returns-clause-inside
returns-clause-inside c =
    let place = c.args.placeholder.0 in
    inside_or_not place c.args.container.0 c.args.dom.now c.requires.numbered
    (there_element c.args.container.0 c.args.dom.now.forest c.requires.element) c.requires.there
    ∙ ap not (ap (λ (d : DomState). nat_lt 0 (times place d.forest)) (sym c.in_ok-children.ensures.rest) ∙ sym c.in_ok-put_before.ensures.there ∙ c.if-not-branch.false)
