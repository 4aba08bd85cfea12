use Rattle.std.proofs.Common.{◌≡◌, IfSome, Option, refl, sym, subst, arith}
use Rattle.std.specs.Option.{IsNone}
use Rattle.dom_forest.specs.Edits.{DomState, part_of, numbered_from}
use Rattle.dom_forest.specs.Forest.{Forest, empty, tree, IsElement, IsOneElement, first_content, first_tree, from}
use Rattle.document_machine.proofs.Finding.{there_element}
use Rattle.document_machine.proofs.edits.take_children.Goals as goal

pub unreachable-requires : goal.unreachable-requires
unreachable-requires c =
    let there = there_element c.args.element.0 c.args.dom.now.forest c.requires in
    let gone = c.in_ok-part.ensures.there.0 (subst IsNone (sym c.in_default.is) refl) in
    omega (arith, there, gone)

-- an element that is taken out is the only node at the top
one_part : (forest : Forest) → IsElement (first_content forest) → IsOneElement (numbered_from 0 (first_tree forest))
one_part empty h = absurd h
one_part (tree i content kids later) h = h

pub inner-requires : goal.inner-requires
inner-requires c =
    let id = c.args.element.0 in
    let dom = c.args.dom.now in
    let part_is : c.in-Some.part ≡ part_of id dom = subst (λ (o : Option DomState). IfSome o (λ d. d ≡ part_of id dom)) c.in-Some.is c.in_ok-part.ensures.part in
    subst (λ (d : DomState). IsOneElement d.forest) (sym part_is) (one_part (from id dom.forest) c.requires)
