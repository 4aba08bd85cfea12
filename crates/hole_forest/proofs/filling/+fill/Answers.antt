use Rattle.std.proofs.Common.{◌∙◌, ◌++◌, List, ap, ap₂, sym}
use Rattle.hole_forest.specs.declared.forest.HNode.{HNode}
use Rattle.hole_forest.specs.declared.forest.HNode.TheVariants as n
use Rattle.hole_forest.specs.Filling.{filled_nodes}
use Rattle.hole_forest.proofs.NodesLemmas.{element_filled}
use Rattle.hole_forest.proofs.filling.+fill.Goals as goal

pub push_filled_node-returns-in_ok-push-in-Element : goal.push_filled_node-returns-in_ok-push-in-Element
push_filled_node-returns-in_ok-push-in-Element t c =
    element_filled c.args.parts.now c.args.node.now c.in_ok-name-in-Element.name c.in_ok-attributes-in-Element.attributes c.in-Element.kids
    c.push_filled.new.out c.args.out.now c.push.new.self
    (c.in-Element.is ∙ ap₂ (λ x y. n.Element x y c.in-Element.kids) (sym c.in_ok-name-in-Element.ensures) (sym c.in_ok-attributes-in-Element.ensures))
    (c.in_ok-push_filled-in-Element.ensures
    ∙ ap₂ (λ (xs ys : List HNode). xs ++ filled_nodes c.args.parts.now ys) c.new-inner.ensures c.as_slice.ensures)
    c.in_ok-push-in-Element.ensures.ok
