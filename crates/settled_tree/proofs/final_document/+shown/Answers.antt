use Rattle.std.proofs.Common.{◌∙◌, ◌++◌, ap, ap₂, sym}
use Rattle.settled_tree.specs.declared.forest.FNode.TheVariants as f
use Rattle.settled_tree.specs.Final.{final_document, settled_nodes}
use Rattle.settled_tree.specs.Layers.{parts_of}
use Rattle.settled_tree.proofs.ShownLemmas.{element_pushed, text_pushed}
use Rattle.settled_tree.proofs.final_document.+shown.Goals as goal

pub push_node-returns-in_ok-push-in-Element-2 : goal.push_node-returns-in_ok-push-in-Element-2
push_node-returns-in_ok-push-in-Element-2 t c =
    element_pushed c.args.node.now c.in_ok-name-in-Element.name c.in_ok-attributes-in-Element.attributes c.in-Element.kids
    c.args.parts.now c.push.new.self c.push_nodes.new.parts c.push-in-Element.new.self
    (c.in-Element.is ∙ ap₂ (λ n a. f.Element n a c.in-Element.kids) (sym c.in_ok-name-in-Element.ensures) (sym c.in_ok-attributes-in-Element.ensures))
    c.in_ok-push-in-Element.ensures.ok
    (c.in_ok-push_nodes-in-Element.ensures ∙ ap (λ ns. c.push.new.self ++ parts_of (final_document (settled_nodes ns))) c.as_slice.ensures)
    c.in_ok-push-in-Element-2.ensures.ok

pub push_node-returns-in_ok-push-in-Text : goal.push_node-returns-in_ok-push-in-Text
push_node-returns-in_ok-push-in-Text t c =
    text_pushed c.args.node.now c.in_ok-copy-in-Text.field-0 c.args.parts.now c.push-in-Text.new.self
    (c.in-Text.is ∙ ap f.Text (sym c.in_ok-copy-in-Text.ensures)) c.in_ok-push-in-Text.ensures.ok
