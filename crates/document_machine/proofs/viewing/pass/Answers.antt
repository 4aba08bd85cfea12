use Rattle.std.proofs.Common.{ap, sym, ◌∙◌, Some, [], ◌∷◌, ◌++◌}
use Rattle.dom_forest.specs.Seen.{shown_node}
use Rattle.document_machine.specs.declared.view.ViewPart.TheVariants as part
use Rattle.document_machine.specs.Views.{is_left_out}
use Rattle.document_machine.proofs.WalksLemmas.{passes_element, passes_text, turns-element}
use Rattle.document_machine.proofs.viewing.pass.Goals as goal

pub returns-in_ok-open_element-in-Element-clause-view : goal.returns-in_ok-open_element-in-Element-clause-view
returns-in_ok-open_element-in-Element-clause-view c =
    let e = c.in-Element in
    passes_element c.args.prefix.now c.args.dom.now.forest c.args.walk.now c.open_element.new.walk c.args.node c.first_child.result c.next_node-later.result e.name.now e.attributes.now
    (ap (λ n. Some (shown_node n)) (sym e.is) ∙ c.in-Some.ensures.content) (ap (λ name. is_left_out c.args.prefix.now c.args.walk.now.at_top name e.attributes.now) (sym c.as_bytes.ensures.value) ∙ sym c.if-is_left_out.ensures) c.next_node-later.ensures c.first_child.ensures c.in_ok-open_element-in-Element.ensures

pub returns-in_ok-open_element-in-Element-clause-less : goal.returns-in_ok-open_element-in-Element-clause-less
returns-in_ok-open_element-in-Element-clause-less c =
    let e = c.in-Element in
    turns-element c.args.dom.now.forest c.args.walk.now c.open_element.new.walk c.args.node c.first_child.result c.next_node-later.result e.name.now e.attributes.now
    (ap (λ n. Some (shown_node n)) (sym e.is) ∙ c.in-Some.ensures.content) c.next_node-later.ensures c.first_child.ensures c.in_ok-open_element-in-Element.ensures

pub returns-in_ok-push-in-Text-clause-view : goal.returns-in_ok-push-in-Text-clause-view
returns-in_ok-push-in-Text-clause-view c =
    passes_text c.args.prefix.now c.args.dom.now.forest c.args.walk.now c.push.new.self c.args.node c.next_node-later.result c.in-Text.text.now
    (ap (λ n. Some (shown_node n)) (sym c.in-Text.is) ∙ c.in-Some.ensures.content) c.next_node-later.ensures (c.in_ok-push-in-Text.ensures.ok ∙ ap (λ t. c.args.walk.now.parts ++ part.Text t ∷ []) c.in_ok-copy-in-Text.ensures)
