use Rattle.std.proofs.Common.{List, reverse, subst, sym, ap, ◌∙◌}
use Rattle.dom_forest.specs.declared.node.NewNode.TheVariants.{Element}
use Rattle.dom_forest.specs.Forest.{MayHaveChildren}
use Rattle.document_machine.specs.declared.building.OpenElement.{OpenElement}
use Rattle.document_machine.specs.Running.{innermost}
use Rattle.document_machine.proofs.OpenPaths.{document_pushed, may_append}
use Rattle.document_machine.proofs.building.open.Goals as goal

pub append-requires : goal.append-requires
append-requires c =
    subst (λ p. MayHaveChildren p c.args.dom.now.forest) (sym (c.innermost.ensures ∙ ap (λ (xs : List OpenElement). innermost (reverse xs)) c.deref-2.ensures.value))
    (may_append (reverse c.args.opened.now.items) c.args.dom.now c.requires)

pub returns-clause-document : goal.returns-clause-document
returns-clause-document c =
    document_pushed c.args.opened.now.items c.push.new.self.items c.innermost.result c.in_ok-id.id (Element c.in_ok-copy.field-0 c.args.attributes) c.args.name c.args.dom.now c.append.new.self
    tt c.requires (c.innermost.ensures ∙ ap (λ (xs : List OpenElement). innermost (reverse xs)) c.deref-2.ensures.value) c.in_ok-id.ensures.ok c.append.ensures.numbered c.in_ok-id.ensures.id c.in_ok-push.ensures.items
