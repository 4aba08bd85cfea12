use Rattle.std.proofs.Common.{reverse, subst, sym}
use Rattle.dom_forest.specs.Forest.{MayHaveChildren}
use Rattle.document_machine.proofs.OpenPaths.{document_added, may_append}
use Rattle.document_machine.proofs.building.add.Goals as goal

pub append-requires : goal.append-requires
append-requires c =
    subst (λ p. MayHaveChildren p c.args.dom.now.forest) (sym c.innermost.ensures) (may_append (reverse c.args.opened.now) c.args.dom.now c.requires)

pub returns-clause-document : goal.returns-clause-document
returns-clause-document c =
    document_added (reverse c.args.opened.now) c.innermost.result c.args.node c.args.dom.now c.append.new.self c.requires c.innermost.ensures c.in_ok-append.ensures.ok c.append.ensures.numbered
