use Rattle.std.proofs.Common.{◌<◌, sym, subst}
use Rattle.dom_forest.specs.Edits.{DomState}
use Rattle.dom_forest.specs.Forest.{from}
use Rattle.document_machine.proofs.Ranges.{IsCut, width, cut_start, cut_none, cut_step, cut_smaller, cut_end, cut_there}
use Rattle.document_machine.proofs.edits.remove_range.Goals as goal

pub loop-node-init : goal.loop-node-init
loop-node-init c = cut_start c.args.first.0 c.args.end.0 c.args.dom.now c.requires.numbered c.requires.later

pub unreachable-requires : goal.unreachable-requires
unreachable-requires c =
    cut_none c.args.first.0 c.args.end.0 c.loop-node.node.0 c.args.dom.now c.loop-node.dom c.loop-node.invariant c.loop-node-test.true (sym c.in_default.ensures)

pub loop-node-smaller : goal.loop-node-smaller
loop-node-smaller c =
    subst (λ (d : DomState). width (from c.in-Some.next.0 d.forest) < width (from c.loop-node.node.0 c.loop-node.dom.forest)) (sym c.in_ok-remove.ensures.rest)
    (cut_smaller c.args.first.0 c.args.end.0 c.loop-node.node.0 c.args.dom.now c.loop-node.dom c.loop-node.invariant c.in-Some.next.0 c.loop-node-test.true (sym c.in-Some.ensures))

pub loop-node-preserved : goal.loop-node-preserved
loop-node-preserved c =
    subst (IsCut c.args.first.0 c.args.end.0 c.args.dom.now c.in-Some.next.0) (sym c.in_ok-remove.ensures.rest)
    (cut_step c.args.first.0 c.args.end.0 c.loop-node.node.0 c.args.dom.now c.loop-node.dom c.loop-node.invariant c.in-Some.next.0 c.loop-node-test.true (sym c.in-Some.ensures))

pub returns-clause-ok : goal.returns-clause-ok
returns-clause-ok c =
    cut_end c.args.first.0 c.args.end.0 c.loop-node.node.0 c.args.dom.now c.loop-node.dom c.loop-node.invariant c.loop-node-test.false

pub returns-clause-there : goal.returns-clause-there
returns-clause-there c =
    cut_there c.args.first.0 c.args.end.0 c.loop-node.node.0 c.args.dom.now c.loop-node.dom c.loop-node.invariant c.loop-node-test.false
