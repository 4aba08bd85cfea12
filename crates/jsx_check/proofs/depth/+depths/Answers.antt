use Rattle.std.proofs.Common.{ℕ, ◌+◌, max, sym, ◌∙◌, ap}
use Rattle.jsx_syntax.specs.declared.node.Node.{Node}
use Rattle.jsx_check.specs.Checks.{told_as}
use Rattle.jsx_check.specs.Depths.{node_depth}
use Rattle.jsx_check.proofs.DepthsLemmas.{node_depth-Choose, nodes_on, values_on}
use Rattle.jsx_check.proofs.depth.+depths.Goals as goal

pub list_depth-loop-node-preserved : goal.list_depth-loop-node-preserved
list_depth-loop-node-preserved t c called tells =
    nodes_on called c.args.nodes.now c.loop-node.node-index c.node-item.result c.loop-node.most c.greater-most.result c.node_depth.result
    c.loop-node-test.true (sym c.node-item.is) (c.loop-node.invariant called tells) (c.node_depth.ensures called tells) c.greater-most.ensures

pub values_depth-loop-prop-preserved : goal.values_depth-loop-prop-preserved
values_depth-loop-prop-preserved t c called tells =
    values_on called c.args.props.now c.loop-prop.prop-index c.prop-item.result c.loop-prop.most c.greater-most.result c.node_depth.result
    c.loop-prop-test.true (sym c.prop-item.is) (c.loop-prop.invariant called tells) (c.node_depth.ensures called tells) c.greater-most.ensures

pub node_depth-returns-in-Choose : goal.node_depth-returns-in-Choose
node_depth-returns-in-Choose t c called tells =
    let one : ℕ = node_depth called c.get.result.now in
    let other : ℕ = node_depth called c.get-in-Choose.result.now in
    c.above.ensures (max one other) (c.greater.ensures one other (c.node_depth-yes.ensures called tells) (c.node_depth.ensures called tells))
    ∙ (ap (λ (x : Node). told_as (1 + max (node_depth called x) other)) c.get.ensures
    ∙ (ap (λ (x : Node). told_as (1 + max (node_depth called c.in-Choose.yes) (node_depth called x))) c.get-in-Choose.ensures
    ∙ ap told_as (sym (node_depth-Choose called c.in-Choose.test c.in-Choose.yes c.in-Choose.no) ∙ ap (node_depth called) (sym c.in-Choose.is))))
