use Rattle.jsx_syntax.specs.Rules.{depth_of}
use Rattle.jsx_check.proofs.DepthsLemmas.{tells_added}
use Rattle.jsx_check.proofs.depth.add.Goals as goal

pub returns : goal.returns
returns c earlier tells =
    tells_added c.args.depths.now c.insert.new.self c.as_str.result.now c.node_depth-depth.result earlier c.args.component.now
    c.in_ok-insert.ensures.updates c.as_str.ensures.value (c.node_depth-depth.ensures (depth_of earlier) tells) tells
