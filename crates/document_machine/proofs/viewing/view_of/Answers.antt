use Rattle.std.proofs.Common.{[], ◌∙◌, arith}
use Rattle.document_machine.specs.Shown.{view_parts}
use Rattle.document_machine.specs.Views.{view_of}
use Rattle.document_machine.proofs.SeenLemmas.{parts_seen, whole_parts}
use Rattle.document_machine.proofs.WalksLemmas.{ends_siblings, ends_walk, turns-end}
use Rattle.document_machine.proofs.viewing.view_of.Goals as goal

pub nodes-smaller : goal.nodes-smaller
nodes-smaller c =
    omega (
      arith,
      c.in_ok-here-in-Some-pop.ensures.less c.args.dom.now.forest,
      turns-end c.args.dom.now.forest c.nodes.walk c.pop.new.self c.in-Some-pop.frame c.nodes.here c.in-None.is c.in-Some-pop.ensures,
    )

pub nodes-preserved : goal.nodes-preserved
nodes-preserved c =
    c.in_ok-here-in-Some-pop.ensures.view c.args.prefix.now c.args.dom.now.forest
    ∙ ends_siblings c.args.prefix.now c.args.dom.now.forest c.nodes.walk c.pop.new.self c.in-Some-pop.frame c.nodes.here c.in-None.is c.in-Some-pop.ensures
    ∙ c.nodes.invariant

pub invariant_of-result : goal.invariant_of-result
invariant_of-result c =
    let view = view_of c.args.prefix.now c.args.dom.now.forest in
    let parts = ends_walk c.args.prefix.now c.args.dom.now.forest c.nodes.walk c.nodes.here (view_parts view []) c.in-None.is c.in-None-pop.ensures.0 c.nodes.invariant in
    record { whole = whole_parts view c.nodes.walk.parts parts }

pub returns-in-None-pop : goal.returns-in-None-pop
returns-in-None-pop c =
    let view = view_of c.args.prefix.now c.args.dom.now.forest in
    let parts = ends_walk c.args.prefix.now c.args.dom.now.forest c.nodes.walk c.nodes.here (view_parts view []) c.in-None.is c.in-None-pop.ensures.0 c.nodes.invariant in
    parts_seen view c.nodes.walk.parts parts
