use Rattle.std.proofs.Common.{◌≡◌, subst}
use Rattle.dom_forest.specs.Edits.{DomState}
use Rattle.dom_forest.specs.Forest.{times}
use Rattle.dom_forest.proofs.There.{unchanged}
use Rattle.dom_forest.specs.Chain.{entries_of}
use Rattle.dom_forest.specs.Flat.{forest_of}
use Rattle.dom_forest.proofs.IndexLemmas.{index_without}
use Rattle.dom_forest.proofs.dom.Dom.remove.Goals as goal

pub returns-in_default-clause-rest : goal.returns-in_default-clause-rest
returns-in_default-clause-rest c =
    unchanged c.args.node.0 c.args.self.now (λ content kids later. later)
    (subst (λ (d : DomState). times c.args.node.0 d.forest ≡ 0) c.self.view_is c.in_default.ensures.absent)

pub invariant_of-self : goal.invariant_of-self
invariant_of-self c =
    let old = c.self.inside.chain in
    record {
      held = c.take_part.ensures.held;
      spine = c.take_part.ensures.spine c.self.inside.spine.items c.self.invariant.spine;
      index = index_without c.self.inside.ids c.args.node.0 (forest_of (entries_of old)) (forest_of (entries_of c.take_part.new.chain)) c.self.invariant.index c.take_part.ensures.rest;
    }
