use Rattle.std.proofs.Common.{length, sym, subst}
use Rattle.dom_forest.proofs.IndexLemmas.{index_last}
use Rattle.dom_forest.specs.Chain.{entries_of}
use Rattle.dom_forest.specs.Edits.{DomState}
use Rattle.dom_forest.specs.Flat.{forest_of}
use Rattle.dom_forest.specs.Forest.{MayHaveChildren}
use Rattle.dom_forest.proofs.There.{there_from_parent}
use Rattle.dom_forest.proofs.dom.Dom.append.Goals as goal

pub append_node-requires-clause-there : goal.append_node-requires-clause-there
append_node-requires-clause-there c =
    there_from_parent c.args.parent (forest_of (entries_of c.self.inside.chain)) (subst (λ (d : DomState). MayHaveChildren c.args.parent d.forest) (sym c.self.view_is) c.requires)

pub invariant_of-self-2 : goal.invariant_of-self-2
invariant_of-self-2 c =
    let old = c.self.inside.chain in
    record {
      held = c.append_node.ensures.held;
      spine = c.append_node.ensures.spine;
      index = index_last c.note_new.new.ids c.args.parent (length old.slots.items) c.args.node (forest_of (entries_of old)) (forest_of (entries_of c.append_node.new.chain))
          c.in_ok-note_new.ensures.noted c.note_new.ensures.index c.in_ok-id.ensures.forest;
    }
