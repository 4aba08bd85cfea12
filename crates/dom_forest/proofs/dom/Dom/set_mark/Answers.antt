use Rattle.std.proofs.Common.{ℕ, length, ap, ◌∙◌, sym, subst}
use Rattle.dom_forest.specs.Chain.{entries_of}
use Rattle.dom_forest.specs.Edits.{DomState, with_change, with_content}
use Rattle.dom_forest.specs.Flat.{forest_of}
use Rattle.dom_forest.specs.Forest.{Forest, content_of, tree, IsComment}
use Rattle.dom_forest.specs.declared.node.NewNode.TheVariants.{Comment}
use Rattle.dom_forest.proofs.There.{there_from_comment}
use Rattle.dom_forest.specs.Spine.{IsSpineOf}
use Rattle.dom_forest.proofs.IndexLemmas.{index_comment}
use Rattle.dom_forest.proofs.dom.Dom.set_mark.Goals as goal

pub set_content-requires-clause-there : goal.set_content-requires-clause-there
set_content-requires-clause-there c =
    there_from_comment c.args.node.0 (forest_of (entries_of c.self.inside.chain)) (subst (λ (d : DomState). IsComment (content_of c.args.node.0 d.forest)) (sym c.self.view_is) c.requires)

abbrev dom_of : Forest → ℕ → DomState
dom_of forest next = record { forest = forest; next = next }

pub returns : goal.returns
returns c =
    let id = c.args.node.0 in
    let old = c.self.inside.chain in
    ap (λ f. dom_of f (length c.set_content.new.chain.slots.items)) c.set_content.ensures.forest
    ∙ ap (dom_of (with_change id (λ content kids later. tree id (Comment c.args.mark) kids later) (forest_of (entries_of old)))) c.set_content.ensures.next
    ∙ ap (with_content id (Comment c.args.mark)) c.self.view_is

pub invariant_of-self : goal.invariant_of-self
invariant_of-self c =
    let old = c.self.inside.chain in
    record {
      held = c.set_content.ensures.held;
      spine = subst (λ (n : ℕ). IsSpineOf (entries_of c.set_content.new.chain) n c.self.inside.spine.items) (sym c.set_content.ensures.next)
          (c.set_content.ensures.spine (length old.slots.items) c.self.inside.spine.items c.self.invariant.spine);
      index = index_comment c.self.inside.ids c.args.node.0 c.args.mark (forest_of (entries_of old)) (forest_of (entries_of c.set_content.new.chain)) c.self.invariant.index c.set_content.ensures.forest;
    }
