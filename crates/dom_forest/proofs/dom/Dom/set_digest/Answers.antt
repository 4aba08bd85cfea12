use Rattle.std.proofs.Common.{◌≡◌, ℕ, length, sym, subst, ap, ◌∙◌, arith}
use Rattle.dom_forest.specs.Chain.{entries_of}
use Rattle.dom_forest.specs.Edits.{DomState, with_change, digest_set, with_digest_at}
use Rattle.dom_forest.specs.Flat.{forest_of}
use Rattle.dom_forest.specs.Forest.{Forest, tree, times, content_of, IsElement}
use Rattle.dom_forest.proofs.There.{there_from_element, with_change-same}
use Rattle.dom_forest.specs.Spine.{IsSpineOf}
use Rattle.dom_forest.proofs.IndexLemmas.{index_digest}
use Rattle.dom_forest.proofs.dom.Dom.set_digest.Goals as goal

abbrev dom_of : Forest → ℕ → DomState
dom_of forest next = record { forest = forest; next = next }

pub set_content-requires-clause-there : goal.set_content-requires-clause-there
set_content-requires-clause-there c =
    there_from_element c.args.node.0 (forest_of (entries_of c.self.inside.chain)) (subst (λ (d : DomState). IsElement (content_of c.args.node.0 d.forest)) (sym c.self.view_is) c.requires)

pub returns-in_ok-content-clause-ok : goal.returns-in_ok-content-clause-ok
returns-in_ok-content-clause-ok c =
    let id = c.args.node.0 in
    let forest = forest_of (entries_of c.self.inside.chain) in
    let there = there_from_element id forest (subst (λ (d : DomState). IsElement (content_of id d.forest)) (sym c.self.view_is) c.requires) in
    let once : times id forest ≡ 1 = omega (arith, there, c.self.invariant.held.document.numbered.once id) in
    let here = sym c.in-Some.ensures in
    let same : forest_of (entries_of c.set_content.new.chain) ≡ with_change id (λ content kids later. tree id (digest_set c.args.digest content) kids later) forest =
    c.set_content.ensures.forest ∙ with_change-same id forest _ _ _ once here (λ kids later. ap (λ n. tree id n kids later) c.in_ok-content.ensures) in
    ap (λ (f : Forest). dom_of f (length c.set_content.new.chain.slots.items)) same
    ∙ ap (dom_of (with_change id (λ content kids later. tree id (digest_set c.args.digest content) kids later) forest)) c.set_content.ensures.next ∙ ap (with_digest_at id c.args.digest) c.self.view_is

pub invariant_of-self : goal.invariant_of-self
invariant_of-self c =
    let old = c.self.inside.chain in
    record {
      held = c.set_content.ensures.held;
      spine = subst (λ (n : ℕ). IsSpineOf (entries_of c.set_content.new.chain) n c.self.inside.spine.items) (sym c.set_content.ensures.next)
          (c.set_content.ensures.spine (length old.slots.items) c.self.inside.spine.items c.self.invariant.spine);
      index = index_digest c.self.inside.ids c.args.node.0 c.args.digest c.in-Some.content.now c.in_ok-content.content (forest_of (entries_of old)) (forest_of (entries_of c.set_content.new.chain))
          c.self.invariant.index (sym c.in-Some.ensures) c.in_ok-content.ensures c.set_content.ensures.forest;
    }
