use Rattle.std.proofs.Common.{ℕ, ◌+◌, List, length, ap, ◌∙◌, sym, subst}
use Rattle.dom_forest.specs.declared.entry.Entry.{Entry}
use Rattle.dom_forest.specs.Chain.{entries_of}
use Rattle.dom_forest.specs.Edits.{DomState, with_change, numbered_from, with_before}
use Rattle.dom_forest.specs.Flat.{forest_of}
use Rattle.dom_forest.specs.Forest.{Forest, tree, joined_forests, count}
use Rattle.dom_forest.specs.Spine.{IsSpineOf}
use Rattle.dom_forest.proofs.IndexLemmas.{index_before}
use Rattle.dom_forest.proofs.dom.Dom.insert_before.Goals as goal

abbrev dom_of : Forest → ℕ → DomState
dom_of forest next = record { forest = forest; next = next }

-- The nodes with a part before one of them, whose ids begin with a number.
abbrev put : ℕ → Forest → ℕ → Forest → Forest
put id part next forest = with_change id (λ content kids later. joined_forests (numbered_from next part) (tree id content kids later)) forest

pub returns-in-Ok-clause-ok : goal.returns-in-Ok-clause-ok
returns-in-Ok-clause-ok c =
    let id = c.args.place.0 in
    let old = c.self.inside.chain in
    let part = forest_of (entries_of c.part.inside.chain) in
    ap (λ f. dom_of f (length c.put_part.new.chain.slots.items)) c.put_part.ensures.forest
    ∙ ap (dom_of (put id part (length c.make_ready.new.chain.slots.items) (forest_of (entries_of c.make_ready.new.chain)))) c.put_part.ensures.next
    ∙ ap (λ es. dom_of (put id part (length c.make_ready.new.chain.slots.items) (forest_of es)) (length c.make_ready.new.chain.slots.items + count part)) c.make_ready.ensures.entries
    ∙ ap (λ n. dom_of (put id part n (forest_of (entries_of old))) (n + count part)) c.make_ready.ensures.next
    ∙ ap (λ p. with_before id p (dom_of (forest_of (entries_of old)) (length old.slots.items))) c.part.view_is
    ∙ ap (with_before id c.args.part) c.self.view_is

pub invariant_of-self : goal.invariant_of-self
invariant_of-self c =
    let id = c.args.place.0 in
    let old = c.self.inside.chain in
    let spine = c.self.inside.spine.items in
    let part = forest_of (entries_of c.part.inside.chain) in
    let ready = c.make_ready.new.chain in
    record {
      held = c.put_part.ensures.held;
      spine = c.put_part.ensures.spine spine
          (subst (λ (es : List Entry). IsSpineOf es (length ready.slots.items) spine) (sym c.make_ready.ensures.entries)
          (subst (λ (n : ℕ). IsSpineOf (entries_of old) n spine) (sym c.make_ready.ensures.next) c.self.invariant.spine));
      index = index_before c.make_ready.new.ids id (numbered_from (length old.slots.items) part) (forest_of (entries_of old)) (forest_of (entries_of c.put_part.new.chain)) c.in-Ok.ensures.noted
          c.make_ready.ensures.index
          (c.put_part.ensures.forest ∙ ap (λ es. put id part (length ready.slots.items) (forest_of es)) c.make_ready.ensures.entries ∙ ap (λ n. put id part n (forest_of (entries_of old))) c.make_ready.ensures.next);
    }
