-- Nodes that are there.
use Rattle.std.proofs.Common.{◌≡◌, ℕ, inl, inr, Option, Some, None, [], ◌++◌, sym, ap, ◌∙◌, subst, arith}
use Rattle.std.proofs.lemmas.Bool.{cases_eq}
use Rattle.dom_forest.specs.declared.node.NewNode.{NewNode}
use Rattle.dom_forest.specs.declared.node.NodeId.{NodeId}
use Rattle.dom_forest.specs.Forest.{Forest, empty, tree, times, from, first_content, content_of, IsThere, IsElement, IsComment, MayHaveChildren}
use Rattle.dom_forest.specs.Edits.{DomState, with_change}
use Rattle.dom_forest.specs.Flat.{flat, forest_of, IsThereOrTop}
use Rattle.dom_forest.proofs.Flattening.{forest_of-flat}
use Rattle.dom_forest.proofs.Focus.{focus, absent}

absent_content : (id : ℕ) (forest : Forest) → times id forest ≡ 0 → content_of id forest ≡ None
absent_content id forest none = ap first_content (absent id forest none).from_is

there_unless : (id : ℕ) (forest : Forest) → (times id forest ≡ 0 → ⊥) → IsThere id forest
there_unless id forest h = elim (cases_eq (times id forest) 0) [ inl none ↦ absurd (h none) | inr some ↦ omega arith ]

pub there_from_element : (id : ℕ) (forest : Forest) → IsElement (content_of id forest) → IsThere id forest
there_from_element id forest h = there_unless id forest (λ none. subst IsElement (absent_content id forest none) h)

pub there_from_comment : (id : ℕ) (forest : Forest) → IsComment (content_of id forest) → IsThere id forest
there_from_comment id forest h = there_unless id forest (λ none. subst IsComment (absent_content id forest none) h)

pub there_from_parent : (parent : Option NodeId) (forest : Forest) → MayHaveChildren parent forest → IsThereOrTop parent forest
there_from_parent None forest h = tt
there_from_parent (Some parent) forest h = there_from_element parent.0 forest h

pub there_from_found : (id : ℕ) (forest : Forest) (content : NewNode) (kids later : Forest) → from id forest ≡ tree id content kids later → IsThere id forest
there_from_found id forest content kids later found =
    there_unless id forest (λ none. let gone : from id forest ≡ empty = (absent id forest none).from_is in cc)

-- A node that is not there can't be changed.
pub unchanged : (id : ℕ) (dom : DomState) (change : NewNode → Forest → Forest → Forest) → times id dom.forest ≡ 0 → dom ≡ record dom { forest = with_change id change dom.forest }
unchanged id dom change none = ap (λ f. record dom { forest = f }) (sym ((absent id dom.forest none).same change))

-- Two changes that agree at the node are one.
pub with_change-same : (id : ℕ) (forest : Forest) (content : NewNode) (one other : NewNode → Forest → Forest → Forest) → times id forest ≡ 1
    → content_of id forest ≡ Some content → ((kids later : Forest) → one content kids later ≡ other content kids later) → with_change id one forest ≡ with_change id other forest
with_change-same id forest content one other once here same =
    let x = focus id 0 forest [] None None once tt in
    let both : Some x.content ≡ Some content = sym (ap first_content x.found) ∙ here in
    let content_is : x.content ≡ content = cc in
    sym (forest_of-flat (with_change id one forest))
    ∙ ap forest_of (x.edited one ∙ ap (λ f. x.front ++ flat x.depth f x.back) (ap (λ c. one c x.kids x.later) content_is ∙ same x.kids x.later ∙ ap (λ c. other c x.kids x.later) (sym content_is)) ∙ sym (x.edited other))
    ∙ forest_of-flat (with_change id other forest)
