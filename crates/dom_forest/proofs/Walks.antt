-- From a node to its first child and to its next sibling.
use Rattle.std.proofs.Common.{◌≡◌, ◌≢◌, ℕ, ◌+◌, ◌≤◌, ◌==◌, eqb, Bool, true, false, if◌then◌else◌, inl, inr, Option, Some, None, [], refl, sym, ap, ◌∙◌, subst, arith}
use Rattle.std.proofs.lemmas.Bool.{cases_eq, cond-true, cond-false, eq-eqb, ne_eqb}
use Rattle.dom_forest.specs.declared.node.NewNode.{NewNode}
use Rattle.dom_forest.specs.declared.node.NodeId.{NodeId}
use Rattle.dom_forest.specs.Forest.{Forest, empty, tree, times, from, or_else, first_id, first_kids, first_later, kids_of, later_of, next_of, first_of}
use Rattle.dom_forest.proofs.Flattening.{counts_one}
use Rattle.dom_forest.proofs.Focus.{absent, focus}

abbrev Once : Forest → Type 0
Once forest = (id : ℕ) → times id forest ≤ 1

-- A forest that begins with this node.
abbrev StartsWith : ℕ → Forest → Type 0
StartsWith id forest = first_id forest ≡ Some id

times_first : (id : ℕ) (forest : Forest) → StartsWith id forest → 1 ≤ times id forest
times_first id empty starts = cc
times_first id (tree i content kids later) starts =
    let same : i ≡ id = cc in
    omega (arith, counts_one i id same)

-- What stands from the first node on is all.
from_first : (id : ℕ) (forest : Forest) → StartsWith id forest → from id forest ≡ forest
from_first id empty starts = refl
from_first id (tree i content kids later) starts =
    let same : i ≡ id = cc in
    cond-true (eqb i id) _ _ (eq-eqb i id same)

times-or_else : (id : ℕ) (one other : Forest) → times id (or_else one other) ≤ times id one + times id other
times-or_else id empty other = omega arith
times-or_else id (tree i content kids later) other = omega arith

times-pick : (id : ℕ) (b : Bool) (one other : Forest) (most : ℕ) → times id one ≤ most → times id other ≤ most → times id (if b then one else other) ≤ most
times-pick id true one other most h k = h
times-pick id false one other most h k = k

times-from : (id at : ℕ) (forest : Forest) → times id (from at forest) ≤ times id forest
times-from id at empty = omega arith
times-from id at (tree i content kids later) =
    times-pick id (i == at) (tree i content kids later) (or_else (from at kids) (from at later)) _ (omega arith)
    (omega (arith, times-or_else id (from at kids) (from at later), times-from id at kids, times-from id at later))

-- A node that is there is found.
found_first : (id : ℕ) (forest other : Forest) → times id forest ≡ 1 → or_else (from id forest) other ≡ from id forest
found_first id forest other there =
    let x = focus id 0 forest [] None None there tt in
    ap (λ f. or_else f other) x.found ∙ sym x.found

inside : (at id i : ℕ) (content : NewNode) (kids later : Forest) (found : Forest) → from at kids ≡ found → Once (tree i content kids later)
    → 1 ≤ times id (or_else found (from at later))
    → (1 ≤ times id (from at kids) → from id kids ≡ from id (from at kids)) → (1 ≤ times id (from at later) → from id later ≡ from id (from at later))
    → from id (tree i content kids later) ≡ from id (or_else found (from at later))
inside at id i content kids later empty is once there inner after =
    let some : 1 ≤ times id later = omega (arith, there, times-from id at later) in
    let other : i ≢ id = λ same. omega (arith, once id, counts_one i id same, some) in
    cond-false (eqb i id) _ _ (ne_eqb i id other)
    ∙ ap (λ f. or_else f (from id later)) (absent id kids (omega (arith, once id, some))).from_is
    ∙ after there
inside at id i content kids later (tree j o k l) is once there inner after =
    let here : 1 ≤ times id (from at kids) = subst (λ f. 1 ≤ times id f) (sym is) there in
    let some : 1 ≤ times id kids = omega (arith, here, times-from id at kids) in
    let other : i ≢ id = λ same. omega (arith, once id, counts_one i id same, some) in
    cond-false (eqb i id) _ _ (ne_eqb i id other)
    ∙ found_first id kids (from id later) (omega (arith, once id, some))
    ∙ inner here ∙ ap (from id) is

-- What stands from a node on within what stands from another one.
pub from-from : (at id : ℕ) (forest : Forest) → Once forest → 1 ≤ times id (from at forest) → from id forest ≡ from id (from at forest)
from-from at id empty once there = refl
from-from at id (tree i content kids later) once there = elim (cases_eq i at) [
  | inl same ↦ ap (from id) (sym (cond-true (eqb i at) (tree i content kids later) (or_else (from at kids) (from at later)) (eq-eqb i at same)))
  | inr other ↦
      inside at id i content kids later (from at kids) refl once (subst (λ f. 1 ≤ times id f) (cond-false (eqb i at) _ _ (ne_eqb i at other)) there)
      (from-from at id kids (λ x. omega (arith, once x))) (from-from at id later (λ x. omega (arith, once x)))
      ∙ ap (from id) (sym (cond-false (eqb i at) (tree i content kids later) (or_else (from at kids) (from at later)) (ne_eqb i at other)))
]

or_else-starts : (id : ℕ) (forest other : Forest) → StartsWith id forest → or_else forest other ≡ forest
or_else-starts id empty other starts = cc
or_else-starts id (tree i content kids later) other starts = refl

kids_from : (child : ℕ) (forest : Forest) → Once forest → StartsWith child (first_kids forest) → from child forest ≡ first_kids forest
kids_from child empty once starts = refl
kids_from child (tree i content kids later) once starts =
    let other : i ≢ child = λ same. omega (arith, once child, counts_one i child same, times_first child kids starts) in
    cond-false (eqb i child) _ _ (ne_eqb i child other)
    ∙ ap (λ f. or_else f (from child later)) (from_first child kids starts)
    ∙ or_else-starts child kids (from child later) starts

later_from : (next : ℕ) (forest : Forest) → Once forest → StartsWith next (first_later forest) → from next forest ≡ first_later forest
later_from next empty once starts = refl
later_from next (tree i content kids later) once starts =
    let some = times_first next later starts in
    let other : i ≢ next = λ same. omega (arith, once next, counts_one i next same, some) in
    cond-false (eqb i next) _ _ (ne_eqb i next other)
    ∙ ap (λ f. or_else f (from next later)) (absent next kids (omega (arith, once next, some))).from_is
    ∙ from_first next later starts

times-kids : (id : ℕ) (forest : Forest) → times id (first_kids forest) ≤ times id forest
times-kids id empty = omega arith
times-kids id (tree i content kids later) = omega arith

times-later : (id : ℕ) (forest : Forest) → times id (first_later forest) ≤ times id forest
times-later id empty = omega arith
times-later id (tree i content kids later) = omega arith

once_from : (at : ℕ) (forest : Forest) → Once forest → Once (from at forest)
once_from at forest once id = omega (arith, once id, times-from id at forest)

pub kids_walk : (forest : Forest) → Once forest → (parent : Option NodeId) (child : ℕ) → first_of parent forest ≡ Some child → from child forest ≡ kids_of parent forest
kids_walk forest once None child starts = from_first child forest starts
kids_walk forest once (Some parent) child starts =
    from-from parent.0 child forest once (omega (arith, times_first child (first_kids (from parent.0 forest)) starts, times-kids child (from parent.0 forest)))
    ∙ kids_from child (from parent.0 forest) (once_from parent.0 forest once) starts

pub later_walk : (forest : Forest) → Once forest → (node next : ℕ) → next_of node forest ≡ Some next → from next forest ≡ later_of node forest
later_walk forest once node next starts =
    from-from node next forest once (omega (arith, times_first next (first_later (from node forest)) starts, times-later next (from node forest)))
    ∙ later_from next (from node forest) (once_from node forest once) starts
