-- The machine's edits of a forest in which what they seek stands once.
use Rattle.std.proofs.Common.{◌≡◌, ◌≢◌, ℕ, ◌+◌, ◌<◌, ◌≤◌, ◌==◌, eqb, Bool, true, false, inl, inr, Some, List, refl, ap, ◌∙◌, arith}
use Rattle.std.proofs.lemmas.Bool.{cond-true, cond-false, eqb-true, eq-eqb, cases_eq}
use Rattle.dom_forest.specs.Forest.{Forest, empty, tree, times, count, joined_forests, from}
use Rattle.dom_forest.specs.Edits.{with_change, numbered_from}
use Rattle.dom_forest.specs.Ids.{has_id, element_with}
use Rattle.dom_forest.specs.declared.node.NewNode.{NewNode}
use Rattle.document_machine.proofs.Spots.{absent}
use Rattle.page_laws.specs.Nodes.{nodes_of, id_count}
use Rattle.page_laws.proofs.Contexts.{Context, plug, plug_nodes, around, around_id, nodes_of-plug, times-plug, id_count-plug, with_change-plug, from-plug, element_with-plug}
use Rattle.page_laws.proofs.PagesLemmas.{one}

pub one_self : (i : ℕ) → one (i == i) ≡ 1
one_self i = ap one (eq-eqb i i refl)

pub one_zero : (b : Bool) → one b ≡ 0 → b ≡ false
one_zero true z = absurd (omega arith)
one_zero false z = refl

pub times-joined : (j : ℕ) (a b : Forest) → times j (joined_forests a b) ≡ times j a + times j b
times-joined j empty b = omega arith
times-joined j (tree i x k l) b = omega (arith, times-joined j l b)

renumbered_first : (j n : ℕ) → j < n → one (n == j) ≡ 0
renumbered_first j n h = elim (cases_eq n j) [
  | inl e ↦ absurd (omega arith)
  | inr e ↦ ap one (one_zero (n == j) (not_one (n == j) refl e))
] where
  not_one : (b : Bool) → (n == j) ≡ b → n ≢ j → one b ≡ 0
  not_one true t e = absurd (e (eqb-true n j t))
  not_one false t e = refl

pub times-numbered_from : (j n : ℕ) (f : Forest) → j < n → times j (numbered_from n f) ≡ 0
times-numbered_from j n empty h = refl
times-numbered_from j n (tree i x k l) h =
    omega (arith, renumbered_first j n h, times-numbered_from j (n + 1) k (omega arith), times-numbered_from j (n + 1 + count k) l (omega arith))

abbrev Change : Type 0
Change = NewNode → Forest → Forest → Forest

changed_here : (n : ℕ) (g : Change) (x : NewNode) (k l : Forest) → with_change n g (tree n x k l) ≡ g x k l
changed_here n g x k l = cond-true (eqb n n) _ _ (eq-eqb n n refl)

from_here : (n : ℕ) (x : NewNode) (k l : Forest) → from n (tree n x k l) ≡ tree n x k l
from_here n x k l = cond-true (eqb n n) _ _ (eq-eqb n n refl)

found_here : (id : List ℕ) (n : ℕ) (x : NewNode) (k l : Forest) → has_id id x ≡ true → element_with id (tree n x k l) ≡ Some n
found_here id n x k l e = cond-true (has_id id x) _ _ e

-- a change of a node that stands after joined ones
pub with_change-past : (n : ℕ) (g : NewNode → Forest → Forest → Forest) (front : Forest) (x : NewNode) (k l : Forest) → times n front ≡ 0
    → with_change n g (joined_forests front (tree n x k l)) ≡ joined_forests front (g x k l)
with_change-past n g empty x k l z = changed_here n g x k l
with_change-past n g (tree i y kids later) x k l z = past (i == n) refl z (with_change-past n g later x k l) where
  past : (b : Bool) → (i == n) ≡ b → one b + times n kids + times n later ≡ 0 → (times n later ≡ 0 → with_change n g (joined_forests later (tree n x k l)) ≡ joined_forests later (g x k l))
      → with_change n g (tree i y kids (joined_forests later (tree n x k l))) ≡ tree i y kids (joined_forests later (g x k l))
  past true e z h = absurd (omega arith)
  past false e z h =
      cond-false (eqb i n) _ _ e ∙ ap (λ f. tree i y f (with_change n g (joined_forests later (tree n x k l)))) ((absent n kids (omega arith)).same g) ∙ ap (tree i y kids) (h (omega arith))

-- A part of the document, whose first node stands once.
module _ (C : Context) (n : ℕ) (x : NewNode) (k l : Forest) (once : (j : ℕ) → times j (plug C (tree n x k l)) ≤ 1) where
  pub first_once : (around n C ≡ 0) × (times n k ≡ 0) × (times n l ≡ 0)
  first_once =
      let all : times n (plug C (tree n x k l)) ≡ around n C + (one (n == n) + times n k + times n l) = times-plug n C (tree n x k l) in
      (omega (arith, all, once n, one_self n), omega (arith, all, once n, one_self n), omega (arith, all, once n, one_self n))

  pub from_first : from n (plug C (tree n x k l)) ≡ tree n x k l
  from_first = from-plug n C (tree n x k l) first_once.0 ∙ from_here n x k l

  pub changed_first : (g : NewNode → Forest → Forest → Forest) → with_change n g (plug C (tree n x k l)) ≡ plug C (g x k l)
  changed_first g = with_change-plug n g C (tree n x k l) first_once.0 ∙ ap (plug C) (changed_here n g x k l)

  pub found_first : (id : List ℕ) → has_id id x ≡ true → id_count id (nodes_of (plug C (tree n x k l))) ≡ 1 → element_with id (plug C (tree n x k l)) ≡ Some n
  found_first id e c =
      let all : id_count id (plug_nodes C (nodes_of (tree n x k l))) ≡ around_id id C + id_count id (nodes_of (tree n x k l)) = id_count-plug id C (nodes_of (tree n x k l)) in
      let here : one (has_id id x) ≡ 1 = ap one e in
      element_with-plug id C (tree n x k l) (omega (arith, all, here, c, ap (id_count id) (nodes_of-plug C (tree n x k l)))) ∙ found_here id n x k l e

  pub fewer : (j : ℕ) → times j (plug C l) ≤ 1
  fewer j = omega (arith, times-plug j C l, times-plug j C (tree n x k l), once j)
