-- What is found in a forest stands there.
use Rattle.std.proofs.Common.{◌≡◌, ℕ, zero, suc, ◌+◌, ◌-◌, ◌<◌, ◌≤◌, ◌==◌, eqb, nat_lt, not, Bool, true, false, if◌then◌else◌, inl, inr, Option, Some, None, List, refl, sym, ap, ◌∙◌, subst, arith}
use Rattle.std.proofs.lemmas.Bool.{cond-true, cond-false, eq-eqb, cases_eq, lt-ltb, le-ltb}
use Rattle.dom_forest.specs.declared.node.Mark.TheVariants.{Complete, Pending, Client, End, Space}
use Rattle.dom_forest.specs.declared.node.NewNode.{NewNode}
use Rattle.dom_forest.specs.declared.node.NewNode.TheVariants.{Element, Text, Comment}
use Rattle.dom_forest.specs.Forest.{Forest, empty, tree, times, or_else, or_id, from, first_content, first_tree, content_of, later_of, IsThere, IsElement, IsComment}
use Rattle.dom_forest.specs.Edits.{DomState, IsNumbered, with_change, without_node}
use Rattle.dom_forest.specs.Seen.{number}
use Rattle.dom_forest.specs.declared.node.NodeId.{NodeId}
use Rattle.std.specs.Prelude.{IfSome}
use Rattle.dom_forest.specs.Boundary.{closing_mark, end_of_boundary}
use Rattle.dom_forest.specs.Ids.{has_id, element_with}
use Rattle.document_machine.specs.Edits.{waits, waiting, marker_of, from_sibling}
use Rattle.document_machine.proofs.Spots.{absent, spot}
use Rattle.document_machine.proofs.Shapes.{tops, dressed_content}

pub nothing_is : (n : ℕ) → None ≡ Some n → ⊥
nothing_is n e = cc

-- An element is there.
pub there_element : (id : ℕ) (forest : Forest) → IsElement (content_of id forest) → IsThere id forest
there_element id forest h = elim (cases_eq (times id forest) 0) [
  | inl none ↦ absurd (subst IsElement (ap first_content (absent id forest none).from_is) h)
  | inr some ↦ omega arith
]

-- A node is there that has siblings.
pub there_among : (j id : ℕ) (forest : Forest) → 0 < tops j (from id forest) → IsThere id forest
there_among j id forest h = elim (cases_eq (times id forest) 0) [
  | inl none ↦ absurd (let gone : tops j (from id forest) ≡ 0 = ap (tops j) (absent id forest none).from_is in omega arith)
  | inr some ↦ omega arith
]

-- A node that stands among siblings, by the siblings from it on.
pub stands_from : (id : ℕ) (forest : Forest) → IsThere id (from_sibling id forest) → 0 < tops id forest
stands_from id empty h = absurd (omega arith)
stands_from id (tree i content kids later) h = stands_tree (i == id) (stands_from id later) h where
  stands_tree : (b : Bool) → (IsThere id (from_sibling id later) → 0 < tops id later)
      → 0 < times id (if b then tree i content kids later else from_sibling id later) → 0 < (if b then 1 else 0) + tops id later
  stands_tree true after h = omega arith
  stands_tree false after h = omega (arith, after h)

pub from_stands : (id : ℕ) (forest : Forest) → 0 < tops id forest → IsThere id (from_sibling id forest)
from_stands id empty h = absurd (omega arith)
from_stands id (tree i content kids later) h = stands_tree (i == id) refl (from_stands id later) h where
  stands_tree : (b : Bool) → (i == id) ≡ b → (0 < tops id later → IsThere id (from_sibling id later))
      → 0 < (if b then 1 else 0) + tops id later → 0 < times id (if b then tree i content kids later else from_sibling id later)
  stands_tree true e after h = let one : (if i == id then 1 else 0) ≡ suc zero = cond-true (eqb i id) _ _ e in omega arith
  stands_tree false e after h = omega (arith, after (omega arith))

-- An element found by its id.
record Found (id : ℕ) (forest : Forest) : Type 0 where
  there : 0 < times id forest
  element : IsElement (content_of id forest)

named_element : (id : List ℕ) (content : NewNode) → has_id id content ≡ true → IsElement (Some content)
named_element id (Element name attributes) e = tt
named_element id (Text text) e = absurd (let t : false ≡ true = e in cc)
named_element id (Comment mark) e = absurd (let t : false ≡ true = e in cc)

found_here : (n i : ℕ) (content : NewNode) (kids later : Forest) → i ≡ n → IsElement (Some content) → Found n (tree i content kids later)
found_here n i content kids later e is = record {
  there = let one : (if i == n then 1 else 0) ≡ suc zero = cond-true (eqb i n) _ _ (eq-eqb i n e) in omega arith;
  element = subst (λ f. IsElement (first_content f)) (sym (cond-true (eqb i n) _ _ (eq-eqb i n e))) is;
}

other_than : (n i : ℕ) (content : NewNode) (kids later : Forest) → times n (tree i content kids later) ≤ 1 → 0 < times n kids + times n later → (i == n) ≡ false
other_than n i content kids later once there = other (i == n) refl once where
  other : (b : Bool) → (i == n) ≡ b → (if b then 1 else 0) + times n kids + times n later ≤ 1 → (i == n) ≡ false
  other true e h = absurd (omega arith)
  other false e h = e

element_or : (a b : Forest) → IsElement (first_content a) → IsElement (first_content (or_else a b))
element_or empty b h = absurd h
element_or (tree i content kids later) b h = h

found_below : (n i : ℕ) (content : NewNode) (kids later : Forest) → times n (tree i content kids later) ≤ 1 → Found n kids → Found n (tree i content kids later)
found_below n i content kids later once k = record {
  there = omega (arith, k.there);
  element = subst (λ f. IsElement (first_content f)) (sym (cond-false (eqb i n) _ _ (other_than n i content kids later once (omega (arith, k.there)))))
      (element_or (from n kids) (from n later) k.element);
}

found_past : (n i : ℕ) (content : NewNode) (kids later : Forest) → times n (tree i content kids later) ≤ 1 → Found n later → Found n (tree i content kids later)
found_past n i content kids later once l =
    let none : times n kids ≡ 0 = omega (arith, l.there) in
    record {
      there = omega (arith, l.there);
      element = subst (λ f. IsElement (first_content f))
          (sym (cond-false (eqb i n) _ _ (other_than n i content kids later once (omega (arith, l.there))) ∙ ap (λ f. or_else f (from n later)) (absent n kids none).from_is))
          l.element;
    }

found_tree : (id : List ℕ) (n i : ℕ) (content : NewNode) (kids later : Forest) (b : Bool) (o : Option ℕ) → has_id id content ≡ b → times n (tree i content kids later) ≤ 1
    → (if b then Some i else or_id o (element_with id later)) ≡ Some n → (o ≡ Some n → Found n kids) → (element_with id later ≡ Some n → Found n later)
    → Found n (tree i content kids later)
found_tree id n i content kids later true o named once is inner after = found_here n i content kids later (let e : Some i ≡ Some n = is in cc) (named_element id content named)
found_tree id n i content kids later false (Some m) named once is inner after = found_below n i content kids later once (inner is)
found_tree id n i content kids later false None named once is inner after = found_past n i content kids later once (after is)

found_by_id : (id : List ℕ) (forest : Forest) (n : ℕ) → times n forest ≤ 1 → element_with id forest ≡ Some n → Found n forest
found_by_id id empty n once is = absurd (nothing_is n is)
found_by_id id (tree i content kids later) n once is =
    found_tree id n i content kids later (has_id id content) (element_with id kids) refl once is
    (λ e. found_by_id id kids n (omega arith) e) (λ e. found_by_id id later n (omega arith) e)

pub element_found : (id : List ℕ) (forest : Forest) (n : ℕ) → times n forest ≤ 1 → element_with id forest ≡ Some n → IsElement (content_of n forest)
element_found id forest n once is = (found_by_id id forest n once is).element

-- The end of a boundary stands among the later siblings.
closing_tree : (content : NewNode) (i : ℕ) (kids later : Forest) (n inner : ℕ) → closing_mark (tree i content kids later) inner ≡ Some n
    → ((k : ℕ) → closing_mark later k ≡ Some n → 0 < tops n later) → 0 < tops n (tree i content kids later)
closing_tree (Element name attributes) i kids later n inner is after = omega (arith, after inner is)
closing_tree (Text text) i kids later n inner is after = omega (arith, after inner is)
closing_tree (Comment Complete) i kids later n inner is after = omega (arith, after (inner + 1) is)
closing_tree (Comment Pending) i kids later n inner is after = omega (arith, after (inner + 1) is)
closing_tree (Comment Client) i kids later n inner is after = omega (arith, after (inner + 1) is)
closing_tree (Comment Space) i kids later n inner is after = omega (arith, after inner is)
closing_tree (Comment End) i kids later n inner is after = closes (inner == 0) is where
  closes : (b : Bool) → (if b then Some i else closing_mark later (inner - 1)) ≡ Some n → 0 < tops n (tree i (Comment End) kids later)
  closes true e = let same : i ≡ n = cc in let one : (if i == n then 1 else 0) ≡ suc zero = cond-true (eqb i n) _ _ (eq-eqb i n same) in omega arith
  closes false e = omega (arith, after (inner - 1) e)

closing_stands : (forest : Forest) (n inner : ℕ) → closing_mark forest inner ≡ Some n → 0 < tops n forest
closing_stands empty n inner is = absurd (nothing_is n is)
closing_stands (tree i content kids later) n inner is = closing_tree content i kids later n inner is (λ k e. closing_stands later n k e)

pub end_stands : (template n : ℕ) (forest : Forest) → end_of_boundary template forest ≡ Some n → 0 < tops n (later_of template forest)
end_stands template n forest is = closing_stands (later_of template forest) n 0 is

-- The marker of a boundary is a comment.
waits_comment : (content : Option NewNode) → waits content ≡ true → IsComment content
waits_comment None e = absurd (let t : false ≡ true = e in cc)
waits_comment (Some (Element name attributes)) e = absurd (let t : false ≡ true = e in cc)
waits_comment (Some (Text text)) e = absurd (let t : false ≡ true = e in cc)
waits_comment (Some (Comment mark)) e = tt

waiting_comment : (forest : Forest) (before : Option ℕ) (m : ℕ) → waiting forest before ≡ Some m → IsComment (content_of m forest)
waiting_comment forest None m is = absurd (nothing_is m is)
waiting_comment forest (Some node) m is = waiting_node (waits (content_of node forest)) refl is where
  waiting_node : (b : Bool) → waits (content_of node forest) ≡ b → (if b then Some node else None) ≡ Some m → IsComment (content_of m forest)
  waiting_node true e is = let same : node ≡ m = cc in subst (λ k. IsComment (content_of k forest)) same (waits_comment (content_of node forest) e)
  waiting_node false e is = absurd (nothing_is m is)

pub marker_comment : (template m : ℕ) (forest : Forest) → marker_of template forest ≡ Some m → IsComment (content_of m forest)
marker_comment template m forest is = waiting_comment forest _ m is

-- no node is both
pub element_not_comment : (content : Option NewNode) → IsElement content → IsComment content → ⊥
element_not_comment None e c = e
element_not_comment (Some (Element name attributes)) e c = c
element_not_comment (Some (Text text)) e c = e
element_not_comment (Some (Comment mark)) e c = e

-- An element keeps what it says when a comment says something else.
pub element_stays : (id mark : ℕ) (node : NewNode) (forest : Forest) → IsElement (content_of id forest) → IsComment (content_of mark forest)
    → IsElement (content_of id (with_change mark (λ content kids later. tree mark node kids later) forest))
element_stays id mark node forest e c =
    subst IsElement
    (sym (dressed_content id mark (λ _. node) forest (λ same. element_not_comment (content_of id forest) e (subst (λ n. IsComment (content_of n forest)) (sym same) c))))
    e

-- What is found by an id is an element.
pub some_element : (id : List ℕ) (dom : DomState) (found : Option NodeId) → IsNumbered dom → number found ≡ element_with id dom.forest
    → IfSome found (λ n. IsElement (content_of n.0 dom.forest))
some_element id dom None d e = tt
some_element id dom (Some node) d e = element_found id dom.forest node.0 (d.once node.0) (sym e)

nat_lt_once : (m n : ℕ) → m + n ≡ 1 → nat_lt 0 m ≡ not (nat_lt 0 n)
nat_lt_once zero n h = sym (ap not (lt-ltb 0 n (omega arith)))
nat_lt_once (suc m) n h = lt-ltb 0 (suc m) (omega arith) ∙ sym (ap not (le-ltb 0 n (omega arith)))

-- What is there goes with a part, or it stays.
pub inside_or_not : (id part : ℕ) (dom : DomState) → IsNumbered dom → IsThere part dom.forest → IsThere id dom.forest
    → nat_lt 0 (times id (first_tree (from part dom.forest))) ≡ not (nat_lt 0 (times id (without_node part dom).forest))
inside_or_not id part dom d here there =
    let s = spot part dom.forest (omega (arith, d.once part)) in
    nat_lt_once (times id (first_tree (from part dom.forest))) (times id (without_node part dom).forest)
    (omega (
      arith,
      ap (λ f. times id (first_tree f)) s.found,
      ap (times id) (s.edited (λ content kids later. later)),
      s.counts id s.later,
      ap (times id) s.is,
      s.counts id (tree part s.content s.kids s.later),
      d.once id,
    ))
