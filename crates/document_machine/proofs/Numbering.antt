-- Each id stands once, and below the next one, after each edit.
use Rattle.std.proofs.Common.{◌≡◌, ◌≢◌, ℕ, zero, ◌+◌, ◌<◌, ◌≤◌, ◌==◌, eqb, Bool, true, false, if◌then◌else◌, inl, inr, refl, ap, arith, List}
use Rattle.std.proofs.lemmas.Bool.{cond-false, eqb-true, ne_eqb, cases_eq, cases_lt}
use Rattle.dom_forest.specs.declared.node.NewNode.{NewNode}
use Rattle.dom_forest.specs.Forest.{Forest, empty, tree, times, count, joined_forests}
use Rattle.dom_forest.specs.Edits.{DomState, IsNumbered, with_change, numbered_from, without_node, with_before, with_content, with_digest_at, digest_set}
use Rattle.document_machine.specs.Edits.{from_sibling, without_range}
use Rattle.document_machine.proofs.Spots.{Change, absent, spot}
use Rattle.document_machine.proofs.Shapes.{dressed_times}

pub numbered_fewer : (dom : DomState) (forest : Forest) → IsNumbered dom → ((j : ℕ) → times j forest ≤ times j dom.forest) → IsNumbered (record dom { forest = forest })
numbered_fewer dom forest d fewer = record {
  once = λ j. omega (arith, fewer j, d.once j);
  given = λ j h. omega (arith, fewer j, d.given j h);
}

-- A change that brings no id brings none.
changed_tree : (j id i : ℕ) (change : Change) (content : NewNode) (kids later : Forest) (b : Bool) → (i == id) ≡ b
    → times j (change content kids later) ≤ times j (tree id content kids later)
    → times j (with_change id change kids) ≤ times j kids → times j (with_change id change later) ≤ times j later
    → times j (if b then change content kids later else tree i content (with_change id change kids) (with_change id change later)) ≤ times j (tree i content kids later)
changed_tree j id i change content kids later true e h k l = let same = ap (λ n. times j (tree n content kids later)) (eqb-true i id e) in omega arith
changed_tree j id i change content kids later false e h k l = omega arith

changed_fewer : (j id : ℕ) (change : Change) (forest : Forest) → ((content : NewNode) (kids later : Forest) → times j (change content kids later) ≤ times j (tree id content kids later))
    → times j (with_change id change forest) ≤ times j forest
changed_fewer j id change empty h = omega arith
changed_fewer j id change (tree i content kids later) h =
    changed_tree j id i change content kids later (i == id) refl (h content kids later) (changed_fewer j id change kids h) (changed_fewer j id change later h)

pub numbered_without : (id : ℕ) (dom : DomState) → IsNumbered dom → IsNumbered (without_node id dom)
numbered_without id dom d = numbered_fewer dom _ d (λ j. changed_fewer j id _ dom.forest (λ content kids later. omega arith))

from_sibling_fewer : (j end : ℕ) (forest : Forest) → times j (from_sibling end forest) ≤ times j forest
from_sibling_fewer j end empty = omega arith
from_sibling_fewer j end (tree i content kids later) = fewer (i == end) (from_sibling_fewer j end later) where
  fewer : (b : Bool) → times j (from_sibling end later) ≤ times j later → times j (if b then tree i content kids later else from_sibling end later) ≤ times j (tree i content kids later)
  fewer true h = omega arith
  fewer false h = omega (arith, h)

pub numbered_range : (first end : ℕ) (dom : DomState) → IsNumbered dom → IsNumbered (without_range first end dom)
numbered_range first end dom d =
    numbered_fewer dom _ d (λ j. changed_fewer j first _ dom.forest (λ content kids later. omega (arith, from_sibling_fewer j end later)))

pub numbered_content : (id : ℕ) (node : NewNode) (dom : DomState) → IsNumbered dom → IsNumbered (with_content id node dom)
numbered_content id node dom d = numbered_fewer dom _ d (λ j. omega (arith, dressed_times j id (λ _. node) dom.forest))

pub numbered_digest : (id : ℕ) (digest : List ℕ) (dom : DomState) → IsNumbered dom → IsNumbered (with_digest_at id digest dom)
numbered_digest id digest dom d = numbered_fewer dom _ d (λ j. omega (arith, dressed_times j id (digest_set digest) dom.forest))

pub joined_times : (j : ℕ) (a b : Forest) → times j (joined_forests a b) ≡ times j a + times j b
joined_times j empty b = omega arith
joined_times j (tree i content kids later) b = omega (arith, joined_times j later b)

-- The ids of renumbered nodes.
record Given (j next : ℕ) (forest : Forest) : Type 0 where
  below : j < next → times j (numbered_from next forest) ≡ 0
  past : next + count forest ≤ j → times j (numbered_from next forest) ≡ 0
  once : times j (numbered_from next forest) ≤ 1

given_first : (j next : ℕ) → next ≢ j → (if next == j then 1 else 0) ≤ 0
given_first j next e = let none : (if next == j then 1 else 0) ≡ zero = cond-false (eqb next j) _ _ (ne_eqb next j e) in omega arith

given_tree : (j next : ℕ) (content : NewNode) (kids later : Forest) → Given j (next + 1) kids → Given j (next + 1 + count kids) later → Given j next (tree next content kids later)
given_tree j next content kids later k l = record {
  below = λ h. let none = given_first j next (omega arith) in omega (arith, k.below (omega arith), l.below (omega arith));
  past = λ h. let none = given_first j next (omega arith) in omega (arith, k.past (omega arith), l.past (omega arith));
  once = elim (cases_lt j (next + 1)) [
    | inl old ↦ omega (arith, k.below old, l.below (omega arith), ones (next == j))
    | inr new ↦ elim (cases_lt j (next + 1 + count kids)) [
      | inl inner ↦ let none = given_first j next (omega arith) in omega (arith, k.once, l.below inner)
      | inr after ↦ let none = given_first j next (omega arith) in omega (arith, k.past after, l.once)
    ]
  ];
} where
  ones : (b : Bool) → (if b then 1 else 0) ≤ 1
  ones true = omega arith
  ones false = omega arith

given : (j next : ℕ) (forest : Forest) → Given j next forest
given j next empty = record { below = λ h. refl; past = λ h. refl; once = omega arith }
given j next (tree i content kids later) =
    let t = given_tree j next content kids later (given j (next + 1) kids) (given j (next + 1 + count kids) later) in
    record { below = t.below; past = t.past; once = t.once }

put_times : (j id next : ℕ) (part forest : Forest) → times id forest ≤ 1
    → times j (with_change id (λ content kids later. joined_forests part (tree id content kids later)) forest) ≤ times j forest + times j part
put_times j id next part forest once = elim (cases_eq (times id forest) 0) [
  | inl none ↦ omega (arith, ap (times j) ((absent id forest none).same (λ content kids later. joined_forests part (tree id content kids later))))
  | inr some ↦ let s = spot id forest (omega arith) in
      omega (
        arith,
        ap (times j) (s.edited (λ content kids later. joined_forests part (tree id content kids later))),
        s.counts j (joined_forests part (tree id s.content s.kids s.later)),
        joined_times j part (tree id s.content s.kids s.later),
        ap (times j) s.is,
        s.counts j (tree id s.content s.kids s.later),
      )
]

pub numbered_before : (id : ℕ) (part dom : DomState) → IsNumbered dom → IsNumbered (with_before id part dom)
numbered_before id part dom d = record {
  once = λ j. elim (cases_lt j dom.next) [
    | inl old ↦ omega (arith, put_times j id dom.next (numbered_from dom.next part.forest) dom.forest (d.once id), (given j dom.next part.forest).below old, d.once j)
    | inr new ↦ omega (arith, put_times j id dom.next (numbered_from dom.next part.forest) dom.forest (d.once id), (given j dom.next part.forest).once, d.given j new)
  ];
  given = λ j h. omega (arith, put_times j id dom.next (numbered_from dom.next part.forest) dom.forest (d.once id), (given j dom.next part.forest).past h, d.given j (omega arith));
}
