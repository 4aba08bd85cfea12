-- Nodes that come one after the other to the end of an element, and below the last of them.
use Rattle.std.proofs.Common.{◌≡◌, ℕ, ◌+◌, ◌≤◌, Bool, true, false, if◌then◌else◌, ◌==◌, Option, Some, None, refl, sym, ◌∙◌, ap, ⊎_elim, arith, add-zero}
use Rattle.std.proofs.lemmas.Bool.{cases_Bool, cond-true, cond-false, eq-eqb, ne_eqb, eqb-true}
use Rattle.dom_forest.specs.declared.node.NewNode.{NewNode}
use Rattle.dom_forest.specs.declared.node.NodeId.{NodeId}
use Rattle.dom_forest.specs.Forest.{Forest, empty, tree, times, count, joined_forests}
use Rattle.dom_forest.specs.Edits.{DomState, with_change, with_last, with_appended, numbered_from}
use Rattle.document_machine.specs.Printing.{with_nodes}

-- No node has an id that is not given yet.
pub record IsFresh (dom : DomState) : Type 0 where
  pub none : (id : ℕ) → dom.next ≤ id → times id dom.forest ≡ 0

joined_none : (a : Forest) → joined_forests a empty ≡ a
joined_none empty = refl
joined_none (tree i content kids later) = ap (tree i content kids) (joined_none later)

joined_assoc : (a b c : Forest) → joined_forests (joined_forests a b) c ≡ joined_forests a (joined_forests b c)
joined_assoc empty b c = refl
joined_assoc (tree i content kids later) b c = ap (tree i content kids) (joined_assoc later b c)

times_joined : (id : ℕ) (a b : Forest) → times id (joined_forests a b) ≡ times id a + times id b
times_joined id empty b = omega arith
times_joined id (tree i content kids later) b = ap (λ n. (if i == id then 1 else 0) + times id kids + n) (times_joined id later b) ∙ omega arith

-- An id that does not stand in a tree, nor in its parts.
record IsAbsent (id i : ℕ) (kids later : Forest) : Type 0 where
  other : (i == id) ≡ false
  kids_none : times id kids ≡ 0
  later_none : times id later ≡ 0

other_id : (b : Bool) (n : ℕ) → (if b then 1 else 0) + n ≡ 0 → b ≡ false
other_id true n e = absurd (omega arith)
other_id false n e = refl

absent : (id i : ℕ) (content : NewNode) (kids later : Forest) → times id (tree i content kids later) ≡ 0 → IsAbsent id i kids later
absent id i content kids later e = record {
  other = other_id (i == id) (times id kids + times id later) (omega (arith, e));
  kids_none = omega (arith, e);
  later_none = omega (arith, e);
}

present_none : (id i : ℕ) (content : NewNode) (kids later : Forest) → (i == id) ≡ false → times id kids ≡ 0 → times id later ≡ 0 → times id (tree i content kids later) ≡ 0
present_none id i content kids later e k l = (λ j. (cond-false (i == id) 1 0 e j) + k j + l j)

-- Where the id does not stand nothing is changed.
unchanged : (id : ℕ) (change : NewNode → Forest → Forest → Forest) (forest : Forest) → times id forest ≡ 0 → with_change id change forest ≡ forest
unchanged id change empty e = refl
unchanged id change (tree i content kids later) e =
    let a : IsAbsent id i kids later = absent id i content kids later e in
    cond-false (i == id) _ _ a.other ∙ (λ j. tree i content (unchanged id change kids a.kids_none j) (unchanged id change later a.later_none j))

changed_joined : (id : ℕ) (change : NewNode → Forest → Forest → Forest) (a b : Forest) → times id a ≡ 0 → with_change id change (joined_forests a b) ≡ joined_forests a (with_change id change b)
changed_joined id change empty b e = refl
changed_joined id change (tree i content kids later) b e =
    let a : IsAbsent id i kids later = absent id i content kids later e in
    cond-false (i == id) _ _ a.other ∙ (λ j. tree i content (unchanged id change kids a.kids_none j) (changed_joined id change later b a.later_none j))

abbrev grown : ℕ → Forest → NewNode → Forest → Forest → Forest
grown id more content kids later = tree id content (joined_forests kids more) later

grown_none : (id : ℕ) (forest : Forest) → with_change id (grown id empty) forest ≡ forest
grown_none id empty = refl
grown_none id (tree i content kids later) =
    ⊎_elim
    (λ e. cond-true (i == id) _ _ e ∙ (λ j. tree (sym (eqb-true i id e) j) content (joined_none kids j) later))
    (λ e. cond-false (i == id) _ _ e ∙ (λ j. tree i content (grown_none id kids j) (grown_none id later j)))
    (cases_Bool (i == id))

pub with_last_none : (parent : Option NodeId) (forest : Forest) → with_last parent empty forest ≡ forest
with_last_none None forest = joined_none forest
with_last_none (Some parent) forest = grown_none parent.0 forest

grown_twice : (id : ℕ) (a b forest : Forest) → with_change id (grown id b) (with_change id (grown id a) forest) ≡ with_change id (grown id (joined_forests a b)) forest
grown_twice id a b empty = refl
grown_twice id a b (tree i content kids later) =
    ⊎_elim
    (λ e.
    ap (with_change id (grown id b)) (cond-true (i == id) _ _ e)
    ∙ (cond-true (id == id) _ _ (eq-eqb id id refl) ∙ (ap (λ k. tree id content k later) (joined_assoc kids a b) ∙ sym (cond-true (i == id) _ _ e))))
    (λ e.
    ap (with_change id (grown id b)) (cond-false (i == id) _ _ e)
    ∙ (cond-false (i == id) _ _ e ∙ ((λ j. tree i content (grown_twice id a b kids j) (grown_twice id a b later j)) ∙ sym (cond-false (i == id) _ _ e))))
    (cases_Bool (i == id))

pub with_last_twice : (parent : Option NodeId) (a b forest : Forest) → with_last parent b (with_last parent a forest) ≡ with_last parent (joined_forests a b) forest
with_last_twice None a b forest = joined_assoc forest a b
with_last_twice (Some parent) a b forest = grown_twice parent.0 a b forest

-- A new node, and what comes below it.
grows_alone : (next : ℕ) (content : NewNode) (sub : Forest) → with_change next (grown next sub) (tree next content empty empty) ≡ tree next content sub empty
grows_alone next content sub = cond-true (next == next) _ _ (eq-eqb next next refl)

grows_last : (next id : ℕ) (content : NewNode) (sub forest : Forest) → times next forest ≡ 0
    → with_change next (grown next sub) (with_change id (grown id (tree next content empty empty)) forest) ≡ with_change id (grown id (tree next content sub empty)) forest
grows_last next id content sub empty e = refl
grows_last next id content sub (tree i node kids later) e =
    let a : IsAbsent next i kids later = absent next i node kids later e in
    let new : Forest = tree next content empty empty in
    ⊎_elim
    (λ h.
    ap (with_change next (grown next sub)) (cond-true (i == id) _ _ h)
    ∙ (cond-false (id == next) _ _ (ap (λ x. x == next) (sym (eqb-true i id h)) ∙ a.other)
    ∙ ((λ j. tree id node ((changed_joined next (grown next sub) kids new a.kids_none ∙ ap (joined_forests kids) (grows_alone next content sub)) j) (unchanged next (grown next sub) later a.later_none j))
    ∙ sym (cond-true (i == id) _ _ h))))
    (λ h.
    ap (with_change next (grown next sub)) (cond-false (i == id) _ _ h)
    ∙ (cond-false (i == next) _ _ a.other
    ∙ ((λ j. tree i node (grows_last next id content sub kids a.kids_none j) (grows_last next id content sub later a.later_none j))
    ∙ sym (cond-false (i == id) _ _ h))))
    (cases_Bool (i == id))

pub with_last_below : (next : ℕ) (parent : Option NodeId) (content : NewNode) (sub forest : Forest) → times next forest ≡ 0
    → with_last (Some (record { 0 = next })) sub (with_last parent (tree next content empty empty) forest) ≡ with_last parent (tree next content sub empty) forest
with_last_below next None content sub forest e =
    changed_joined next (grown next sub) forest (tree next content empty empty) e ∙ ap (joined_forests forest) (grows_alone next content sub)
with_last_below next (Some parent) content sub forest e = grows_last next parent.0 content sub forest e

-- New ids stay new.
renumbered_times : (id next : ℕ) (forest : Forest) → next + count forest ≤ id → times id (numbered_from next forest) ≡ 0
renumbered_times id next empty h = refl
renumbered_times id next (tree i content kids later) h =
    present_none id next content (numbered_from (next + 1) kids) (numbered_from (next + 1 + count kids) later) (ne_eqb next id (λ e. omega (arith, h, e)))
    (renumbered_times id (next + 1) kids (omega (arith, h))) (renumbered_times id (next + 1 + count kids) later (omega (arith, h)))

grown_times : (id node : ℕ) (more forest : Forest) → times id more ≡ 0 → times id forest ≡ 0 → times id (with_change node (grown node more) forest) ≡ 0
grown_times id node more empty m e = refl
grown_times id node more (tree i content kids later) m e =
    let a : IsAbsent id i kids later = absent id i content kids later e in
    ⊎_elim
    (λ h.
    ap (times id) (cond-true (i == node) _ _ h)
    ∙ present_none id node content (joined_forests kids more) later (ap (λ x. x == id) (sym (eqb-true i node h)) ∙ a.other) (times_joined id kids more ∙ omega (arith, m, a.kids_none)) a.later_none)
    (λ h.
    ap (times id) (cond-false (i == node) _ _ h)
    ∙ present_none id i content _ _ a.other (grown_times id node more kids m a.kids_none) (grown_times id node more later m a.later_none))
    (cases_Bool (i == node))

pub with_last_times : (id : ℕ) (parent : Option NodeId) (more forest : Forest) → times id more ≡ 0 → times id forest ≡ 0 → times id (with_last parent more forest) ≡ 0
with_last_times id None more forest m e = times_joined id forest more ∙ omega (arith, m, e)
with_last_times id (Some parent) more forest m e = grown_times id parent.0 more forest m e

pub fresh_nodes : (parent : Option NodeId) (more : Forest) (dom : DomState) → IsFresh dom → IsFresh (with_nodes parent more dom)
fresh_nodes parent more dom fresh = record {
  none = λ id h. with_last_times id parent (numbered_from dom.next more) dom.forest (renumbered_times id dom.next more h) (fresh.none id (omega (arith, h)));
}

pub fresh_appended : (parent : Option NodeId) (content : NewNode) (dom : DomState) → IsFresh dom → IsFresh (with_appended parent content dom)
fresh_appended parent content dom fresh = record {
  none = λ id h. with_last_times id parent (tree dom.next content empty empty) dom.forest
      (present_none id dom.next content empty empty (ne_eqb dom.next id (λ e. omega (arith, h, e))) refl refl) (fresh.none id (omega (arith, h)));
}

same_dom : (a b : Forest) (m n : ℕ) → a ≡ b → m ≡ n → ◌≡◌ {A = DomState} (record { forest = a; next = m }) (record { forest = b; next = n })
same_dom a b m n e f = λ i. record { forest = e i; next = f i }

pub with_nodes_none : (parent : Option NodeId) (dom : DomState) → with_nodes parent empty dom ≡ dom
with_nodes_none parent dom = same_dom _ dom.forest _ dom.next (with_last_none parent dom.forest) (add-zero dom.next)

-- A tree comes as its node, then its children, then what stands after it.
pub with_nodes_tree : (parent : Option NodeId) (i : ℕ) (content : NewNode) (kids later : Forest) (dom : DomState) → IsFresh dom
    → with_nodes parent later (with_nodes (Some (record { 0 = dom.next })) kids (with_appended parent content dom)) ≡ with_nodes parent (tree i content kids later) dom
with_nodes_tree parent i content kids later dom fresh =
    let below : with_last (Some (record { 0 = dom.next })) (numbered_from (dom.next + 1) kids) (with_last parent (tree dom.next content empty empty) dom.forest) ≡ with_last parent (tree dom.next content (numbered_from (dom.next + 1) kids) empty) dom.forest =
    with_last_below dom.next parent content (numbered_from (dom.next + 1) kids) dom.forest (fresh.none dom.next (omega arith)) in
    same_dom _ _ _ _
    (ap (with_last parent (numbered_from (dom.next + 1 + count kids) later)) below ∙ with_last_twice parent (tree dom.next content (numbered_from (dom.next + 1) kids) empty) (numbered_from (dom.next + 1 + count kids) later) dom.forest)
    (omega arith)
