-- The links stay in order when a segment is added or forgotten.
use Rattle.std.proofs.Common.{◌≡◌, ℕ, suc, ◌+◌, ◌-◌, ◌≤◌, ◌<◌, Bool, true, false, Option, Some, None, List, [], ◌∷◌, ◌++◌, length, slice_set, inl, inr, refl, sym, ap, ◌∙◌, subst, arith}
use Rattle.std.proofs.lemmas.Bool.{both_ways, cases_Bool, cases_eq, cases_lt, cases_order, cond-false, cond-true, eq-eqb, eqb-true, ne_eqb}
use Rattle.std.proofs.lemmas.List.{get_or_append_left, get_or_past, get_or_push, get_or-set_other, get_or-set_same, length-append, length-set}
use Rattle.fizz_segment.specs.declared.segment.Part.{Part}
use Rattle.fizz_segment.specs.Tree.{first_of, is_kid, is_parent, kids_from, part_at}
use Rattle.fizz_segment.specs.Nearest.{IsGreatest, IsLeast, IsLinked, kid_test, link_at, set_if, set_unless}
use Rattle.fizz_segment.proofs.Extremes.{after_is, before_is, greatest_is, greatest_kept, greatest_last, greatest_not, greatest_over, greatest_same, greatest_up, least_above, least_found, least_kept, least_new, least_over, least_same, next_is, none_some, one_some, previous_is}

pub link_set_same : (links : List (Option ℕ)) (k : ℕ) (v : Option ℕ) → k < length links → link_at (slice_set links k v) k ≡ v
link_set_same links k v inside = get_or-set_same links k v None inside

pub link_set_other : (links : List (Option ℕ)) (k j : ℕ) (v : Option ℕ) → (j ≡ k → ⊥) → link_at (slice_set links k v) j ≡ link_at links j
link_set_other links k j v other = get_or-set_other links k j v None other

-- a new link to nothing reads as no link
pub link_push : (links : List (Option ℕ)) (j : ℕ) → link_at (links ++ None ∷ []) j ≡ link_at links j
link_push links j = elim (cases_lt j (length links)) [
  | inl below ↦ get_or_append_left links (None ∷ []) None j below
  | inr past ↦ elim (cases_eq j (length links)) [
    | inl e ↦ get_or_push links None None j (sym e) ∙ sym (get_or_past links j None past)
    | inr other ↦ get_or_past (links ++ None ∷ []) j None (omega (arith, length-append links (None ∷ []), past, other))
        ∙ sym (get_or_past links j None past)
  ]
]

-- a kid has one parent
pub one_parent : (parts : List (Option Part)) (p q id : ℕ) → kid_test parts p id ≡ true → kid_test parts q id ≡ true → p ≡ q
one_parent parts p q id one other = by_part (part_at parts id) one other
  where
    by_parent : (parent : Option ℕ) → is_parent p parent ≡ true → is_parent q parent ≡ true → p ≡ q
    by_parent None a b = absurd (both_ways false refl a)
    by_parent (Some n) a b = eqb-true p n a ∙ sym (eqb-true q n b)

    by_part : (part : Option Part) → is_kid p part ≡ true → is_kid q part ≡ true → p ≡ q
    by_part None a b = absurd (both_ways false refl a)
    by_part (Some part) a b = by_parent part.parent a b

pub kid_past : (parts : List (Option Part)) (p j : ℕ) → length parts ≤ j → kid_test parts p j ≡ false
kid_past parts p j past = ap (is_kid p) (get_or_past parts j None past)

pub kid_inside : (parts : List (Option Part)) (p j : ℕ) → kid_test parts p j ≡ true → j < length parts
kid_inside parts p j kid = elim (cases_lt j (length parts)) [
  | inl below ↦ below
  | inr past ↦ absurd (both_ways (kid_test parts p j) (kid_past parts p j past) kid)
]

kid_push_other : (parts : List (Option Part)) (part : Part) (p j : ℕ) → (j ≡ length parts → ⊥)
    → kid_test (parts ++ Some part ∷ []) p j ≡ kid_test parts p j
kid_push_other parts part p j other = elim (cases_lt j (length parts)) [
  | inl below ↦ ap (is_kid p) (get_or_append_left parts (Some part ∷ []) None j below)
  | inr past ↦ ap (is_kid p) (get_or_past (parts ++ Some part ∷ []) j None (omega (arith, length-append parts (Some part ∷ []), past, other))
      ∙ sym (get_or_past parts j None past))
]

kid_push_new : (parts : List (Option Part)) (part : Part) (p : ℕ) → kid_test (parts ++ Some part ∷ []) p (length parts) ≡ is_parent p part.parent
kid_push_new parts part p = ap (is_kid p) (get_or_push parts (Some part) None (length parts) refl)

-- where it is no kid, all tests stay
kid_push_same : (parts : List (Option Part)) (part : Part) (p : ℕ) → is_parent p part.parent ≡ false → (j : ℕ)
    → kid_test (parts ++ Some part ∷ []) p j ≡ kid_test parts p j
kid_push_same parts part p stranger j = elim (cases_eq j (length parts)) [
  | inl e ↦ ap (kid_test (parts ++ Some part ∷ []) p) e ∙ kid_push_new parts part p ∙ stranger
      ∙ sym (ap (kid_test parts p) e ∙ kid_past parts p (length parts) (omega arith))
  | inr other ↦ kid_push_other parts part p j other
]

-- a segment without a parent is added
pub linked_root : (parts : List (Option Part)) (part : Part) (first last previous next : List (Option ℕ)) → part.parent ≡ None
    → IsLinked parts first last previous next
    → IsLinked (parts ++ Some part ∷ []) (first ++ None ∷ []) (last ++ None ∷ []) (previous ++ None ∷ []) (next ++ None ∷ [])
linked_root parts part first last previous next orphan linked = record {
  first_length = omega (arith, linked.first_length, grow first, more);
  last_length = omega (arith, linked.last_length, grow last, more);
  previous_length = omega (arith, linked.previous_length, grow previous, more);
  next_length = omega (arith, linked.next_length, grow next, more);
  parents = λ id p kid. omega (arith, more, linked.parents id p (sym (same p id) ∙ kid));
  firsts = λ id. subst (λ (o : Option ℕ). IsLeast (kid_test (parts ++ Some part ∷ []) id) 0 o) (sym (link_push first id))
      (least_same (kid_test parts id) _ 0 _ (λ j above. same id j) (linked.firsts id));
  lasts = λ id. subst (λ (o : Option ℕ). IsGreatest (kid_test (parts ++ Some part ∷ []) id) (length (parts ++ Some part ∷ [])) o) (sym (link_push last id))
      (subst (λ n. IsGreatest (kid_test (parts ++ Some part ∷ []) id) n (link_at last id)) (sym more)
      (greatest_up _ (length parts) _ (same id (length parts) ∙ kid_past parts id (length parts) (omega arith))
      (greatest_same (kid_test parts id) _ (length parts) _ (λ j below. same id j) (linked.lasts id))));
  nexts = λ id p kid. subst (λ (o : Option ℕ). IsLeast (kid_test (parts ++ Some part ∷ []) p) (id + 1) o) (sym (link_push next id))
      (least_same (kid_test parts p) _ (id + 1) _ (λ j above. same p j) (linked.nexts id p (sym (same p id) ∙ kid)));
  previouses = λ id p kid. subst (λ (o : Option ℕ). IsGreatest (kid_test (parts ++ Some part ∷ []) p) id o) (sym (link_push previous id))
      (greatest_same (kid_test parts p) _ id _ (λ j below. same p j) (linked.previouses id p (sym (same p id) ∙ kid)));
}
  where
    more : length (parts ++ Some part ∷ []) ≡ length parts + 1
    more = omega (arith, length-append parts (Some part ∷ []))

    grow : (links : List (Option ℕ)) → length (links ++ None ∷ []) ≡ length links + 1
    grow links = omega (arith, length-append links (None ∷ []))

    same : (p j : ℕ) → kid_test (parts ++ Some part ∷ []) p j ≡ kid_test parts p j
    same p j = kid_push_same parts part p (ap (is_parent p) orphan) j

link_if_other : (o : Option ℕ) (v : Option ℕ) (links : List (Option ℕ)) (j : ℕ) → (o ≡ Some j → ⊥) → link_at (set_if o v links) j ≡ link_at links j
link_if_other None v links j other = refl
link_if_other (Some k) v links j other = link_set_other links k j v (λ e. other (ap Some (sym e)))

link_if_same : (o : Option ℕ) (v : Option ℕ) (links : List (Option ℕ)) (j : ℕ) → o ≡ Some j → j < length links → link_at (set_if o v links) j ≡ v
link_if_same None v links j is inside = absurd (none_some j None is refl)
link_if_same (Some k) v links j is inside =
    ap (λ n. link_at (slice_set links n v) j) (one_some k j is) ∙ link_set_same links j v inside

length_if : (o : Option ℕ) (v : Option ℕ) (links : List (Option ℕ)) → length (set_if o v links) ≡ length links
length_if None v links = refl
length_if (Some k) v links = length-set links k v

link_unless_other : (o : Option ℕ) (k : ℕ) (v : Option ℕ) (links : List (Option ℕ)) (j : ℕ) → (j ≡ k → ⊥) → link_at (set_unless o k v links) j ≡ link_at links j
link_unless_other None k v links j other = link_set_other links k j v other
link_unless_other (Some n) k v links j other = refl

length_unless : (o : Option ℕ) (k : ℕ) (v : Option ℕ) (links : List (Option ℕ)) → length (set_unless o k v links) ≡ length links
length_unless None k v links = length-set links k v
length_unless (Some n) k v links = refl

parent_test : (p q : ℕ) (parent : Option ℕ) → parent ≡ Some q → (p ≡ q → ⊥) → is_parent p parent ≡ false
parent_test p q parent is other = ap (is_parent p) is ∙ ne_eqb p q other

-- a segment with a parent is added
module _ (parts : List (Option Part)) (part : Part) (first last previous next : List (Option ℕ)) (q : ℕ)
    (own : part.parent ≡ Some q) (live : q < length parts) (linked : IsLinked parts first last previous next) where
  kids_same : (p j : ℕ) → (p ≡ q → ⊥) → kid_test (parts ++ Some part ∷ []) p j ≡ kid_test parts p j
  kids_same p j other = kid_push_same parts part p (parent_test p q part.parent own other) j

  own_same : (j : ℕ) → (j ≡ length parts → ⊥) → kid_test (parts ++ Some part ∷ []) q j ≡ kid_test parts q j
  own_same j other = kid_push_other parts part q j other

  own_new : kid_test (parts ++ Some part ∷ []) q (length parts) ≡ true
  own_new = kid_push_new parts part q ∙ ap (is_parent q) own ∙ eq-eqb q q refl

  own_past : (j : ℕ) → length parts ≤ j → kid_test parts q j ≡ false
  own_past j past = kid_past parts q j past

  grown : (links : List (Option ℕ)) → length (links ++ None ∷ []) ≡ length links + 1
  grown links = omega (arith, length-append links (None ∷ []))

  longer : length (parts ++ Some part ∷ []) ≡ length parts + 1
  longer = omega (arith, length-append parts (Some part ∷ []))

  tail_not : (k : ℕ) (i : ℕ) → link_at next k ≡ Some i → kid_test parts q k ≡ true → link_at last q ≡ Some k → ⊥
  tail_not k i is kid tail =
      greatest_not (kid_test parts q) (kid_test (parts ++ Some part ∷ []) q) (length parts) own_same own_new own_past k i (link_at last q)
      (subst (λ (o : Option ℕ). IsLeast (kid_test parts q) (k + 1) o) is (linked.nexts k q kid)) (linked.lasts q) tail

  tail_is : (k : ℕ) → link_at next k ≡ None → kid_test parts q k ≡ true → link_at last q ≡ Some k
  tail_is k is kid =
      greatest_is (kid_test parts q) (kid_test (parts ++ Some part ∷ []) q) (length parts) own_same own_new own_past k (link_at last q) kid
      (subst (λ (o : Option ℕ). IsLeast (kid_test parts q) (k + 1) o) is (linked.nexts k q kid)) (linked.lasts q)

  -- the first kid of the parent
  child_first : (tail head : Option ℕ) → link_at last q ≡ tail → link_at first q ≡ head
      → IsLeast (kid_test (parts ++ Some part ∷ []) q) 0 (link_at (set_unless tail q (Some (length parts)) (first ++ None ∷ [])) q)
  child_first None head is head_is =
      subst (λ (o : Option ℕ). IsLeast (kid_test (parts ++ Some part ∷ []) q) 0 o)
      (sym (link_set_same (first ++ None ∷ []) q (Some (length parts)) (omega (arith, live, linked.first_length, grown first))))
      (least_new (kid_test parts q) _ (length parts) own_same own_new own_past 0 (omega arith)
      (record {
        none = λ h j above. no_kid j;
        least = λ m h. absurd (none_some m None h refl);
        passes = λ m h. absurd (none_some m None h refl);
        before = λ m h. absurd (none_some m None h refl);
      }))
    where
      no_kid : (j : ℕ) → kid_test parts q j ≡ false
      no_kid j = elim (cases_lt j (length parts)) [
        | inl below ↦ (linked.lasts q).none is j below
        | inr past ↦ own_past j past
      ]
  child_first (Some l) None is head_is =
      absurd (both_ways (kid_test parts q l) ((linked.firsts q).none head_is l (omega arith)) ((linked.lasts q).passes l is))
  child_first (Some l) (Some i) is head_is =
      subst (λ (o : Option ℕ). IsLeast (kid_test (parts ++ Some part ∷ []) q) 0 o) (sym (link_push first q ∙ head_is))
      (least_found (kid_test parts q) _ (length parts) own_same own_new own_past 0 i
      (subst (λ (o : Option ℕ). IsLeast (kid_test parts q) 0 o) head_is (linked.firsts q)))

  child_firsts : (id : ℕ) → IsLeast (kid_test (parts ++ Some part ∷ []) id) 0
      (link_at (set_unless (link_at last q) q (Some (length parts)) (first ++ None ∷ [])) id)
  child_firsts id = elim (cases_eq id q) [
    | inl e ↦ subst (λ m. IsLeast (kid_test (parts ++ Some part ∷ []) m) 0
        (link_at (set_unless (link_at last q) q (Some (length parts)) (first ++ None ∷ [])) m)) (sym e)
        (child_first (link_at last q) (link_at first q) refl refl)
    | inr other ↦ subst (λ (o : Option ℕ). IsLeast (kid_test (parts ++ Some part ∷ []) id) 0 o)
        (sym (link_unless_other (link_at last q) q (Some (length parts)) (first ++ None ∷ []) id other ∙ link_push first id))
        (least_same (kid_test parts id) _ 0 _ (λ j above. kids_same id j other) (linked.firsts id))
  ]

  child_lasts : (id : ℕ) → IsGreatest (kid_test (parts ++ Some part ∷ []) id) (length (parts ++ Some part ∷ []))
      (link_at (slice_set (last ++ None ∷ []) q (Some (length parts))) id)
  child_lasts id = subst (λ m. IsGreatest (kid_test (parts ++ Some part ∷ []) id) m
      (link_at (slice_set (last ++ None ∷ []) q (Some (length parts))) id)) (sym longer) (elim (cases_eq id q) [
        | inl e ↦ subst (λ (o : Option ℕ). IsGreatest (kid_test (parts ++ Some part ∷ []) id) (length parts + 1) o)
            (sym (ap (link_at (slice_set (last ++ None ∷ []) q (Some (length parts)))) e
            ∙ link_set_same (last ++ None ∷ []) q (Some (length parts)) (omega (arith, live, linked.last_length, grown last))))
            (greatest_last _ (length parts) (ap (λ m. kid_test (parts ++ Some part ∷ []) m (length parts)) e ∙ own_new))
        | inr other ↦ subst (λ (o : Option ℕ). IsGreatest (kid_test (parts ++ Some part ∷ []) id) (length parts + 1) o)
            (sym (link_set_other (last ++ None ∷ []) q id (Some (length parts)) other ∙ link_push last id))
            (greatest_up _ (length parts) _ (kids_same id (length parts) other ∙ kid_past parts id (length parts) (omega arith))
            (greatest_same (kid_test parts id) _ (length parts) _ (λ j below. kids_same id j other) (linked.lasts id)))
      ])

  child_next : (k : ℕ) (after : Option ℕ) → link_at next k ≡ after → kid_test parts q k ≡ true
      → IsLeast (kid_test (parts ++ Some part ∷ []) q) (k + 1) (link_at (set_if (link_at last q) (Some (length parts)) (next ++ None ∷ [])) k)
  child_next k None is kid =
      subst (λ (o : Option ℕ). IsLeast (kid_test (parts ++ Some part ∷ []) q) (k + 1) o)
      (sym (link_if_same (link_at last q) (Some (length parts)) (next ++ None ∷ []) k (tail_is k is kid)
      (omega (arith, kid_inside parts q k kid, linked.next_length, grown next))))
      (least_new (kid_test parts q) _ (length parts) own_same own_new own_past (k + 1) (omega (arith, kid_inside parts q k kid))
      (subst (λ (o : Option ℕ). IsLeast (kid_test parts q) (k + 1) o) is (linked.nexts k q kid)))
  child_next k (Some i) is kid =
      subst (λ (o : Option ℕ). IsLeast (kid_test (parts ++ Some part ∷ []) q) (k + 1) o)
      (sym (link_if_other (link_at last q) (Some (length parts)) (next ++ None ∷ []) k (tail_not k i is kid) ∙ link_push next k ∙ is))
      (least_found (kid_test parts q) _ (length parts) own_same own_new own_past (k + 1) i
      (subst (λ (o : Option ℕ). IsLeast (kid_test parts q) (k + 1) o) is (linked.nexts k q kid)))

  tail_inside : (k : ℕ) → link_at last q ≡ Some k → k < length parts
  tail_inside k is = (linked.lasts q).greatest k is

  child_nexts : (id p : ℕ) → kid_test (parts ++ Some part ∷ []) p id ≡ true
      → IsLeast (kid_test (parts ++ Some part ∷ []) p) (id + 1) (link_at (set_if (link_at last q) (Some (length parts)) (next ++ None ∷ [])) id)
  child_nexts id p kid = elim (cases_eq p q) [
    | inl e ↦ subst (λ m. IsLeast (kid_test (parts ++ Some part ∷ []) m) (id + 1)
        (link_at (set_if (link_at last q) (Some (length parts)) (next ++ None ∷ [])) id)) (sym e)
        (elim (cases_eq id (length parts)) [
          | inl new ↦ subst (λ m. IsLeast (kid_test (parts ++ Some part ∷ []) q) (m + 1)
              (link_at (set_if (link_at last q) (Some (length parts)) (next ++ None ∷ [])) m)) (sym new)
              (subst (λ (o : Option ℕ). IsLeast (kid_test (parts ++ Some part ∷ []) q) (length parts + 1) o)
              (sym (link_if_other (link_at last q) (Some (length parts)) (next ++ None ∷ []) (length parts) (λ h. omega (arith, tail_inside (length parts) h))
              ∙ link_push next (length parts) ∙ get_or_past next (length parts) None (omega (arith, linked.next_length))))
              (least_above (kid_test parts q) _ (length parts) own_same own_new own_past))
          | inr old ↦ child_next id (link_at next id) refl (sym (own_same id old) ∙ ap (λ m. kid_test (parts ++ Some part ∷ []) m id) (sym e) ∙ kid)
        ])
    | inr other ↦
        let was : kid_test parts p id ≡ true = sym (kids_same p id other) ∙ kid in
        subst (λ (o : Option ℕ). IsLeast (kid_test (parts ++ Some part ∷ []) p) (id + 1) o)
        (sym (link_if_other (link_at last q) (Some (length parts)) (next ++ None ∷ []) id
        (λ h. other (one_parent parts p q id was ((linked.lasts q).passes id h))) ∙ link_push next id))
        (least_same (kid_test parts p) _ (id + 1) _ (λ j above. kids_same p j other) (linked.nexts id p was))
  ]

  child_previouses : (id p : ℕ) → kid_test (parts ++ Some part ∷ []) p id ≡ true
      → IsGreatest (kid_test (parts ++ Some part ∷ []) p) id (link_at (slice_set (previous ++ None ∷ []) (length parts) (link_at last q)) id)
  child_previouses id p kid = elim (cases_eq id (length parts)) [
    | inl new ↦ elim (cases_eq p q) [
      | inl e ↦ subst (λ m. IsGreatest (kid_test (parts ++ Some part ∷ []) m) id (link_at (slice_set (previous ++ None ∷ []) (length parts) (link_at last q)) id)) (sym e)
          (subst (λ m. IsGreatest (kid_test (parts ++ Some part ∷ []) q) m (link_at (slice_set (previous ++ None ∷ []) (length parts) (link_at last q)) m)) (sym new)
          (subst (λ (o : Option ℕ). IsGreatest (kid_test (parts ++ Some part ∷ []) q) (length parts) o)
          (sym (link_set_same (previous ++ None ∷ []) (length parts) (link_at last q) (omega (arith, linked.previous_length, grown previous))))
          (greatest_same (kid_test parts q) _ (length parts) _ (λ j below. own_same j (λ h. omega (arith, h, below))) (linked.lasts q))))
      | inr other ↦ absurd (both_ways (kid_test parts p id) (kid_past parts p id (omega (arith, new))) (sym (kids_same p id other) ∙ kid))
    ]
    | inr old ↦
        let was : kid_test parts p id ≡ true = sym (kid_push_other parts part p id old) ∙ kid in
        subst (λ (o : Option ℕ). IsGreatest (kid_test (parts ++ Some part ∷ []) p) id o)
        (sym (link_set_other (previous ++ None ∷ []) (length parts) id (link_at last q) old ∙ link_push previous id))
        (greatest_same (kid_test parts p) _ id _ (λ j below. kid_push_other parts part p j (λ h. omega (arith, h, below, kid_inside parts p id was)))
        (linked.previouses id p was))
  ]

  child_parents : (id p : ℕ) → kid_test (parts ++ Some part ∷ []) p id ≡ true → p < length (parts ++ Some part ∷ [])
  child_parents id p kid = elim (cases_eq p q) [
    | inl e ↦ omega (arith, e, live, longer)
    | inr other ↦ omega (arith, longer, linked.parents id p (sym (kids_same p id other) ∙ kid))
  ]

  pub linked_child : IsLinked (parts ++ Some part ∷ []) (set_unless (link_at last q) q (Some (length parts)) (first ++ None ∷ []))
      (slice_set (last ++ None ∷ []) q (Some (length parts))) (slice_set (previous ++ None ∷ []) (length parts) (link_at last q))
      (set_if (link_at last q) (Some (length parts)) (next ++ None ∷ []))
  linked_child = record {
    first_length = omega (arith, linked.first_length, grown first, longer, length_unless (link_at last q) q (Some (length parts)) (first ++ None ∷ []));
    last_length = omega (arith, linked.last_length, grown last, longer, length-set (last ++ None ∷ []) q (Some (length parts)));
    previous_length = omega (arith, linked.previous_length, grown previous, longer, length-set (previous ++ None ∷ []) (length parts) (link_at last q));
    next_length = omega (arith, linked.next_length, grown next, longer, length_if (link_at last q) (Some (length parts)) (next ++ None ∷ []));
    parents = child_parents;
    firsts = child_firsts;
    lasts = child_lasts;
    nexts = child_nexts;
    previouses = child_previouses;
  }

kid_set_other : (parts : List (Option Part)) (p k j : ℕ) (part : Option Part) → (j ≡ k → ⊥) → kid_test (slice_set parts k part) p j ≡ kid_test parts p j
kid_set_other parts p k j part other = ap (is_kid p) (get_or-set_other parts k j part None other)

kid_set_gone : (parts : List (Option Part)) (p k : ℕ) → k < length parts → kid_test (slice_set parts k None) p k ≡ false
kid_set_gone parts p k inside = ap (is_kid p) (get_or-set_same parts k None None inside)

-- where it is no kid, all tests stay
kid_gone_same : (parts : List (Option Part)) (p k : ℕ) → k < length parts → kid_test parts p k ≡ false → (j : ℕ)
    → kid_test (slice_set parts k None) p j ≡ kid_test parts p j
kid_gone_same parts p k inside stranger j = elim (cases_eq j k) [
  | inl e ↦ ap (kid_test (slice_set parts k None) p) e ∙ kid_set_gone parts p k inside ∙ sym (ap (kid_test parts p) e ∙ stranger)
  | inr other ↦ kid_set_other parts p k j None other
]

-- the links stay where all tests do
pub linked_same : (parts parts' : List (Option Part)) (first last previous next : List (Option ℕ)) → length parts' ≡ length parts
    → ((p j : ℕ) → kid_test parts' p j ≡ kid_test parts p j) → IsLinked parts first last previous next → IsLinked parts' first last previous next
linked_same parts parts' first last previous next long same linked = record {
  first_length = linked.first_length ∙ sym long;
  last_length = linked.last_length ∙ sym long;
  previous_length = linked.previous_length ∙ sym long;
  next_length = linked.next_length ∙ sym long;
  parents = λ id p kid. omega (arith, long, linked.parents id p (sym (same p id) ∙ kid));
  firsts = λ id. least_same (kid_test parts id) _ 0 _ (λ j above. same id j) (linked.firsts id);
  lasts = λ id. subst (λ n. IsGreatest (kid_test parts' id) n (link_at last id)) (sym long)
      (greatest_same (kid_test parts id) _ (length parts) _ (λ j below. same id j) (linked.lasts id));
  nexts = λ id p kid. least_same (kid_test parts p) _ (id + 1) _ (λ j above. same p j) (linked.nexts id p (sym (same p id) ∙ kid));
  previouses = λ id p kid. greatest_same (kid_test parts p) _ id _ (λ j below. same p j) (linked.previouses id p (sym (same p id) ∙ kid));
}

-- a segment without a parent is forgotten
pub linked_orphan : (parts : List (Option Part)) (k : ℕ) (first last previous next : List (Option ℕ)) → k < length parts
    → ((p : ℕ) → kid_test parts p k ≡ false) → IsLinked parts first last previous next → IsLinked (slice_set parts k None) first last previous next
linked_orphan parts k first last previous next inside stranger linked =
    linked_same parts (slice_set parts k None) first last previous next (length-set parts k None)
    (λ p j. kid_gone_same parts p k inside (stranger p) j) linked

-- a kid is forgotten
module _ (parts : List (Option Part)) (first last previous next : List (Option ℕ)) (k q : ℕ)
    (kid : kid_test parts q k ≡ true) (linked : IsLinked parts first last previous next) where
  gone_inside : k < length parts
  gone_inside = kid_inside parts q k kid

  gone_same : (j : ℕ) → (j ≡ k → ⊥) → kid_test (slice_set parts k None) q j ≡ kid_test parts q j
  gone_same j other = kid_set_other parts q k j None other

  gone_fails : kid_test (slice_set parts k None) q k ≡ false
  gone_fails = kid_set_gone parts q k gone_inside

  others_same : (p j : ℕ) → (p ≡ q → ⊥) → kid_test (slice_set parts k None) p j ≡ kid_test parts p j
  others_same p j other = elim (cases_Bool (kid_test parts p k)) [
    | inl both ↦ absurd (other (one_parent parts p q k both kid))
    | inr stranger ↦ kid_gone_same parts p k gone_inside stranger j
  ]

  abbrev before : Option ℕ → Type 0
  before o = IsGreatest (kid_test parts q) k o

  first_gone : (pr o : Option ℕ) → link_at previous k ≡ pr → link_at first q ≡ o → q < length parts
      → IsLeast (kid_test (slice_set parts k None) q) 0 (link_at (set_unless pr q (link_at next k) first) q)
  first_gone None o is o_is live =
      subst (λ (x : Option ℕ). IsLeast (kid_test (slice_set parts k None) q) 0 x) (sym (link_set_same first q (link_at next k) (omega (arith, live, linked.first_length))))
      (least_over (kid_test parts q) _ k gone_same gone_fails kid 0 (link_at next k)
      (record {
        none = λ h. absurd (none_some k (Some k) refl h);
        least = λ m h. omega arith;
        passes = λ m h. ap (kid_test parts q) (sym (one_some k m h)) ∙ kid;
        before = λ m h j above below. (linked.previouses k q kid).none is j (omega (arith, below, one_some k m h));
      })
      (linked.nexts k q kid))
  first_gone (Some a) o is o_is live =
      least_kept (kid_test parts q) _ k gone_same gone_fails kid 0 (link_at first q)
      (λ h. both_ways (kid_test parts q a) ((linked.firsts q).before k h a (omega arith) ((linked.previouses k q kid).greatest a is))
      ((linked.previouses k q kid).passes a is))
      (linked.firsts q)

  last_gone : (nx : Option ℕ) → link_at next k ≡ nx → q < length parts
      → IsGreatest (kid_test (slice_set parts k None) q) (length parts) (link_at (set_unless nx q (link_at previous k) last) q)
  last_gone None is live =
      subst (λ (x : Option ℕ). IsGreatest (kid_test (slice_set parts k None) q) (length parts) x) (sym (link_set_same last q (link_at previous k) (omega (arith, live, linked.last_length))))
      (greatest_over (kid_test parts q) _ k gone_same gone_fails kid (length parts) (link_at previous k)
      (record {
        none = λ h. absurd (none_some k (Some k) refl h);
        greatest = λ m h. omega (arith, gone_inside, one_some k m h);
        passes = λ m h. ap (kid_test parts q) (sym (one_some k m h)) ∙ kid;
        after = λ m h j above below. (linked.nexts k q kid).none is j (omega (arith, above, one_some k m h));
      })
      (linked.previouses k q kid))
  last_gone (Some a) is live =
      greatest_kept (kid_test parts q) _ k gone_same gone_fails kid (length parts) (link_at last q)
      (λ h. both_ways (kid_test parts q a) ((linked.lasts q).after k h a (omega (arith, (linked.nexts k q kid).least a is)) (kid_inside parts q a ((linked.nexts k q kid).passes a is)))
      ((linked.nexts k q kid).passes a is))
      (linked.lasts q)

  next_gone : (id : ℕ) (o : Option ℕ) → link_at next id ≡ o → (id ≡ k → ⊥) → kid_test parts q id ≡ true
      → IsLeast (kid_test (slice_set parts k None) q) (id + 1) (link_at (set_if (link_at previous k) (link_at next k) next) id)
  next_gone id None is apart was =
      subst (λ (x : Option ℕ). IsLeast (kid_test (slice_set parts k None) q) (id + 1) x)
      (sym (link_if_other (link_at previous k) (link_at next k) next id
      (λ h. none_some k None (next_is (kid_test parts q) _ k gone_same gone_fails kid id None
      (subst before h (linked.previouses k q kid)) (subst (λ (x : Option ℕ). IsLeast (kid_test parts q) (id + 1) x) is (linked.nexts id q was))) refl) ∙ is))
      (least_kept (kid_test parts q) _ k gone_same gone_fails kid (id + 1) None (λ h. none_some k None h refl)
      (subst (λ (x : Option ℕ). IsLeast (kid_test parts q) (id + 1) x) is (linked.nexts id q was)))
  next_gone id (Some i) is apart was =
      let least : IsLeast (kid_test parts q) (id + 1) (Some i) = subst (λ (x : Option ℕ). IsLeast (kid_test parts q) (id + 1) x) is (linked.nexts id q was) in
      elim (cases_eq i k) [
        | inl e ↦
            let over : IsLeast (kid_test parts q) (id + 1) (Some k) = subst (λ n. IsLeast (kid_test parts q) (id + 1) (Some n)) e least in
            subst (λ (x : Option ℕ). IsLeast (kid_test (slice_set parts k None) q) (id + 1) x)
            (sym (link_if_same (link_at previous k) (link_at next k) next id
            (before_is (kid_test parts q) _ k gone_same gone_fails kid id (link_at previous k) was over (linked.previouses k q kid))
            (omega (arith, kid_inside parts q id was, linked.next_length))))
            (least_over (kid_test parts q) _ k gone_same gone_fails kid (id + 1) (link_at next k) over (linked.nexts k q kid))
        | inr other ↦
            subst (λ (x : Option ℕ). IsLeast (kid_test (slice_set parts k None) q) (id + 1) x)
            (sym (link_if_other (link_at previous k) (link_at next k) next id
            (λ h. other (one_some i k (next_is (kid_test parts q) _ k gone_same gone_fails kid id (Some i) (subst before h (linked.previouses k q kid)) least))) ∙ is))
            (least_kept (kid_test parts q) _ k gone_same gone_fails kid (id + 1) (Some i) (λ h. other (one_some i k h)) least)
      ]

  previous_gone : (id : ℕ) (o : Option ℕ) → link_at previous id ≡ o → (id ≡ k → ⊥) → kid_test parts q id ≡ true
      → IsGreatest (kid_test (slice_set parts k None) q) id (link_at (set_if (link_at next k) (link_at previous k) previous) id)
  previous_gone id None is apart was =
      subst (λ (x : Option ℕ). IsGreatest (kid_test (slice_set parts k None) q) id x)
      (sym (link_if_other (link_at next k) (link_at previous k) previous id
      (λ h. none_some k None (previous_is (kid_test parts q) _ k gone_same gone_fails kid id None
      (subst (λ (x : Option ℕ). IsLeast (kid_test parts q) (k + 1) x) h (linked.nexts k q kid))
      (subst (λ (x : Option ℕ). IsGreatest (kid_test parts q) id x) is (linked.previouses id q was))) refl) ∙ is))
      (greatest_kept (kid_test parts q) _ k gone_same gone_fails kid id None (λ h. none_some k None h refl)
      (subst (λ (x : Option ℕ). IsGreatest (kid_test parts q) id x) is (linked.previouses id q was)))
  previous_gone id (Some i) is apart was =
      let greatest : IsGreatest (kid_test parts q) id (Some i) = subst (λ (x : Option ℕ). IsGreatest (kid_test parts q) id x) is (linked.previouses id q was) in
      elim (cases_eq i k) [
        | inl e ↦
            let over : IsGreatest (kid_test parts q) id (Some k) = subst (λ n. IsGreatest (kid_test parts q) id (Some n)) e greatest in
            subst (λ (x : Option ℕ). IsGreatest (kid_test (slice_set parts k None) q) id x)
            (sym (link_if_same (link_at next k) (link_at previous k) previous id
            (after_is (kid_test parts q) _ k gone_same gone_fails kid id (link_at next k) was over (linked.nexts k q kid))
            (omega (arith, kid_inside parts q id was, linked.previous_length))))
            (greatest_over (kid_test parts q) _ k gone_same gone_fails kid id (link_at previous k) over (linked.previouses k q kid))
        | inr other ↦
            subst (λ (x : Option ℕ). IsGreatest (kid_test (slice_set parts k None) q) id x)
            (sym (link_if_other (link_at next k) (link_at previous k) previous id
            (λ h. other (one_some i k (previous_is (kid_test parts q) _ k gone_same gone_fails kid id (Some i)
            (subst (λ (x : Option ℕ). IsLeast (kid_test parts q) (k + 1) x) h (linked.nexts k q kid)) greatest))) ∙ is))
            (greatest_kept (kid_test parts q) _ k gone_same gone_fails kid id (Some i) (λ h. other (one_some i k h)) greatest)
      ]

  still : (p id : ℕ) → kid_test (slice_set parts k None) p id ≡ true → (id ≡ k → ⊥)
  still p id now e = both_ways (kid_test (slice_set parts k None) p id) (ap (kid_test (slice_set parts k None) p) e ∙ kid_set_gone parts p k gone_inside) now

  gone_nexts : (id p : ℕ) → kid_test (slice_set parts k None) p id ≡ true
      → IsLeast (kid_test (slice_set parts k None) p) (id + 1) (link_at (set_if (link_at previous k) (link_at next k) next) id)
  gone_nexts id p now =
      let was : kid_test parts p id ≡ true = sym (kid_set_other parts p k id None (still p id now)) ∙ now in
      elim (cases_eq p q) [
        | inl e ↦ subst (λ m. IsLeast (kid_test (slice_set parts k None) m) (id + 1) (link_at (set_if (link_at previous k) (link_at next k) next) id)) (sym e)
            (next_gone id (link_at next id) refl (still p id now) (ap (λ m. kid_test parts m id) (sym e) ∙ was))
        | inr other ↦ subst (λ (x : Option ℕ). IsLeast (kid_test (slice_set parts k None) p) (id + 1) x)
            (sym (link_if_other (link_at previous k) (link_at next k) next id
            (λ h. other (one_parent parts p q id was ((linked.previouses k q kid).passes id h)))))
            (least_same (kid_test parts p) _ (id + 1) _ (λ j above. others_same p j other) (linked.nexts id p was))
      ]

  gone_previouses : (id p : ℕ) → kid_test (slice_set parts k None) p id ≡ true
      → IsGreatest (kid_test (slice_set parts k None) p) id (link_at (set_if (link_at next k) (link_at previous k) previous) id)
  gone_previouses id p now =
      let was : kid_test parts p id ≡ true = sym (kid_set_other parts p k id None (still p id now)) ∙ now in
      elim (cases_eq p q) [
        | inl e ↦ subst (λ m. IsGreatest (kid_test (slice_set parts k None) m) id (link_at (set_if (link_at next k) (link_at previous k) previous) id)) (sym e)
            (previous_gone id (link_at previous id) refl (still p id now) (ap (λ m. kid_test parts m id) (sym e) ∙ was))
        | inr other ↦ subst (λ (x : Option ℕ). IsGreatest (kid_test (slice_set parts k None) p) id x)
            (sym (link_if_other (link_at next k) (link_at previous k) previous id
            (λ h. other (one_parent parts p q id was ((linked.nexts k q kid).passes id h)))))
            (greatest_same (kid_test parts p) _ id _ (λ j below. others_same p j other) (linked.previouses id p was))
      ]

  gone_firsts : q < length parts → (id : ℕ) → IsLeast (kid_test (slice_set parts k None) id) 0 (link_at (set_unless (link_at previous k) q (link_at next k) first) id)
  gone_firsts live id = elim (cases_eq id q) [
    | inl e ↦ subst (λ m. IsLeast (kid_test (slice_set parts k None) m) 0 (link_at (set_unless (link_at previous k) q (link_at next k) first) m)) (sym e)
        (first_gone (link_at previous k) (link_at first q) refl refl live)
    | inr other ↦ subst (λ (x : Option ℕ). IsLeast (kid_test (slice_set parts k None) id) 0 x)
        (sym (link_unless_other (link_at previous k) q (link_at next k) first id other))
        (least_same (kid_test parts id) _ 0 _ (λ j above. others_same id j other) (linked.firsts id))
  ]

  gone_lasts : q < length parts → (id : ℕ) → IsGreatest (kid_test (slice_set parts k None) id) (length (slice_set parts k None))
      (link_at (set_unless (link_at next k) q (link_at previous k) last) id)
  gone_lasts live id = subst (λ n. IsGreatest (kid_test (slice_set parts k None) id) n (link_at (set_unless (link_at next k) q (link_at previous k) last) id))
      (sym (length-set parts k None)) (elim (cases_eq id q) [
        | inl e ↦ subst (λ m. IsGreatest (kid_test (slice_set parts k None) m) (length parts) (link_at (set_unless (link_at next k) q (link_at previous k) last) m)) (sym e)
            (last_gone (link_at next k) refl live)
        | inr other ↦ subst (λ (x : Option ℕ). IsGreatest (kid_test (slice_set parts k None) id) (length parts) x)
            (sym (link_unless_other (link_at next k) q (link_at previous k) last id other))
            (greatest_same (kid_test parts id) _ (length parts) _ (λ j below. others_same id j other) (linked.lasts id))
      ])

  gone_parents : (id p : ℕ) → kid_test (slice_set parts k None) p id ≡ true → p < length (slice_set parts k None)
  gone_parents id p now = omega (
    arith,
    length-set parts k None,
    linked.parents id p (sym (kid_set_other parts p k id None (still p id now)) ∙ now),
  )

  pub linked_gone : IsLinked (slice_set parts k None) (set_unless (link_at previous k) q (link_at next k) first)
      (set_unless (link_at next k) q (link_at previous k) last) (set_if (link_at next k) (link_at previous k) previous)
      (set_if (link_at previous k) (link_at next k) next)
  linked_gone = record {
    first_length = length_unless (link_at previous k) q (link_at next k) first ∙ linked.first_length ∙ sym (length-set parts k None);
    last_length = length_unless (link_at next k) q (link_at previous k) last ∙ linked.last_length ∙ sym (length-set parts k None);
    previous_length = length_if (link_at next k) (link_at previous k) previous ∙ linked.previous_length ∙ sym (length-set parts k None);
    next_length = length_if (link_at previous k) (link_at next k) next ∙ linked.next_length ∙ sym (length-set parts k None);
    parents = gone_parents;
    firsts = gone_firsts (linked.parents k q kid);
    lasts = gone_lasts (linked.parents k q kid);
    nexts = gone_nexts;
    previouses = gone_previouses;
  }

-- the number that is found is that of the first kid from a number on
pub least_is : (test : ℕ → Bool) (start : ℕ) (one other : Option ℕ) → IsLeast test start one → IsLeast test start other → one ≡ other
least_is test start None None a b = refl
least_is test start None (Some m) a b = absurd (both_ways (test m) (a.none refl m (b.least m refl)) (b.passes m refl))
least_is test start (Some n) None a b = absurd (both_ways (test n) (b.none refl n (a.least n refl)) (a.passes n refl))
least_is test start (Some n) (Some m) a b = elim (cases_order n m) [
  | inl equal ↦ ap Some equal
  | inr apart ↦ elim apart [
    | inl below ↦ absurd (both_ways (test n) (b.before m refl n (a.least n refl) below) (a.passes n refl))
    | inr above ↦ absurd (both_ways (test m) (a.before n refl m (b.least m refl) above) (b.passes m refl))
  ]
]

-- the first of the kids of a list that begins at a number
pub kids_least : (id start : ℕ) (later : List (Option Part)) (test : ℕ → Bool) → ((j : ℕ) → test (start + j) ≡ is_kid id (part_at later j))
    → IsLeast test start (first_of (kids_from id start later))
kids_least id start [] test same = record {
  none = λ h j above. subst (λ n. test n ≡ false) (plus_minus start j above) (same (j - start));
  least = λ m h. absurd (none_some m None h refl);
  passes = λ m h. absurd (none_some m None h refl);
  before = λ m h. absurd (none_some m None h refl);
}
  where
    plus_minus : (a b : ℕ) → a ≤ b → a + (b - a) ≡ b
    plus_minus a b h = omega (arith, h)
kids_least id start (part ∷ later) test same =
    by_test (is_kid id part) refl (kids_least id (start + 1) later test (λ j. ap test (omega arith) ∙ same (suc j)))
  where
    here : test start ≡ is_kid id part
    here = ap test (omega arith) ∙ same 0

    by_test : (b : Bool) → is_kid id part ≡ b → IsLeast test (start + 1) (first_of (kids_from id (start + 1) later))
        → IsLeast test start (first_of (kids_from id start (part ∷ later)))
    by_test true is rest = subst (λ (o : Option ℕ). IsLeast test start o) (sym (ap first_of (cond-true (is_kid id part) _ _ is)))
        (record {
          none = λ h. absurd (none_some start (Some start) refl h);
          least = λ m h. omega (arith, one_some start m h);
          passes = λ m h. ap test (sym (one_some start m h)) ∙ here ∙ is;
          before = λ m h j above below. absurd (omega (arith, one_some start m h, above, below));
        })
    by_test false is rest = subst (λ (o : Option ℕ). IsLeast test start o) (sym (ap first_of (cond-false (is_kid id part) _ _ is)))
        (record {
          none = λ h j above. split j above (λ past. rest.none h j past);
          least = λ m h. omega (arith, rest.least m h);
          passes = rest.passes;
          before = λ m h j above below. split j above (λ past. rest.before m h j past below);
        })
      where
        split : (j : ℕ) → start ≤ j → (start + 1 ≤ j → test j ≡ false) → test j ≡ false
        split j above later' = elim (cases_eq j start) [
          | inl e ↦ ap test e ∙ here ∙ is
          | inr other ↦ later' (omega (arith, above, other))
        ]
