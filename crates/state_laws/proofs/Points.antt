-- What stands at a place of a list, or of two lists, after a change.
use Rattle.std.proofs.Common.{◌≡◌, ℕ, ◌+◌, ◌<◌, List, [], ◌∷◌, ◌++◌, length, get_or, slice_set, inl, inr, sym, ap, subst, ◌∙◌, arith}
use Rattle.std.proofs.lemmas.Bool.{cases_eq, cases_lt}
use Rattle.std.proofs.lemmas.List.{get_or_past, get_or-set_same, get_or-set_other, get_or_append_left, get_or_push, length-append}

module _ {X : Type 0} where
  pub at_set : (xs : List X) (k : ℕ) (x d : X) (j : ℕ) → k < length xs → j ≡ k → get_or (slice_set xs k x) j d ≡ x
  at_set xs k x d j inside same = ap (λ i. get_or (slice_set xs k x) i d) same ∙ get_or-set_same xs k x d inside

  pub at_push : (xs : List X) (x d : X) (j : ℕ) → (j ≡ length xs → ⊥) → get_or (xs ++ x ∷ []) j d ≡ get_or xs j d
  at_push xs x d j other = elim (cases_lt j (length xs)) [
    | inl below ↦ get_or_append_left xs (x ∷ []) d j below
    | inr past ↦ get_or_past (xs ++ x ∷ []) j d (omega (arith, length-append xs (x ∷ []), other))
        ∙ sym (get_or_past xs j d past)
  ]

  -- a fact of what stands at a place, after a write and after a push
  pub set_reads : (fact : X → Type 0) (xs : List X) (k : ℕ) (x d : X) (j : ℕ) → k < length xs → (j ≡ k → fact x)
      → ((j ≡ k → ⊥) → fact (get_or xs j d)) → fact (get_or (slice_set xs k x) j d)
  set_reads fact xs k x d j inside own others = elim (cases_eq j k) [
    | inl same ↦ subst fact (sym (at_set xs k x d j inside same)) (own same)
    | inr other ↦ subst fact (sym (get_or-set_other xs k j x d other)) (others other)
  ]

  pub push_reads : (fact : X → Type 0) (xs : List X) (x d : X) (j : ℕ) → (j ≡ length xs → fact x)
      → ((j ≡ length xs → ⊥) → fact (get_or xs j d)) → fact (get_or (xs ++ x ∷ []) j d)
  push_reads fact xs x d j own others = elim (cases_eq j (length xs)) [
    | inl same ↦ subst fact (sym (get_or_push xs x d j (sym same))) (own same)
    | inr other ↦ subst fact (sym (at_push xs x d j other)) (others other)
  ]

  -- what isn't the default stands within
  pub inside : (fact : X → Type 0) (xs : List X) (d : X) (k : ℕ) → (fact d → ⊥) → fact (get_or xs k d) → k < length xs
  inside fact xs d k never holds = elim (cases_lt k (length xs)) [
    | inl below ↦ below
    | inr past ↦ absurd (never (subst fact (get_or_past xs k d past) holds))
  ]

  pub length-push : (xs : List X) (x : X) → length (xs ++ x ∷ []) ≡ length xs + 1
  length-push xs x = length-append xs (x ∷ [])

module _ {X Y : Type 0} where
  -- a fact of what stands at a place of two lists, where both are written at one place, and where both get one more
  pub both_set : (fact : X → Y → Type 0) (xs : List X) (ys : List Y) (k : ℕ) (x d : X) (y e : Y) (j : ℕ)
      → k < length xs → k < length ys → (j ≡ k → fact x y) → ((j ≡ k → ⊥) → fact (get_or xs j d) (get_or ys j e))
      → fact (get_or (slice_set xs k x) j d) (get_or (slice_set ys k y) j e)
  both_set fact xs ys k x d y e j in_xs in_ys own others = elim (cases_eq j k) [
    | inl same ↦ subst (λ z. fact z (get_or (slice_set ys k y) j e)) (sym (at_set xs k x d j in_xs same))
        (subst (fact x) (sym (at_set ys k y e j in_ys same)) (own same))
    | inr other ↦ subst (λ z. fact z (get_or (slice_set ys k y) j e)) (sym (get_or-set_other xs k j x d other))
        (subst (fact (get_or xs j d)) (sym (get_or-set_other ys k j y e other)) (others other))
  ]

  pub both_push : (fact : X → Y → Type 0) (xs : List X) (ys : List Y) (x d : X) (y e : Y) (j : ℕ)
      → length ys ≡ length xs → (j ≡ length xs → fact x y)
      → ((j ≡ length xs → ⊥) → fact (get_or xs j d) (get_or ys j e))
      → fact (get_or (xs ++ x ∷ []) j d) (get_or (ys ++ y ∷ []) j e)
  both_push fact xs ys x d y e j even own others = elim (cases_eq j (length xs)) [
    | inl same ↦ subst (λ z. fact z (get_or (ys ++ y ∷ []) j e)) (sym (get_or_push xs x d j (sym same)))
        (subst (fact x) (sym (get_or_push ys y e j (even ∙ sym same))) (own same))
    | inr other ↦ subst (λ z. fact z (get_or (ys ++ y ∷ []) j e)) (sym (at_push xs x d j other))
        (subst (fact (get_or xs j d)) (sym (at_push ys y e j (λ same. other (same ∙ even)))) (others other))
  ]
