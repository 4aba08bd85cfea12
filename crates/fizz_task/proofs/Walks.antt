-- A list that is gone through from its first id on, while some of its ids leave it.
use Rattle.std.proofs.Common.{◌≡◌, ℕ, ◌+◌, ◌≤◌, ◌<◌, eqb, Some, List, [], ◌∷◌, ◌++◌, inl, inr, refl, sym, ap, ◌∙◌, append_assoc, arith}
use Rattle.std.proofs.lemmas.Bool.{cases_eq, cond-false, cond-true, eq-eqb, ne_eqb}
use Rattle.std.proofs.lemmas.List.Elements.{filter-append}
use Rattle.id_lists.specs.Lists.{after, first_of, one, times}
use Rattle.id_lists.specs.Calls.{list_without}
use Rattle.id_lists.proofs.Counts.{drops_same, one_other, one_same, times-append, without_absent}
use Rattle.id_lists.proofs.Chains.{IsSplit}
use Rattle.fizz_task.specs.Indexed.{rest}

after_front : (id : ℕ) (front back : List ℕ) → times id front ≡ 0 → after id (front ++ id ∷ back) ≡ back
after_front id [] back absent = cond-true (eqb id id) _ _ (eq-eqb id id refl)
after_front id (n ∷ front) back absent = elim (cases_eq id n) [
  | inl same ↦ absurd (omega (arith, one_same id n same))
  | inr other ↦ cond-false (eqb id n) _ _ (ne_eqb id n other) ∙ after_front id front back (omega arith)
]

pub rest_all : (ids : List ℕ) → rest (first_of ids) ids ≡ ids
rest_all [] = refl
rest_all (n ∷ ids) = ap (λ (l : List ℕ). n ∷ l) (cond-true (eqb n n) _ _ (eq-eqb n n refl))

-- what is left from the first of the back on
rest_back : (front back : List ℕ) → ((n : ℕ) → times n (front ++ back) ≤ 1) → rest (first_of back) (front ++ back) ≡ back
rest_back front [] once = refl
rest_back front (n ∷ back) once =
    ap (λ (l : List ℕ). n ∷ l) (after_front n front back (omega (arith, once n, times-append n front (n ∷ back), one_same n n refl)))

module _ (id : ℕ) (ids : List ℕ) (once : (n : ℕ) → times n ids ≤ 1) (split : IsSplit id ids) where
  all_once : (n : ℕ) → times n split.front + (one (eqb n id) + times n split.back) ≤ 1
  all_once n = omega (arith, once n, ap (times n) split.is, times-append n split.front (id ∷ split.back))

  pub rest_is : rest (Some id) ids ≡ id ∷ split.back
  rest_is = ap (λ (l : List ℕ). id ∷ after id l) split.is
      ∙ ap (λ (l : List ℕ). id ∷ l) (after_front id split.front split.back (omega (arith, all_once id, one_same id id refl)))

  pub rest_stays : rest (first_of split.back) ids ≡ split.back
  rest_stays =
      ap (rest (first_of split.back)) (split.is ∙ sym (append_assoc split.front (id ∷ []) split.back))
      ∙ rest_back (split.front ++ id ∷ []) split.back
      (λ n. omega (arith, all_once n, times-append n (split.front ++ id ∷ []) split.back, times-append n split.front (id ∷ [])))

  pub without_is : list_without id ids ≡ split.front ++ split.back
  without_is = ap (list_without id) split.is ∙ filter-append _ split.front (id ∷ split.back)
      ∙ ap (λ (l : List ℕ). l ++ list_without id (id ∷ split.back)) (without_absent id split.front (omega (arith, all_once id, one_same id id refl)))
      ∙ ap (λ (l : List ℕ). split.front ++ l)
      (drops_same id id split.back refl ∙ without_absent id split.back (omega (arith, all_once id, one_same id id refl)))

  pub rest_goes : rest (first_of split.back) (list_without id ids) ≡ split.back
  rest_goes = ap (rest (first_of split.back)) without_is
      ∙ rest_back split.front split.back (λ n. omega (arith, all_once n, times-append n split.front split.back))

  pub back_stays : (n : ℕ) → 0 < times n split.back → 0 < times n ids
  back_stays n stands = omega (arith, stands, ap (times n) split.is, times-append n split.front (id ∷ split.back))

  pub back_goes : (n : ℕ) → 0 < times n split.back → 0 < times n (list_without id ids)
  back_goes n stands = omega (arith, stands, ap (times n) without_is, times-append n split.front split.back)

  -- of those from the id on, the others stand behind it
  pub behind : (n : ℕ) → (n ≡ id → ⊥) → 0 < times n (rest (Some id) ids) → 0 < times n split.back
  behind n other stands = omega (arith, stands, ap (times n) rest_is, one_other n id other)
