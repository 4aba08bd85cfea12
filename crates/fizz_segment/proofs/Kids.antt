-- The kids of a segment, by their numbers.
use Rattle.std.proofs.Common.{◌≡◌, ℕ, zero, suc, ◌+◌, ◌<◌, true, eqb, Option, Some, None, List, [], ◌∷◌, length, drop, get_or, inl, inr, refl, sym, ap, ◌∙◌, subst, arith}
use Rattle.std.proofs.lemmas.Bool.{cond-true, cond-false, cases_Bool, cases_lt, eq-eqb, false≢true, ne_eqb}
use Rattle.std.specs.Option.{is_some}
use Rattle.std.proofs.lemmas.List.{get_or_past}
use Rattle.fizz_segment.specs.declared.segment.Part.{Part}
use Rattle.fizz_segment.specs.Tree.{after, first_of, is_kid, is_parent, kids_from, kids_of}

later_kid : (id first i : ℕ) (parts : List (Option Part))
    → after (first + 1 + i) (kids_from id (first + 1) parts) ≡ kids_from id (first + 1 + i + 1) (drop (suc i) parts)
    → after (first + suc i) (kids_from id (first + 1) parts) ≡ kids_from id (first + suc i + 1) (drop (suc i) parts)
later_kid id first i parts found = subst
    (λ n. after n (kids_from id (first + 1) parts) ≡ kids_from id (n + 1) (drop (suc i) parts)) (omega arith) found

-- after a kid come those of greater numbers
pub after_kid : (id first : ℕ) (parts : List (Option Part)) (i : ℕ) → i < length parts → is_kid id (get_or parts i None) ≡ true
    → after (first + i) (kids_from id first parts) ≡ kids_from id (first + i + 1) (drop (suc i) parts)
after_kid id first [] i inside kid = absurd (omega arith)
after_kid id first (part ∷ parts) zero inside kid =
    ap (after (first + 0)) (cond-true (is_kid id part) _ _ kid)
    ∙ cond-true (eqb (first + 0) first) _ _ (eq-eqb (first + 0) first (omega arith))
    ∙ ap (λ n. kids_from id n parts) (omega arith)
after_kid id first (part ∷ parts) (suc i) inside kid =
    let found : after (first + suc i) (kids_from id (first + 1) parts) ≡ kids_from id (first + suc i + 1) (drop (suc i) parts) =
    later_kid id first i parts (after_kid id (first + 1) parts i (omega arith) kid) in
    elim (cases_Bool (is_kid id part)) [
      | inl one ↦ ap (after (first + suc i)) (cond-true (is_kid id part) _ _ one)
          ∙ cond-false (eqb (first + suc i) first) _ _ (ne_eqb (first + suc i) first (λ e. omega (arith, e))) ∙ found
      | inr none ↦ ap (after (first + suc i)) (cond-false (is_kid id part) _ _ none) ∙ found
    ]

after_own : (id : ℕ) (parts : List (Option Part)) (i : ℕ) → i < length parts → is_kid id (get_or parts i None) ≡ true
    → kids_from id (i + 1) (drop (i + 1) parts) ≡ after i (kids_of parts id)
after_own id parts i below kid =
    let one : suc i ≡ i + 1 = omega arith in
    let none : 0 + i ≡ i = omega arith in
    let found : after (0 + i) (kids_of parts id) ≡ kids_from id (0 + i + 1) (drop (i + 1) parts) =
    subst (λ n. after (0 + i) (kids_of parts id) ≡ kids_from id (0 + i + 1) (drop n parts)) one (after_kid id 0 parts i below kid) in
    sym (subst (λ n. after n (kids_of parts id) ≡ kids_from id (n + 1) (drop (i + 1) parts)) none found)

pub inside : (parts : List (Option Part)) (id : ℕ) (part : Part) → get_or parts id None ≡ Some part → id < length parts
inside parts id part live = elim (cases_lt id (length parts)) [
  | inl below ↦ below
  | inr past ↦ absurd (apart (get_or parts id None) part live (get_or_past parts id None past))
]
  where
    apart : (found : Option Part) (part : Part) → found ≡ Some part → found ≡ None → ⊥
    apart found part is none = cc

-- what follows a kid of this parent
pub following : (parts : List (Option Part)) (id parent : ℕ) (part : Part) → get_or parts id None ≡ Some part → part.parent ≡ Some parent
    → first_of (kids_from parent (id + 1) (drop (id + 1) parts)) ≡ first_of (after id (kids_of parts parent))
following parts id parent part live own =
    let kid : is_kid parent (get_or parts id None) ≡ true =
    ap (is_kid parent) live ∙ ap (is_parent parent) own ∙ eq-eqb parent parent refl in
    ap first_of (after_own parent parts id (inside parts id part live) kid)

pub live_inside : (parts : List (Option Part)) (id : ℕ) → is_some (get_or parts id None) ≡ true → id < length parts
live_inside parts id live = by_part (get_or parts id None) refl live
  where
    by_part : (o : Option Part) → get_or parts id None ≡ o → is_some o ≡ true → id < length parts
    by_part None is some = absurd (false≢true some)
    by_part (Some part) is some = inside parts id part is
