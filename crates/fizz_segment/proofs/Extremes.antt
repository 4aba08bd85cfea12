-- The least and the greatest number that pass a test, when one more number passes or one no longer does.
use Rattle.std.proofs.Common.{◌≡◌, ℕ, ◌+◌, ◌≤◌, ◌<◌, Bool, true, false, Option, Some, None, inl, inr, refl, sym, ap, ◌∙◌, arith}
use Rattle.std.proofs.lemmas.Bool.{both_ways, cases_eq, cases_lt, cases_order}
use Rattle.fizz_segment.specs.Nearest.{IsGreatest, IsLeast}

pub one_some : (n m : ℕ) → Some n ≡ Some m → n ≡ m
one_some n m h = cc

pub none_some : (n : ℕ) (found : Option ℕ) → found ≡ Some n → found ≡ None → ⊥
none_some n found some none = cc

pub least_same : (test test' : ℕ → Bool) (start : ℕ) (found : Option ℕ) → ((j : ℕ) → start ≤ j → test' j ≡ test j) → IsLeast test start found
    → IsLeast test' start found
least_same test test' start found same least = record {
  none = λ h j past. same j past ∙ least.none h j past;
  least = least.least;
  passes = λ n h. same n (least.least n h) ∙ least.passes n h;
  before = λ n h j past below. same j past ∙ least.before n h j past below;
}

pub greatest_same : (test test' : ℕ → Bool) (stop : ℕ) (found : Option ℕ) → ((j : ℕ) → j < stop → test' j ≡ test j) → IsGreatest test stop found
    → IsGreatest test' stop found
greatest_same test test' stop found same greatest = record {
  none = λ h j below. same j below ∙ greatest.none h j below;
  greatest = greatest.greatest;
  passes = λ n h. same n (greatest.greatest n h) ∙ greatest.passes n h;
  after = λ n h j past below. same j below ∙ greatest.after n h j past below;
}

-- the bound goes up over one that doesn't pass
pub greatest_up : (test : ℕ → Bool) (stop : ℕ) (found : Option ℕ) → test stop ≡ false → IsGreatest test stop found
    → IsGreatest test (stop + 1) found
greatest_up test stop found fails greatest = record {
  none = λ h j below. split j below (λ inside. greatest.none h j inside);
  greatest = λ n h. omega (arith, greatest.greatest n h);
  passes = greatest.passes;
  after = λ n h j past below. split j below (λ inside. greatest.after n h j past inside);
}
  where
    split : (j : ℕ) → j < stop + 1 → (j < stop → test j ≡ false) → test j ≡ false
    split j below rest = elim (cases_lt j stop) [
      | inl inside ↦ rest inside
      | inr past ↦ ap test (omega (arith, past, below)) ∙ fails
    ]

-- the last of all passes
pub greatest_last : (test : ℕ → Bool) (n : ℕ) → test n ≡ true → IsGreatest test (n + 1) (Some n)
greatest_last test n passes = record {
  none = λ h. absurd (none_some n (Some n) refl h);
  greatest = λ m h. omega (arith, one_some n m h);
  passes = λ m h. ap test (sym (one_some n m h)) ∙ passes;
  after = λ m h j past below. absurd (omega (arith, one_some n m h, past, below));
}

-- one more number passes, above all others
module _ (test test' : ℕ → Bool) (n : ℕ) (same : (j : ℕ) → (j ≡ n → ⊥) → test' j ≡ test j) (passes : test' n ≡ true)
    (past : (j : ℕ) → n ≤ j → test j ≡ false) where
  pub least_found : (start i : ℕ) → IsLeast test start (Some i) → IsLeast test' start (Some i)
  least_found start i least = record {
    none = λ h. absurd (none_some i (Some i) refl h);
    least = least.least;
    passes = λ m h. same m (λ e. both_ways (test m) (past m (omega (arith, e))) (least.passes m h)) ∙ least.passes m h;
    before = λ m h j above below. same j (λ e. both_ways (test m) (past m (omega (arith, e, below))) (least.passes m h)) ∙ least.before m h j above below;
  }

  pub least_new : (start : ℕ) → start ≤ n → IsLeast test start None → IsLeast test' start (Some n)
  least_new start low least = record {
    none = λ h. absurd (none_some n (Some n) refl h);
    least = λ m h. omega (arith, one_some n m h, low);
    passes = λ m h. ap test' (sym (one_some n m h)) ∙ passes;
    before = λ m h j above below. same j (λ e. omega (arith, one_some n m h, e, below)) ∙ least.none refl j above;
  }

  -- above it none passes
  pub least_above : IsLeast test' (n + 1) None
  least_above = record {
    none = λ h j above. same j (λ e. omega (arith, e, above)) ∙ past j (omega (arith, above));
    least = λ m h. absurd (none_some m None h refl);
    passes = λ m h. absurd (none_some m None h refl);
    before = λ m h. absurd (none_some m None h refl);
  }

  -- what has none after it is the greatest
  pub greatest_is : (k : ℕ) (found : Option ℕ) → test k ≡ true → IsLeast test (k + 1) None → IsGreatest test n found → found ≡ Some k
  greatest_is k found kid none greatest = by_found found refl
    where
      inside : k < n
      inside = elim (cases_lt k n) [
        | inl below ↦ below
        | inr above ↦ absurd (both_ways (test k) (past k above) kid)
      ]

      by_found : (o : Option ℕ) → found ≡ o → o ≡ Some k
      by_found None is = absurd (both_ways (test k) (greatest.none is k inside) kid)
      by_found (Some l) is = elim (cases_order l k) [
        | inl equal ↦ ap Some equal
        | inr apart ↦ elim apart [
          | inl below ↦ absurd (both_ways (test k) (greatest.after l is k below inside) kid)
          | inr above ↦ absurd (both_ways (test l) (none.none refl l (omega (arith, above))) (greatest.passes l is))
        ]
      ]

  -- what has one after it isn't the greatest
  pub greatest_not : (k i : ℕ) (found : Option ℕ) → IsLeast test (k + 1) (Some i) → IsGreatest test n found → found ≡ Some k → ⊥
  greatest_not k i found next greatest is =
      both_ways (test i) (greatest.after k is i (omega (arith, next.least i refl)) inside) (next.passes i refl)
    where
      inside : i < n
      inside = elim (cases_lt i n) [
        | inl below ↦ below
        | inr above ↦ absurd (both_ways (test i) (past i above) (next.passes i refl))
      ]

-- one number no longer passes
module _ (test test' : ℕ → Bool) (gone : ℕ) (same : (j : ℕ) → (j ≡ gone → ⊥) → test' j ≡ test j) (fails : test' gone ≡ false)
    (was : test gone ≡ true) where
  pub least_kept : (start : ℕ) (found : Option ℕ) → (found ≡ Some gone → ⊥) → IsLeast test start found → IsLeast test' start found
  least_kept start found other least = record {
    none = λ h j above. still j (least.none h j above);
    least = least.least;
    passes = λ n h. same n (λ e. other (h ∙ ap Some e)) ∙ least.passes n h;
    before = λ n h j above below. still j (least.before n h j above below);
  }
    where
      still : (j : ℕ) → test j ≡ false → test' j ≡ false
      still j no_kid = elim (cases_eq j gone) [
        | inl e ↦ ap test' e ∙ fails
        | inr apart ↦ same j apart ∙ no_kid
      ]

  pub greatest_kept : (stop : ℕ) (found : Option ℕ) → (found ≡ Some gone → ⊥) → IsGreatest test stop found → IsGreatest test' stop found
  greatest_kept stop found other greatest = record {
    none = λ h j below. still j (greatest.none h j below);
    greatest = greatest.greatest;
    passes = λ n h. same n (λ e. other (h ∙ ap Some e)) ∙ greatest.passes n h;
    after = λ n h j above below. still j (greatest.after n h j above below);
  }
    where
      still : (j : ℕ) → test j ≡ false → test' j ≡ false
      still j no_kid = elim (cases_eq j gone) [
        | inl e ↦ ap test' e ∙ fails
        | inr apart ↦ same j apart ∙ no_kid
      ]

  -- where it was the least, the next one is
  pub least_over : (start : ℕ) (next : Option ℕ) → IsLeast test start (Some gone) → IsLeast test (gone + 1) next → IsLeast test' start next
  least_over start next least rest = record {
    none = λ h j above. split j above (λ past. rest.none h j past);
    least = λ n h. omega (arith, rest.least n h, least.least gone refl);
    passes = λ n h. same n (λ e. omega (arith, e, rest.least n h)) ∙ rest.passes n h;
    before = λ n h j above below. split j above (λ past. rest.before n h j past below);
  }
    where
      split : (j : ℕ) → start ≤ j → (gone + 1 ≤ j → test j ≡ false) → test' j ≡ false
      split j above later = elim (cases_order j gone) [
        | inl e ↦ ap test' e ∙ fails
        | inr apart ↦ elim apart [
          | inl below ↦ same j (λ e. omega (arith, e, below)) ∙ least.before gone refl j above below
          | inr past ↦ same j (λ e. omega (arith, e, past)) ∙ later (omega (arith, past))
        ]
      ]

  pub greatest_over : (stop : ℕ) (previous : Option ℕ) → IsGreatest test stop (Some gone) → IsGreatest test gone previous → IsGreatest test' stop previous
  greatest_over stop previous greatest rest = record {
    none = λ h j below. split j below (λ past. rest.none h j past);
    greatest = λ n h. omega (arith, rest.greatest n h, greatest.greatest gone refl);
    passes = λ n h. same n (λ e. omega (arith, e, rest.greatest n h)) ∙ rest.passes n h;
    after = λ n h j above below. split j below (λ past. rest.after n h j above past);
  }
    where
      split : (j : ℕ) → j < stop → (j < gone → test j ≡ false) → test' j ≡ false
      split j below earlier = elim (cases_order j gone) [
        | inl e ↦ ap test' e ∙ fails
        | inr apart ↦ elim apart [
          | inl before ↦ same j (λ e. omega (arith, e, before)) ∙ earlier before
          | inr past ↦ same j (λ e. omega (arith, e, past)) ∙ greatest.after gone refl j past below
        ]
      ]

  -- the one whose next one it is, is the one before it
  pub before_is : (k : ℕ) (previous : Option ℕ) → test k ≡ true → IsLeast test (k + 1) (Some gone) → IsGreatest test gone previous → previous ≡ Some k
  before_is k previous kid next greatest = by_found previous refl
    where
      by_found : (o : Option ℕ) → previous ≡ o → o ≡ Some k
      by_found None is = absurd (both_ways (test k) (greatest.none is k (omega (arith, next.least gone refl))) kid)
      by_found (Some a) is = elim (cases_order a k) [
        | inl equal ↦ ap Some equal
        | inr apart ↦ elim apart [
          | inl below ↦ absurd (both_ways (test k) (greatest.after a is k below (omega (arith, next.least gone refl))) kid)
          | inr above ↦ absurd (both_ways (test a) (next.before gone refl a (omega (arith, above)) (greatest.greatest a is)) (greatest.passes a is))
        ]
      ]

  -- and the one before it has it as its next one
  pub next_is : (k : ℕ) (next : Option ℕ) → IsGreatest test gone (Some k) → IsLeast test (k + 1) next → next ≡ Some gone
  next_is k next previous least = by_found next refl
    where
      by_found : (o : Option ℕ) → next ≡ o → o ≡ Some gone
      by_found None is = absurd (both_ways (test gone) (least.none is gone (omega (arith, previous.greatest k refl))) was)
      by_found (Some i) is = elim (cases_order i gone) [
        | inl equal ↦ ap Some equal
        | inr apart ↦ elim apart [
          | inl below ↦ absurd (both_ways (test i) (previous.after k refl i (omega (arith, least.least i is)) below) (least.passes i is))
          | inr above ↦ absurd (both_ways (test gone) (least.before i is gone (omega (arith, previous.greatest k refl)) above) was)
        ]
      ]

  -- the same, from the other side
  pub after_is : (k : ℕ) (next : Option ℕ) → test k ≡ true → IsGreatest test k (Some gone) → IsLeast test (gone + 1) next → next ≡ Some k
  after_is k next kid previous least = by_found next refl
    where
      by_found : (o : Option ℕ) → next ≡ o → o ≡ Some k
      by_found None is = absurd (both_ways (test k) (least.none is k (omega (arith, previous.greatest gone refl))) kid)
      by_found (Some i) is = elim (cases_order i k) [
        | inl equal ↦ ap Some equal
        | inr apart ↦ elim apart [
          | inl below ↦ absurd (both_ways (test i) (previous.after gone refl i (omega (arith, least.least i is)) below) (least.passes i is))
          | inr above ↦ absurd (both_ways (test k) (least.before i is k (omega (arith, previous.greatest gone refl)) above) kid)
        ]
      ]

  pub previous_is : (k : ℕ) (previous : Option ℕ) → IsLeast test (gone + 1) (Some k) → IsGreatest test k previous → previous ≡ Some gone
  previous_is k previous next greatest = by_found previous refl
    where
      by_found : (o : Option ℕ) → previous ≡ o → o ≡ Some gone
      by_found None is = absurd (both_ways (test gone) (greatest.none is gone (omega (arith, next.least k refl))) was)
      by_found (Some a) is = elim (cases_order a gone) [
        | inl equal ↦ ap Some equal
        | inr apart ↦ elim apart [
          | inl below ↦ absurd (both_ways (test gone) (greatest.after a is gone below (omega (arith, next.least k refl))) was)
          | inr above ↦ absurd (both_ways (test a) (next.before k refl a (omega (arith, above)) (greatest.greatest a is)) (greatest.passes a is))
        ]
      ]
