-- States by number, and how often a number stands in a queue.
use Rattle.std.proofs.Common.{◌≡◌, ◌≢◌, ℕ, zero, suc, ◌+◌, ◌≤◌, ◌<◌, Bool, true, false, cond, eqb, List, [], ◌∷◌, ◌++◌, length, filter, get_or, slice_set, inl, inr, refl, sym, ap, ◌∙◌, subst, arith}
use Rattle.std.proofs.lemmas.Bool.{cond-true, cond-false, cases_Bool, cases_eq, cases_lt, eq-eqb, ne_eqb, both_ways}
use Rattle.std.proofs.lemmas.List.{get_or_past, get_or-set_same, get_or-set_other, get_or_append_left, get_or_push, length-append}
use Rattle.fizz_task.specs.declared.state.State.{State}
use Rattle.fizz_task.specs.declared.state.State.TheVariants.{Gone, Runnable, Claimed, Waiting}
use Rattle.fizz_task.specs.Board.{count_of, is_claimed, is_runnable, is_waiting, one, state_at, times}

pub times-push : (n m : ℕ) (ms : List ℕ) → times n (ms ++ m ∷ []) ≡ times n ms + one (eqb n m)
times-push n m [] = omega arith
times-push n m (k ∷ ms) = omega (arith, times-push n m ms)

pub times-append : (n : ℕ) (ms ks : List ℕ) → times n (ms ++ ks) ≡ times n ms + times n ks
times-append n [] ks = omega arith
times-append n (m ∷ ms) ks = omega (arith, times-append n ms ks)

pub one_same : (n : ℕ) → one (eqb n n) ≡ 1
one_same n = ap one (eq-eqb n n refl)

pub one_other : (n m : ℕ) → n ≢ m → one (eqb n m) ≡ 0
one_other n m other = ap one (ne_eqb n m other)

-- a filter keeps each number or none of it
pub times-filter : (test : ℕ → Bool) (n : ℕ) (ms : List ℕ) → times n (filter test ms) ≡ cond (test n) (times n ms) 0
times-filter test n [] = elim (cases_Bool (test n)) [
  | inl passes ↦ sym (cond-true (test n) 0 0 passes)
  | inr fails ↦ sym (cond-false (test n) 0 0 fails)
]
times-filter test n (m ∷ ms) = elim (cases_Bool (test m)) [
  | inl kept ↦ ap (times n) (cond-true (test m) _ _ kept) ∙ with_one test n m ms kept (times-filter test n ms)
  | inr lost ↦ ap (times n) (cond-false (test m) _ _ lost) ∙ without_one test n m ms lost (times-filter test n ms)
]
  where
    with_one : (test : ℕ → Bool) (n m : ℕ) (ms : List ℕ) → test m ≡ true → times n (filter test ms) ≡ cond (test n) (times n ms) 0
        → one (eqb n m) + times n (filter test ms) ≡ cond (test n) (one (eqb n m) + times n ms) 0
    with_one test n m ms kept rest = elim (cases_Bool (test n)) [
      | inl passes ↦ omega (arith, rest ∙ cond-true (test n) (times n ms) 0 passes, cond-true (test n) (one (eqb n m) + times n ms) 0 passes)
      | inr fails ↦ elim (cases_eq n m) [
        | inl same ↦ absurd (both_ways (test n) fails (ap test same ∙ kept))
        | inr other ↦ omega (arith, rest ∙ cond-false (test n) (times n ms) 0 fails, cond-false (test n) (one (eqb n m) + times n ms) 0 fails, one_other n m other)
      ]
    ]

    without_one : (test : ℕ → Bool) (n m : ℕ) (ms : List ℕ) → test m ≡ false → times n (filter test ms) ≡ cond (test n) (times n ms) 0
        → times n (filter test ms) ≡ cond (test n) (one (eqb n m) + times n ms) 0
    without_one test n m ms lost rest = elim (cases_Bool (test n)) [
      | inl passes ↦ elim (cases_eq n m) [
        | inl same ↦ absurd (both_ways (test m) lost (sym (ap test same) ∙ passes))
        | inr other ↦ omega (arith, rest ∙ cond-true (test n) (times n ms) 0 passes, cond-true (test n) (one (eqb n m) + times n ms) 0 passes, one_other n m other)
      ]
      | inr fails ↦ omega (arith, rest ∙ cond-false (test n) (times n ms) 0 fails, cond-false (test n) (one (eqb n m) + times n ms) 0 fails)
    ]

-- a filter by tests that agree on what stands in the list
pub filter_same : (test other : ℕ → Bool) (ms : List ℕ) → ((n : ℕ) → 0 < times n ms → test n ≡ other n) → filter test ms ≡ filter other ms
filter_same test other [] agree = refl
filter_same test other (m ∷ ms) agree =
    let here : test m ≡ other m = agree m (omega (arith, one_same m)) in
    ap (λ (b : Bool). cond b (m ∷ filter test ms) (filter test ms)) here
    ∙ ap (λ (rest : List ℕ). cond (other m) (m ∷ rest) rest) (filter_same test other ms (λ n stands. agree n (omega arith)))

module _ {W : Type 0} where
  pub at_set : (fact : State W → Type 0) (states : List (State W)) (k : ℕ) (s : State W) (j : ℕ) → k < length states
      → (j ≡ k → fact s) → ((j ≡ k → ⊥) → fact (state_at states j)) → fact (state_at (slice_set states k s) j)
  at_set fact states k s j inside own others = elim (cases_eq j k) [
    | inl same ↦ subst fact (sym (ap (λ i. get_or (slice_set states k s) i Gone) same ∙ get_or-set_same states k s Gone inside)) (own same)
    | inr other ↦ subst fact (sym (get_or-set_other states k j s Gone other)) (others other)
  ]

  pub at_push : (fact : State W → Type 0) (states : List (State W)) (s : State W) (j : ℕ)
      → (j ≡ length states → fact s) → ((j ≡ length states → ⊥) → fact (state_at states j)) → fact (state_at (states ++ s ∷ []) j)
  at_push fact states s j own others = elim (cases_lt j (length states)) [
    | inl below ↦ subst fact (sym (get_or_append_left states (s ∷ []) Gone j below)) (others (λ e. omega (arith, e)))
    | inr past ↦ elim (cases_eq j (length states)) [
      | inl same ↦ subst fact (sym (get_or_push states s Gone j (sym same))) (own same)
      | inr other ↦ subst fact
          (get_or_past states j Gone past ∙ sym (get_or_past (states ++ s ∷ []) j Gone (omega (arith, length-append states (s ∷ []), other))))
          (others other)
    ]
  ]

  pub count-push : (test : State W → Bool) (states : List (State W)) (s : State W)
      → count_of test (states ++ s ∷ []) ≡ count_of test states + one (test s)
  count-push test [] s = omega arith
  count-push test (state ∷ states) s = omega (arith, count-push test states s)

  pub count-set : (test : State W → Bool) (states : List (State W)) (k : ℕ) (s : State W) → k < length states
      → count_of test (slice_set states k s) + one (test (state_at states k)) ≡ count_of test states + one (test s)
  count-set test [] k s inside = absurd (omega arith)
  count-set test (state ∷ states) zero s inside = omega arith
  count-set test (state ∷ states) (suc k) s inside = omega (arith, count-set test states k s (omega arith))

  -- what stands in the list as no default does
  pub inside_at : (states : List (State W)) (k : ℕ) (fact : State W → Type 0) → (fact Gone → ⊥) → fact (state_at states k) → k < length states
  inside_at states k fact not_gone holds = elim (cases_lt k (length states)) [
    | inl below ↦ below
    | inr past ↦ absurd (not_gone (subst fact (get_or_past states k Gone past) holds))
  ]

  pub count-at : (test : State W → Bool) (states : List (State W)) (k : ℕ) → k < length states
      → one (test (state_at states k)) ≤ count_of test states
  count-at test [] k inside = absurd (omega arith)
  count-at test (state ∷ states) zero inside = omega arith
  count-at test (state ∷ states) (suc k) inside = omega (arith, count-at test states k (omega arith))

  pub count-length : (test : State W → Bool) (states : List (State W)) → count_of test states ≤ length states
  count-length test [] = omega arith
  count-length test (state ∷ states) = omega (arith, count-length test states, one_small (test state))
    where
      one_small : (b : Bool) → one b ≤ 1
      one_small true = omega arith
      one_small false = omega arith

  -- a state is of one kind at most
  pub counts_fit : (states : List (State W))
      → count_of is_runnable states + count_of is_claimed states + count_of is_waiting states ≤ length states
  counts_fit [] = omega arith
  counts_fit (Gone ∷ states) = omega (arith, counts_fit states)
  counts_fit (Runnable payload ∷ states) = omega (arith, counts_fit states)
  counts_fit (Claimed claim ∷ states) = omega (arith, counts_fit states)
  counts_fit (Waiting resource payload ∷ states) = omega (arith, counts_fit states)
