-- What is kept of tasks stays in order when those that wait for a resource become runnable.
use Rattle.std.proofs.Common.{◌≡◌, ℕ, zero, suc, ◌+◌, ◌<◌, Bool, true, false, eqb, List, [], ◌∷◌, length, map, filter, inl, inr, refl, sym, ap, ◌∙◌, arith}
use Rattle.std.proofs.lemmas.Bool.{cases_Bool, cases_lt, cond-true, cond-false}
use Rattle.std.proofs.lemmas.List.{get_or_past, get_or-map, length-map}
use Rattle.fizz_task.specs.declared.state.State.{State}
use Rattle.fizz_task.specs.declared.state.State.TheVariants.{Gone}
use Rattle.fizz_task.specs.Board.{count_of, numbers_from, one, state_at, times, waiters, waits_for}
use Rattle.fizz_task.specs.Calls.{woken}
use Rattle.fizz_task.proofs.Lists.{one_other, one_same}

-- a filter keeps all of a list that passes
pub filter_all : (test : ℕ → Bool) (ms : List ℕ) → ((n : ℕ) → 0 < times n ms → test n ≡ true) → filter test ms ≡ ms
filter_all test [] passes = refl
filter_all test (m ∷ ms) passes =
    cond-true (test m) _ _ (passes m (omega (arith, one_same m)))
    ∙ ap (λ (rest : List ℕ). m ∷ rest) (filter_all test ms (λ n stands. passes n (omega arith)))

module _ {W : Type 0} where
  pub numbers_below : (test : State W → Bool) (first : ℕ) (states : List (State W)) (k : ℕ) → k < first → times k (numbers_from test first states) ≡ 0
  numbers_below test first [] k below = refl
  numbers_below test first (state ∷ states) k below = elim (cases_Bool (test state)) [
    | inl passes ↦ ap (times k) (cond-true (test state) _ _ passes)
        ∙ omega (arith, numbers_below test (first + 1) states k (omega arith), one_other k first (λ e. omega (arith, e)))
    | inr fails ↦ ap (times k) (cond-false (test state) _ _ fails) ∙ numbers_below test (first + 1) states k (omega arith)
  ]

  pub numbers_at : (test : State W → Bool) → test Gone ≡ false → (first : ℕ) (states : List (State W)) (k : ℕ)
      → times (first + k) (numbers_from test first states) ≡ one (test (state_at states k))
  numbers_at test gone first [] k = ap one (sym gone)
  numbers_at test gone first (state ∷ states) zero = elim (cases_Bool (test state)) [
    | inl passes ↦ ap (times (first + 0)) (cond-true (test state) _ _ passes)
        ∙ omega (arith, numbers_below test (first + 1) states (first + 0) (omega arith), ap one passes, ap (λ n. one (eqb n first)) (plus_none first), one_same first)
    | inr fails ↦ ap (times (first + 0)) (cond-false (test state) _ _ fails)
        ∙ omega (arith, numbers_below test (first + 1) states (first + 0) (omega arith), ap one fails)
  ]
    where
      plus_none : (n : ℕ) → n + 0 ≡ n
      plus_none n = omega arith
  numbers_at test gone first (state ∷ states) (suc k) =
      let later : times (first + suc k) (numbers_from test (first + 1) states) ≡ one (test (state_at states k)) =
      ap (λ n. times n (numbers_from test (first + 1) states)) (plus_suc first k) ∙ numbers_at test gone (first + 1) states k in
      elim (cases_Bool (test state)) [
        | inl passes ↦ ap (times (first + suc k)) (cond-true (test state) _ _ passes)
            ∙ omega (arith, later, one_other (first + suc k) first (λ e. omega (arith, e)))
        | inr fails ↦ ap (times (first + suc k)) (cond-false (test state) _ _ fails) ∙ later
      ]
    where
      plus_suc : (n m : ℕ) → n + suc m ≡ n + 1 + m
      plus_suc n m = omega arith

  pub length-numbers : (test : State W → Bool) (first : ℕ) (states : List (State W)) → length (numbers_from test first states) ≡ count_of test states
  length-numbers test first [] = refl
  length-numbers test first (state ∷ states) = elim (cases_Bool (test state)) [
    | inl passes ↦ ap length (cond-true (test state) _ _ passes) ∙ omega (arith, length-numbers test (first + 1) states, ap one passes)
    | inr fails ↦ ap length (cond-false (test state) _ _ fails) ∙ omega (arith, length-numbers test (first + 1) states, ap one fails)
  ]

  pub waiters_at : (name : List ℕ) (states : List (State W)) (k : ℕ) → times k (waiters name states) ≡ one (waits_for name (state_at states k))
  waiters_at name states k = ap (λ n. times n (waiters name states)) (none_plus k) ∙ numbers_at (waits_for name) refl 0 states k
    where
      none_plus : (n : ℕ) → n ≡ 0 + n
      none_plus n = omega arith

  pub at_settled : (name : List ℕ) (states : List (State W)) (k : ℕ) → state_at (map (woken name) states) k ≡ woken name (state_at states k)
  at_settled name states k = elim (cases_lt k (length states)) [
    | inl below ↦ get_or-map (woken name) states k Gone Gone below
    | inr past ↦ get_or_past (map (woken name) states) k Gone (omega (arith, past, length-map states (woken name)))
        ∙ ap (woken name) (sym (get_or_past states k Gone past))
  ]
