-- What is kept of tasks stays in order when those of an owner are gone.
use Rattle.std.proofs.Common.{◌≡◌, ℕ, zero, suc, ◌≤◌, Bool, true, false, cond, Option, Some, None, List, [], ◌∷◌, length, filter, refl, ap, ◌∙◌, arith}
use Rattle.fizz_task.specs.declared.state.State.{State}
use Rattle.fizz_task.specs.declared.state.State.TheVariants.{Gone, Runnable, Claimed, Waiting}
use Rattle.fizz_task.specs.Board.{state_at}
use Rattle.fizz_task.specs.Calls.{is_owned, without_owned}
use Rattle.fizz_task.specs.Stored.{most_times}

nothing_claims : (claim : ℕ) → None ≡ Some claim → ⊥
nothing_claims claim h = cc

-- two filters, one after the other
pub filter_twice : (outer inner both : ℕ → Bool) (ms : List ℕ) → ((n : ℕ) → both n ≡ cond (inner n) (outer n) false)
    → filter both ms ≡ filter outer (filter inner ms)
filter_twice outer inner both [] agree = refl
filter_twice outer inner both (m ∷ ms) agree =
    ap (λ (b : Bool). cond b (m ∷ filter both ms) (filter both ms)) (agree m)
    ∙ ap (λ (rest : List ℕ). cond (cond (inner m) (outer m) false) (m ∷ rest) rest) (filter_twice outer inner both ms agree)
    ∙ by_tests (inner m) (outer m) refl refl
  where
    by_tests : (i o : Bool) → inner m ≡ i → outer m ≡ o
        → cond (cond (inner m) (outer m) false) (m ∷ filter outer (filter inner ms)) (filter outer (filter inner ms))
        ≡ filter outer (cond (inner m) (m ∷ filter inner ms) (filter inner ms))
    by_tests true true is os = rw (is, os) refl
    by_tests true false is os = rw (is, os) refl
    by_tests false o is os = rw is refl

module _ {W : Type 0} where
  either : (b : Bool) (s : State W) → s ≡ cond b s s
  either true s = refl
  either false s = refl

  pub at_dropped : (owner : Option ℕ) (owners : List (Option ℕ)) (states : List (State W)) (k : ℕ) → length owners ≡ length states
      → state_at (without_owned owner owners states) k ≡ cond (is_owned owner owners k) Gone (state_at states k)
  at_dropped owner [] [] k same = either (is_owned owner [] k) Gone
  at_dropped owner [] (state ∷ states) k same = absurd (omega arith)
  at_dropped owner (first ∷ owners) [] k same = absurd (omega arith)
  at_dropped owner (first ∷ owners) (state ∷ states) zero same = refl
  at_dropped owner (first ∷ owners) (state ∷ states) (suc k) same = at_dropped owner owners states k (omega arith)

  pub length-dropped : (owner : Option ℕ) (owners : List (Option ℕ)) (states : List (State W)) → length (without_owned owner owners states) ≡ length states
  length-dropped owner [] states = refl
  length-dropped owner (first ∷ owners) [] = refl
  length-dropped owner (first ∷ owners) (state ∷ states) = omega (arith, length-dropped owner owners states)

  pub few_most : (s : State W) → most_times s ≤ 1
  few_most Gone = omega arith
  few_most (Runnable payload) = omega arith
  few_most (Claimed claim) = omega arith
  few_most (Waiting resource payload) = omega arith
