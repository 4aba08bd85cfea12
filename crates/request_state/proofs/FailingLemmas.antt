-- What goes with a boundary, and which boundaries are around another.
use Rattle.std.proofs.Common.{◌≡◌, ℕ, suc, ◌+◌, ◌-◌, ◌<◌, ◌≤◌, eqb, Bool, true, false, nat_lt, ◌&&◌, Some, None, List, [], ◌∷◌, ◌++◌, inl, inr, refl, sym, ap, subst, ◌∙◌, arith}
use Rattle.std.proofs.lemmas.Bool.{cases_eq, cases_lt, cond-false, le-ltb, lt-ltb, ne_eqb}
use Rattle.fizz_segment.specs.Tree.{Tree}
use Rattle.fizz_boundary.specs.Bounds.{bound_at}
use Rattle.fizz_boundary.specs.declared.boundary.Bound.{Bound}
use Rattle.id_lists.specs.Lists.{AreLists, Lists, first_of, list_at, one, times}
use Rattle.id_lists.specs.Calls.{list_without, without}
use Rattle.id_lists.proofs.Counts.{drops_same, list_map, one_other, one_same, times-append, times_at, without_absent}
use Rattle.request_state.specs.Core.{Core}
use Rattle.request_state.specs.Failing.{all_dropped, all_forgotten, dropped_if, forgotten_unless_printed, is_around, outer_of, with_dropped}

-- a step along the boundaries around one
pub is_around-step : (bounds : List Bound) (outer inner step total : ℕ) → step < total → (inner ≡ outer → ⊥)
    → is_around (total - step) bounds outer (Some inner)
    ≡ is_around (total - (step + 1)) bounds outer (outer_of (bound_at bounds inner))
is_around-step bounds outer inner step total inside other =
    let more : total - step ≡ suc (total - (step + 1)) = omega (arith, inside) in
    subst
    (λ k. is_around k bounds outer (Some inner)
    ≡ is_around (total - (step + 1)) bounds outer (outer_of (bound_at bounds inner)))
    (sym more) (cond-false (eqb inner outer) _ _ (ne_eqb inner outer other))

no_some : (n : ℕ) → None ≡ Some n → ⊥
no_some n is = cc

same_some : (m n : ℕ) → Some m ≡ Some n → n ≡ m
same_some m n is = cc

forgotten-first : (id : ℕ) (list : List ℕ) (tree : Tree) → times id list ≤ 1 → first_of list ≡ Some id
    → all_forgotten (list_without id list) (forgotten_unless_printed id tree) ≡ all_forgotten list tree
forgotten-first id [] tree once first = absurd (no_some id first)
forgotten-first id (n ∷ ns) tree once first =
    let same : id ≡ n = same_some n id first in
    let none : times id ns ≡ 0 = omega (arith, once, one_same id n same) in
    let left : list_without id (n ∷ ns) ≡ ns = drops_same id n ns same ∙ without_absent id ns none in
    ap (λ l. all_forgotten l (forgotten_unless_printed id tree)) left
    ∙ ap (λ s. all_forgotten ns (forgotten_unless_printed s tree)) same

-- the first of a list is forgotten, and then the others
pub all_forgotten-first : (all : Lists) (k id : ℕ) (tree : Tree) → AreLists all → first_of (list_at all.lists k) ≡ Some id
    → all_forgotten (list_at (without id all.lists) k) (forgotten_unless_printed id tree)
    ≡ all_forgotten (list_at all.lists k) tree
all_forgotten-first all k id tree are first =
    ap (λ l. all_forgotten l (forgotten_unless_printed id tree)) (list_map id all.lists k)
    ∙ forgotten-first id (list_at all.lists k) tree (omega (arith, are.once id, times_at id all.lists k)) first

-- a number more, if a test says so
abbrev pub grown : Bool → ℕ → List ℕ → List ℕ
grown true n ns = ns ++ n ∷ []
grown false n ns = ns

pub all_dropped-append : (boundary : ℕ) (within : List ℕ) (core : Core)
    → all_dropped (within ++ boundary ∷ []) core ≡ with_dropped boundary (all_dropped within core)
all_dropped-append boundary [] core = refl
all_dropped-append boundary (b ∷ within) core = all_dropped-append boundary within (with_dropped b core)

pub all_dropped-grown : (test : Bool) (boundary : ℕ) (within : List ℕ) (core : Core)
    → dropped_if test boundary (all_dropped within core) ≡ all_dropped (grown test boundary within) core
all_dropped-grown true boundary within core = sym (all_dropped-append boundary within core)
all_dropped-grown false boundary within core = refl

times-grown : (test : Bool) (k n : ℕ) (ns : List ℕ) → times n (grown test k ns) ≡ times n ns + one (test && eqb n k)
times-grown true k n ns = omega (arith, times-append n ns (k ∷ []))
times-grown false k n ns = omega arith

one-and : (a b : Bool) → one (a && b) ≤ one b
one-and true b = omega arith
one-and false true = omega arith
one-and false false = omega arith

-- those below a number that pass a test, and then that number
pub exactly-grown : (test : ℕ → Bool) (k : ℕ) (ns : List ℕ) → ((n : ℕ) → times n ns ≡ one (nat_lt n k && test n))
    → (n : ℕ) → times n (grown (test k) k ns) ≡ one (nat_lt n (k + 1) && test n)
exactly-grown test k ns exactly n = elim (cases_eq n k) [
  | inl same ↦ at_same same
  | inr other ↦ elim (cases_lt n k) [
    | inl less ↦
        omega (
          arith,
          times-grown (test k) k n ns,
          exactly n,
          one-and (test k) (eqb n k),
          one_other n k other,
          ap (λ b. one (b && test n)) (lt-ltb n k less),
          ap (λ b. one (b && test n)) (lt-ltb n (k + 1) (omega (arith, less))),
        )
    | inr more ↦
        omega (
          arith,
          times-grown (test k) k n ns,
          exactly n,
          one-and (test k) (eqb n k),
          one_other n k other,
          ap (λ b. one (b && test n)) (le-ltb n k more),
          ap (λ b. one (b && test n)) (le-ltb n (k + 1) (beyond n k more other)),
        )
  ]
]
  where
    beyond : (n k : ℕ) → k ≤ n → (n ≡ k → ⊥) → k + 1 ≤ n
    beyond n k more other = elim (cases_lt k n) [
      | inl less ↦ omega (arith, less)
      | inr same ↦ absurd (other (omega (arith, more, same)))
    ]

    and_eqb : (b : Bool) (n k : ℕ) → n ≡ k → one (b && eqb n k) ≡ one b
    and_eqb true n k same = one_same n k same
    and_eqb false n k same = refl

    at_same : n ≡ k → times n (grown (test k) k ns) ≡ one (nat_lt n (k + 1) && test n)
    at_same same =
        omega (
          arith,
          times-grown (test k) k n ns,
          exactly n,
          and_eqb (test k) n k same,
          ap (λ m. one (test m)) same,
          ap (λ b. one (b && test n)) (le-ltb n k (omega (arith, same))),
          ap (λ b. one (b && test n)) (lt-ltb n (k + 1) (omega (arith, same))),
        )

-- those below the number of all that are within are all that are within
pub and_same : (a b : Bool) → (a && (a && b)) ≡ (a && b)
and_same true b = refl
and_same false b = refl
