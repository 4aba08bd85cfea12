-- The longest run of characters of a test.
use Rattle.std.proofs.Common.{◌≡◌, ℕ, suc, ◌+◌, Bool, true, false, List, [], ◌∷◌, ◌++◌, length, drop, refl, arith}
use Rattle.std.proofs.lemmas.Bool.{and_parts}
use Rattle.std.specs.List.{list_all, prefix_len}
use Rattle.jsx_lex.specs.Characters.{Ends}

-- a run that ends before what comes after it is the longest one
pub prefix_len-run : (test : ℕ → Bool) (xs after : List ℕ) → list_all test xs ≡ true → Ends test after → prefix_len test (xs ++ after) ≡ length xs
prefix_len-run test [] [] e h = refl
prefix_len-run test [] (b ∷ bs) e h = rw h
prefix_len-run test (x ∷ xs) after e h =
    let p = and_parts (test x) (list_all test xs) e in
    rw (p.0, prefix_len-run test xs after p.1 h) (omega arith)

-- what comes after the longest run doesn't go on with it
pub Ends-run : (test : ℕ → Bool) (xs : List ℕ) → Ends test (drop (prefix_len test xs) xs)
Ends-run test [] = tt
Ends-run test (x ∷ xs) = by_test (test x) refl (Ends-run test xs)
  where
    by_test : (t : Bool) → test x ≡ t → Ends test (drop (prefix_len test xs) xs) → Ends test (drop (prefix_len test (x ∷ xs)) (x ∷ xs))
    by_test true e more =
        let next : 1 + prefix_len test xs ≡ suc (prefix_len test xs) = omega arith in
        rw (e, next) more
    by_test false e more = rw e e
