-- What bytes begin with.
use Rattle.std.proofs.Common.{◌≡◌, ℕ, Bool, true, false, ◌&&◌, ◌==◌, List, [], ◌∷◌, ◌++◌, length, drop, refl, ap, ◌∙◌, sym}
use Rattle.std.proofs.Common.{inl, inr}
use Rattle.std.proofs.lemmas.Bool.{cases_eq, ne_eqb}
use Rattle.std.specs.Str.{bytes_eq}
use Rattle.html_names.specs.Names.{begins_with}

and_assoc : (a b c : Bool) → (a && (b && c)) ≡ ((a && b) && c)
and_assoc true b c = refl
and_assoc false b c = refl

-- First one front, and then the other.
pub begins_with-append : (one other bytes : List ℕ) → begins_with (one ++ other) bytes ≡ (begins_with one bytes && begins_with other (drop (length one) bytes))
begins_with-append [] other bytes = refl
begins_with-append (x ∷ xs) other [] = refl
begins_with-append (x ∷ xs) other (b ∷ bs) =
    ap (λ same. (b == x) && same) (begins_with-append xs other bs) ∙ and_assoc (b == x) (begins_with xs bs) (begins_with other (drop (length xs) bs))

eqb-turned : (a b : ℕ) → (a == b) ≡ (b == a)
eqb-turned a b = elim (cases_eq a b) [
  | inl same ↦ ap (λ n. n == b) same ∙ ap (λ n. b == n) (sym same)
  | inr other ↦ ne_eqb a b other ∙ sym (ne_eqb b a (λ same. other (sym same)))
]

pub bytes_eq-turned : (one other : List ℕ) → bytes_eq one other ≡ bytes_eq other one
bytes_eq-turned [] [] = refl
bytes_eq-turned [] (b ∷ bs) = refl
bytes_eq-turned (a ∷ rest) [] = refl
bytes_eq-turned (a ∷ rest) (b ∷ bs) = ap (λ same. same && bytes_eq rest bs) (eqb-turned a b) ∙ ap (λ same. (b == a) && same) (bytes_eq-turned rest bs)
