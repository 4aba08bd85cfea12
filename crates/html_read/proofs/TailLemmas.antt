-- The bytes that a character still wants, as the reader's places tell them.
use Rattle.std.proofs.Common.{◌≡◌, ℕ, ◌+◌, ◌<◌, ◌≤◌, true, nat_lt, nat_le, ◌==◌, ◌&&◌, Result, Ok, Err, List, [], ◌∷◌, ◌++◌, refl, sym, subst, ⊎_elim, arith, append_assoc}
use Rattle.std.specs.List.{list_all}
use Rattle.std.specs.Str.{IsUtf8}
use Rattle.std.proofs.lemmas.Bool.{cond_both, ltb-true, ltb-false, leb-true, eqb-true, eqb-false, and_parts, cases_lt}
use Rattle.html_read.proofs.EncodeUtf8Lemmas.{two_bytes, three_low, three_high, four_bytes}
use Rattle.html_read.specs.declared.place.Tail.{Tail}
use Rattle.html_read.specs.declared.place.Tail.TheVariants.{One, Two, Three, AfterE0, AfterEd, AfterF0, AfterF4}
use Rattle.html_read.specs.declared.place.Place.{Place}
use Rattle.html_read.specs.declared.place.Place.TheVariants.{Whole, Char, Entity}
use Rattle.html_read.specs.declared.place.RunFault.{RunFault}
use Rattle.html_read.specs.declared.place.RunFault.TheVariants as faults
use Rattle.html_read.specs.Machine.{char_start, next_within, tail_after}

-- With one, two or three bytes more the part is a character; the first of them lies in a range.
abbrev pub Wants1 : ℕ → ℕ → List ℕ → Type 0
Wants1 low high part = (b : ℕ) → low ≤ b → b < high → IsUtf8 (part ++ b ∷ [])

abbrev pub Wants2 : ℕ → ℕ → List ℕ → Type 0
Wants2 low high part = (b : ℕ) → low ≤ b → b < high → Wants1 128 192 (part ++ b ∷ [])

abbrev pub Wants3 : ℕ → ℕ → List ℕ → Type 0
Wants3 low high part = (b : ℕ) → low ≤ b → b < high → Wants2 128 192 (part ++ b ∷ [])

abbrev pub IsPart : Tail → List ℕ → Type 0
IsPart One part = Wants1 128 192 part
IsPart Two part = Wants2 128 192 part
IsPart Three part = Wants3 128 192 part
IsPart AfterE0 part = Wants2 160 192 part
IsPart AfterEd part = Wants2 128 160 part
IsPart AfterF0 part = Wants3 144 192 part
IsPart AfterF4 part = Wants3 128 144 part

one_part : (a : ℕ) → 194 ≤ a → a < 224 → IsPart One (a ∷ [])
one_part a l h b m n = two_bytes a b l h m n

e0_part : IsPart AfterE0 (224 ∷ [])
e0_part b l h d m n = three_low 224 b d (omega arith) (omega arith) (omega arith) h m n (omega arith) (omega arith)

ed_part : IsPart AfterEd (237 ∷ [])
ed_part b l h d m n = three_low 237 b d (omega arith) (omega arith) l (omega arith) m n (omega arith) (omega arith)

two_part_low : (a : ℕ) → 225 ≤ a → a < 237 → IsPart Two (a ∷ [])
two_part_low a l h b p q d m n = three_low a b d (omega arith) (omega arith) p q m n (omega arith) (omega arith)

two_part_high : (a : ℕ) → 238 ≤ a → a < 240 → IsPart Two (a ∷ [])
two_part_high a l h b p q d m n = three_high a b d (omega arith) h p q m n (omega arith)

f0_part : IsPart AfterF0 (240 ∷ [])
f0_part b l h d p q e m n = four_bytes 240 b d e (omega arith) (omega arith) h p q m n (omega arith) (omega arith)

f4_part : IsPart AfterF4 (244 ∷ [])
f4_part b l h d p q e m n = four_bytes 244 b d e (omega arith) l (omega arith) p q m n (omega arith) (omega arith)

three_part : (a : ℕ) → 241 ≤ a → a < 244 → IsPart Three (a ∷ [])
three_part a l h b r s d p q e m n = four_bytes a b d e (omega arith) r s p q m n (omega arith) (omega arith)

above : (b n : ℕ) → n ≤ b → (b ≡ n → ⊥) → n + 1 ≤ b
above b n l ne = omega arith

two_part : (a : ℕ) → 224 ≤ a → a < 240 → (a ≡ 224 → ⊥) → (a ≡ 237 → ⊥) → IsPart Two (a ∷ [])
two_part a l h n m = ⊎_elim (λ low. two_part_low a (omega arith) low) (λ high. two_part_high a (omega arith) h) (cases_lt a 237)

-- What a place says of a character that the bytes begin.
abbrev pub IsCharPlace : List ℕ → Place → Type 0
IsCharPlace part Whole = IsUtf8 part
IsCharPlace part (Char tail) = IsPart tail part
IsCharPlace part (Entity start) = ⊥

abbrev pub IsFine : List ℕ → Result Place RunFault → Type 0
IsFine part (Ok place) = IsCharPlace part place
IsFine part (Err fault) = fault ≡ faults.Utf8

pub start_fine : (b : ℕ) → IsFine (b ∷ []) (char_start b)
start_fine b =
    cond_both (nat_lt b 194) _ _ (IsFine (b ∷ [])) (λ h. refl) (λ n194.
    cond_both (nat_lt b 224) _ _ (IsFine (b ∷ [])) (λ h. one_part b (ltb-false b 194 n194) (ltb-true b 224 h)) (λ n224.
    cond_both (b == 224) _ _ (IsFine (b ∷ [])) (λ h. subst (λ x. IsPart AfterE0 (x ∷ [])) (sym (eqb-true b 224 h)) e0_part) (λ ne224.
    cond_both (b == 237) _ _ (IsFine (b ∷ [])) (λ h. subst (λ x. IsPart AfterEd (x ∷ [])) (sym (eqb-true b 237 h)) ed_part) (λ ne237.
    cond_both (nat_lt b 240) _ _ (IsFine (b ∷ [])) (λ h. two_part b (ltb-false b 224 n224) (ltb-true b 240 h) (eqb-false b 224 ne224) (eqb-false b 237 ne237)) (λ n240.
    cond_both (b == 240) _ _ (IsFine (b ∷ [])) (λ h. subst (λ x. IsPart AfterF0 (x ∷ [])) (sym (eqb-true b 240 h)) f0_part) (λ ne240.
    cond_both (nat_lt b 244) _ _ (IsFine (b ∷ [])) (λ h. three_part b (above b 240 (ltb-false b 240 n240) (eqb-false b 240 ne240)) (ltb-true b 244 h)) (λ n244.
    cond_both (b == 244) _ _ (IsFine (b ∷ [])) (λ h. subst (λ x. IsPart AfterF4 (x ∷ [])) (sym (eqb-true b 244 h)) f4_part) (λ n. refl))))))))

within_fine : (low high b : ℕ) (place : Place) (part : List ℕ) → (low ≤ b → b < high → IsCharPlace part place) → IsFine part (next_within low high b place)
within_fine low high b place part h =
    cond_both (nat_le low b && nat_lt b high) _ _ (IsFine part)
    (λ e. let p : (nat_le low b ≡ true) × (nat_lt b high ≡ true) = and_parts _ _ e in h (leb-true low b p.0) (ltb-true b high p.1)) (λ e. refl)

pub tail_fine : (tail : Tail) (part : List ℕ) (b : ℕ) → IsPart tail part → IsFine (part ++ b ∷ []) (tail_after tail b)
tail_fine One part b h = within_fine 128 192 b Whole (part ++ b ∷ []) (λ l m. h b l m)
tail_fine Two part b h = within_fine 128 192 b (Char One) (part ++ b ∷ []) (λ l m. h b l m)
tail_fine Three part b h = within_fine 128 192 b (Char Two) (part ++ b ∷ []) (λ l m. h b l m)
tail_fine AfterE0 part b h = within_fine 160 192 b (Char One) (part ++ b ∷ []) (λ l m. h b l m)
tail_fine AfterEd part b h = within_fine 128 160 b (Char One) (part ++ b ∷ []) (λ l m. h b l m)
tail_fine AfterF0 part b h = within_fine 144 192 b (Char Two) (part ++ b ∷ []) (λ l m. h b l m)
tail_fine AfterF4 part b h = within_fine 128 144 b (Char Two) (part ++ b ∷ []) (λ l m. h b l m)

fine_at : (part : List ℕ) (r : Result Place RunFault) (place : Place) → IsFine part r → r ≡ Ok place → IsCharPlace part place
fine_at part r place h e = subst (IsFine part) e h

pub start_gives : (b : ℕ) (place : Place) → char_start b ≡ Ok place → IsCharPlace (b ∷ []) place
start_gives b place e = fine_at (b ∷ []) (char_start b) place (start_fine b) e

pub tail_gives : (tail : Tail) (part : List ℕ) (b : ℕ) (place : Place) → IsPart tail part → tail_after tail b ≡ Ok place → IsCharPlace (part ++ b ∷ []) place
tail_gives tail part b place h e = fine_at (part ++ b ∷ []) (tail_after tail b) place (tail_fine tail part b h) e

two_more : (part : List ℕ) (b : ℕ) → Wants1 128 192 (part ++ b ∷ []) → IsUtf8 (part ++ b ∷ 128 ∷ [])
two_more part b h = subst IsUtf8 (append_assoc part (b ∷ []) (128 ∷ [])) (h 128 (omega arith) (omega arith))

three_more : (part : List ℕ) (b : ℕ) → Wants2 128 192 (part ++ b ∷ []) → IsUtf8 (part ++ b ∷ 128 ∷ 128 ∷ [])
three_more part b h =
    subst IsUtf8 (append_assoc part (b ∷ []) (128 ∷ 128 ∷ [])) (subst IsUtf8 (append_assoc (part ++ b ∷ []) (128 ∷ []) (128 ∷ [])) (h 128 (omega arith) (omega arith) 128 (omega arith) (omega arith)))

-- Each part can become a character.
pub record Ends (part : List ℕ) : Type 0 where
  pub more : List ℕ
  pub utf8 : IsUtf8 (part ++ more)
  pub high : list_all (nat_le 128) more ≡ true

pub part_completes : (tail : Tail) (part : List ℕ) → IsPart tail part → Ends part
part_completes One part h = record { more = 128 ∷ []; utf8 = h 128 (omega arith) (omega arith); high = refl }
part_completes Two part h = record { more = 128 ∷ 128 ∷ []; utf8 = two_more part 128 (h 128 (omega arith) (omega arith)); high = refl }
part_completes Three part h = record { more = 128 ∷ 128 ∷ 128 ∷ []; utf8 = three_more part 128 (h 128 (omega arith) (omega arith)); high = refl }
part_completes AfterE0 part h = record { more = 160 ∷ 128 ∷ []; utf8 = two_more part 160 (h 160 (omega arith) (omega arith)); high = refl }
part_completes AfterEd part h = record { more = 128 ∷ 128 ∷ []; utf8 = two_more part 128 (h 128 (omega arith) (omega arith)); high = refl }
part_completes AfterF0 part h = record { more = 144 ∷ 128 ∷ 128 ∷ []; utf8 = three_more part 144 (h 144 (omega arith) (omega arith)); high = refl }
part_completes AfterF4 part h = record { more = 128 ∷ 128 ∷ 128 ∷ []; utf8 = three_more part 128 (h 128 (omega arith) (omega arith)); high = refl }
