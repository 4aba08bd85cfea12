-- Numerals in hexadecimal: one digit more at the front, and that they are numerals.
use Rattle.std.proofs.Common.{◌≡◌, ℕ, ◌+◌, ◌-◌, ◌/◌, ◌%◌, ◌<◌, ◌≤◌, ◌⊎◌, List, [], ◌∷◌, ◌++◌, length, map, drop, slice_set, get_or, lit≤, refl, sym, ◌∙◌, ap, subst, inl, inr, arith, append_assoc}
use Rattle.std.proofs.lemmas.Bool.Decides.{nat_tests}
use Rattle.std.proofs.lemmas.List.{drop-set, map-append, length-map}
use Rattle.std.proofs.lemmas.List.Elements.{All-from_recursion}
use Rattle.std.proofs.lemmas.Bool.{cases_lt}
use Rattle.std.specs.List.{AllByRecursion}
use Rattle.std.specs.Char.{digit_char, digit_value}
use Rattle.std.specs.Int.Digits.{digits_of, number_from_digits, AllBelowBase}
use Rattle.std.proofs.lemmas.Int.Digits.{digits_of_step, length-digits_of_step, all_below_base_digits_of, first_digits_of, number_digits_of, digits_value_is}
use Rattle.std.proofs.lemmas.Str.{digit_value-digit_char}
use Rattle.fizz_text.specs.Hexadecimal.{IsHexDigit, IsHexadecimal}

-- one digit more at the front: the lowest of what is left, before those that stand
pub map-digit_char-digits_of-step : (rest start d : ℕ) (digits all : List ℕ) →
    0 < rest → 1 ≤ start → start ≤ length digits → d ≡ digit_char (rest % 16) →
    map digit_char (digits_of 16 rest) ++ drop start digits ≡ all →
    map digit_char (digits_of 16 (rest / 16)) ++ drop (start - 1) (slice_set digits (start - 1) d) ≡ all
map-digit_char-digits_of-step rest start d digits all some room within is written =
    let step : digits_of 16 rest ≡ digits_of 16 (rest / 16) ++ (rest % 16 ∷ []) = digits_of_step 16 rest (lit≤ tt) some in
    let inside : start - 1 < length digits = omega arith in
    let back : start - 1 + 1 ≡ start = omega arith in
    let front : drop (start - 1) (slice_set digits (start - 1) d) ≡ d ∷ drop start digits =
    drop-set digits (start - 1) d inside ∙ ap (λ k. d ∷ drop k digits) back in
    let parts : map digit_char (digits_of 16 rest) ≡ map digit_char (digits_of 16 (rest / 16)) ++ (digit_char (rest % 16) ∷ []) =
    ap (map digit_char) step ∙ map-append digit_char (digits_of 16 (rest / 16)) (rest % 16 ∷ []) in
    rw (front, is) (sym (append_assoc (map digit_char (digits_of 16 (rest / 16))) (digit_char (rest % 16) ∷ []) (drop start digits)) ∙ ap (λ xs. xs ++ drop start digits) (sym parts) ∙ written)

low_digit : (d : ℕ) → d < 10 → digit_char d ≡ 48 + d
low_digit d h = grind (arith, nat_tests)

high_digit : (d : ℕ) → 10 ≤ d → digit_char d ≡ 87 + d
high_digit d h = grind (arith, nat_tests)

digit_in_range : (d c : ℕ) → d < 16 → ((d < 10) × (c ≡ 48 + d)) ⊎ ((10 ≤ d) × (c ≡ 87 + d)) → IsHexDigit c
digit_in_range d c h (inl low) = inl (omega (arith, low.1), omega (arith, low.0, low.1))
digit_in_range d c h (inr high) = inr (omega (arith, high.0, high.1), omega (arith, high.1))

digit_cases : (d : ℕ) → (d < 10) ⊎ (10 ≤ d) → ((d < 10) × (digit_char d ≡ 48 + d)) ⊎ ((10 ≤ d) × (digit_char d ≡ 87 + d))
digit_cases d (inl low) = inl (low, low_digit d low)
digit_cases d (inr high) = inr (high, high_digit d high)

pub IsHexDigit-digit_char : (d : ℕ) → d < 16 → IsHexDigit (digit_char d)
IsHexDigit-digit_char d h = digit_in_range d (digit_char d) h (digit_cases d (cases_lt d 10))

-- only 0 is written `0`
pub zero_digit : (d : ℕ) → digit_char d ≡ 48 → d ≡ 0
zero_digit d h = grind (arith, nat_tests)

pub map-digit_value-map-digit_char : (ds : List ℕ) → AllBelowBase 16 ds → map digit_value (map digit_char ds) ≡ ds
map-digit_value-map-digit_char [] h = refl
map-digit_value-map-digit_char (d ∷ ds) h = rw (digit_value-digit_char d (omega (arith, h.0)), map-digit_value-map-digit_char ds h.1) refl

pub IsHexDigit-map-digit_char : (ds : List ℕ) → AllBelowBase 16 ds → AllByRecursion IsHexDigit (map digit_char ds)
IsHexDigit-map-digit_char [] h = tt
IsHexDigit-map-digit_char (d ∷ ds) h = (IsHexDigit-digit_char d h.0, IsHexDigit-map-digit_char ds h.1)

first_is : (ds : List ℕ) → 0 < get_or ds 0 0 → get_or (map digit_char ds) 0 0 ≡ 48 → ⊥
first_is [] some is = absurd (omega arith)
first_is (d ∷ ds) some is = let zero : d ≡ 0 = zero_digit d is in absurd (omega arith)

-- the digits of a number above 0 are its numeral
pub IsHexadecimal-map-digit_char : (n : ℕ) (text : List ℕ) → (n ≡ 0 → ⊥) → text ≡ map digit_char (digits_of 16 n) → IsHexadecimal text n
IsHexadecimal-map-digit_char n text some is =
    let above : 0 < n = omega arith in
    let below : AllBelowBase 16 (digits_of 16 n) = all_below_base_digits_of 16 n (lit≤ tt) in
    let size : length (map digit_char (digits_of 16 n)) ≡ length (digits_of 16 n) = length-map (digits_of 16 n) digit_char in
    let more : length (digits_of 16 n) ≡ length (digits_of 16 (n / 16)) + 1 = length-digits_of_step 16 n (lit≤ tt) above in
    subst (λ (xs : List ℕ). IsHexadecimal xs n) (sym is) (record {
      digits = All-from_recursion IsHexDigit _ (IsHexDigit-map-digit_char (digits_of 16 n) below);
      value = digits_value_is 16 (map digit_char (digits_of 16 n))
          ∙ ap (number_from_digits 16) (map-digit_value-map-digit_char (digits_of 16 n) below)
          ∙ number_digits_of 16 n (lit≤ tt);
      present = omega arith;
      no_leading_zero = λ h. absurd (first_is (digits_of 16 n) (first_digits_of 16 n (lit≤ tt) above) h);
    })
