-- Numerals in hexadecimal: they are ASCII, and reading one gives its number.
use Rattle.std.proofs.Common.{◌≡◌, ◌≢◌, ℕ, ◌<◌, ◌^◌, ◌⊎◌, cond, if◌then◌else◌, List, [], ◌∷◌, length, map, drop, Result, Ok, lit≤, lit<, refl, sym, ◌∙◌, ap, subst, inl, inr, arith}
use Rattle.std.specs.Int.Digits.{digits_of, number_from_digits, AllBelowBase}
use Rattle.std.specs.Str.{IsUtf8}
use Rattle.std.specs.Str.Parse.{IsNumeral, AllDigits, ParsesUnsigned, digits_value, without_leading_plus}
use Rattle.std.proofs.lemmas.Bool.{cases_eq, ne_eqb}
use Rattle.std.proofs.lemmas.List.{length-map}
use Rattle.std.proofs.lemmas.Int.Digits.{length-digits_of_step, all_below_base_digits_of, number_digits_of, digits_value_is}
use Rattle.std.proofs.lemmas.Result.{Ok-from_Ok_iff}
use Rattle.std.specs.Char.{digit_char}
use Rattle.fizz_text.specs.Hexadecimal.{IsHexDigit, hexadecimal}
use Rattle.std.proofs.lemmas.Str.{digit_value-digit_char}
use Rattle.fizz_text.proofs.HexadecimalLemmas.{IsHexDigit-digit_char, map-digit_value-map-digit_char}
use Rattle.html_names.proofs.Utf8Lemmas.{AreAscii, utf8_ascii}

record HasDigits (n : ℕ) : Type 0 where
  digits : List ℕ
  below : AllBelowBase 16 digits
  some : 0 < length digits
  is : hexadecimal n ≡ map digit_char digits
  value : number_from_digits 16 digits ≡ n

digits_by : (n : ℕ) → (n ≡ 0) ⊎ (n ≡ 0 → ⊥) → HasDigits n
digits_by n (inl zero) = record { digits = 0 ∷ []; below = (lit< tt, tt); some = lit< tt; is = ap hexadecimal zero; value = sym zero }
digits_by n (inr some) = record {
  digits = digits_of 16 n;
  below = all_below_base_digits_of 16 n (lit≤ tt);
  some = let above : 0 < n = omega arith in omega (arith, length-digits_of_step 16 n (lit≤ tt) above);
  is = ap (λ b. if b then 48 ∷ [] else map digit_char (digits_of 16 n)) (ne_eqb n 0 some);
  value = number_digits_of 16 n (lit≤ tt);
}

has_digits : (n : ℕ) → HasDigits n
has_digits n = digits_by n (cases_eq n 0)

are_digits : (ds : List ℕ) → AllBelowBase 16 ds → AllDigits 16 (map digit_char ds)
are_digits [] h = tt
are_digits (d ∷ ds) h = (subst (λ k. k < 16) (sym (digit_value-digit_char d (omega (arith, h.0)))) h.0, are_digits ds h.1)

digit_ascii : (c : ℕ) → IsHexDigit c → c < 128
digit_ascii c (inl h) = omega (arith, h.1)
digit_ascii c (inr h) = omega (arith, h.1)

are_ascii : (ds : List ℕ) → AllBelowBase 16 ds → AreAscii (map digit_char ds)
are_ascii [] h = tt
are_ascii (d ∷ ds) h = (digit_ascii (digit_char d) (IsHexDigit-digit_char d h.0), are_ascii ds h.1)

digit_no_plus : (c : ℕ) → IsHexDigit c → c ≢ 43
digit_no_plus c (inl h) e = omega (arith, h.0, e)
digit_no_plus c (inr h) e = omega (arith, h.0, e)

no_plus : (ds : List ℕ) → AllBelowBase 16 ds → without_leading_plus (map digit_char ds) ≡ map digit_char ds
no_plus [] h = refl
no_plus (d ∷ ds) h = ap (λ b. drop (cond b 1 0) (digit_char d ∷ map digit_char ds)) (ne_eqb (digit_char d) 43 (digit_no_plus (digit_char d) (IsHexDigit-digit_char d h.0)))

digits_number : (n : ℕ) (h : HasDigits n) → digits_value 16 (map digit_char h.digits) ≡ n
digits_number n h = digits_value_is 16 (map digit_char h.digits) ∙ (ap (number_from_digits 16) (map-digit_value-map-digit_char h.digits h.below) ∙ h.value)

numeral_value : (n : ℕ) → digits_value 16 (hexadecimal n) ≡ n
numeral_value n = ap (digits_value 16) ((has_digits n).is) ∙ digits_number n (has_digits n)

pub same_number : (m n : ℕ) → hexadecimal m ≡ hexadecimal n → m ≡ n
same_number m n e = sym (numeral_value m) ∙ (ap (digits_value 16) e ∙ numeral_value n)

pub numeral_utf8 : (n : ℕ) → IsUtf8 (hexadecimal n)
numeral_utf8 n = let h : HasDigits n = has_digits n in subst IsUtf8 (sym h.is) (utf8_ascii (map digit_char h.digits) (are_ascii h.digits h.below))

pub reads_numeral : {E : Type 0} (n : ℕ) (bs : List ℕ) (r : Result ℕ E) → n < 2 ^ 32 → bs ≡ hexadecimal n → ParsesUnsigned 32 16 bs r → r ≡ Ok n
reads_numeral n bs r small is parses =
    let h : HasDigits n = has_digits n in
    let text : List ℕ = map digit_char h.digits in
    let read : List ℕ = without_leading_plus bs in
    let plain : read ≡ text = ap without_leading_plus (is ∙ h.is) ∙ no_plus h.digits h.below in
    let value : digits_value 16 text ≡ n = digits_number n h in
    let size : 0 < length text = omega (arith, h.some, length-map h.digits digit_char) in
    let fits : digits_value 16 text < 2 ^ 32 = subst (λ k. k < 2 ^ 32) (sym value) small in
    let good : IsNumeral 16 text × (digits_value 16 text < 2 ^ 32) = ((size, are_digits h.digits h.below), fits) in
    Ok-from_Ok_iff r (IsNumeral 16 read × (digits_value 16 read < 2 ^ 32)) (digits_value 16 read) parses
    (subst (λ (t : List ℕ). IsNumeral 16 t × (digits_value 16 t < 2 ^ 32)) (sym plain) good)
    ∙ ap Ok (ap (digits_value 16) plain ∙ value)
