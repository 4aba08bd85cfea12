-- Digits of references.
use Rattle.std.proofs.Common.{◌≡◌, ℕ, zero, suc, ◌<◌, ◌≤◌, true, List, [], ◌∷◌, arith}
use Rattle.std.proofs.lemmas.Bool.{and_parts, ltb-true}
use Rattle.std.proofs.lemmas.Bool.Decides.{nat_tests}
use Rattle.std.proofs.lemmas.Str.{IsUtf8-from_ascii}
use Rattle.std.specs.List.{list_all}
use Rattle.std.specs.Char.{is_digit, digit_value}
use Rattle.std.specs.Str.{IsUtf8, IsAscii}
use Rattle.std.specs.Str.Parse.{AllDigits}

pub AllDigits-from_run : (radix : ℕ) (bs : List ℕ) → list_all (λ b. is_digit b radix) bs ≡ true → AllDigits radix bs
AllDigits-from_run radix [] e = tt
AllDigits-from_run radix (b ∷ bs) e =
    let p = and_parts (is_digit b radix) (list_all (λ b. is_digit b radix) bs) e in
    (ltb-true (digit_value b) radix p.0, AllDigits-from_run radix bs p.1)

low_digit : (b : ℕ) → digit_value b < 36 → b < 128
low_digit b h = grind (arith, nat_tests)

ascii_at : (radix : ℕ) (bs : List ℕ) → radix ≤ 36 → AllDigits radix bs → IsAscii bs
ascii_at radix [] r h i = omega arith
ascii_at radix (b ∷ bs) r h zero = let l = h.0 in low_digit b (omega arith)
ascii_at radix (b ∷ bs) r h (suc i) = ascii_at radix bs r h.1 i

pub digits_utf8 : (radix : ℕ) (bs : List ℕ) → radix ≤ 36 → AllDigits radix bs → IsUtf8 bs
digits_utf8 radix bs r h = IsUtf8-from_ascii bs (ascii_at radix bs r h)
