-- Numbers in lower-case hexadecimal.
use Rattle.std.specs.Prelude.{◌≡◌, ℕ, ◌<◌, ◌≤◌, ◌⊎◌, if◌then◌else◌, ◌==◌, List, length, map, All, slice_index, codes}
use Rattle.std.specs.Char.{digit_char}
use Rattle.std.specs.Int.Digits.{digits_of}
use Rattle.std.specs.Str.Parse.{digits_value}
use Rattle.fizz_text.specs.Ascii.{digit_0, digit_9, small_a, small_f}

-- a digit: `0` to `9` or `a` to `f`
abbrev pub IsHexDigit : ℕ → Type 0
IsHexDigit c = ((digit_0 ≤ c) × (c ≤ digit_9)) ⊎ ((small_a ≤ c) × (c ≤ small_f))

-- the text is the hexadecimal numeral of n: digits whose value is n, without a leading zero
pub record IsHexadecimal (text : List ℕ) (n : ℕ) : Type 0 where
  pub digits : All IsHexDigit text
  pub value : digits_value 16 text ≡ n
  pub present : 0 < length text
  pub no_leading_zero : slice_index text 0 ≡ digit_0 → length text ≡ 1

-- the numeral of n, its highest digit first
abbrev pub hexadecimal : ℕ → List ℕ
hexadecimal n = if n == 0 then codes "0" else map digit_char (digits_of 16 n)
