-- What stands between the quotes of a string in Code: characters that stand for themselves, and escapes. The escapes
-- are those of a string of ECMAScript that JSON has too, less `\/`, `\b` and `\f`, with `\'`.
use Rattle.std.specs.Prelude.{◌≢◌, ℕ, ◌==◌, if◌then◌else◌, List, [], ◌∷◌, Option, Some, None, unwrap_or, encode_utf8, IsSome}
use Rattle.std.specs.Str.Parse.{digits_value, AllDigits}
use Rattle.std.specs.Char.{IsScalar}
use Rattle.fizz_text.specs.Ascii.{apostrophe, backslash, carriage_return, line_feed, quotation_mark, small_n, small_r, small_t, small_u, tab}

-- a byte that stands for itself; a backslash with a letter or a sign; `\u` with four hexadecimal digits
pub data StringPart : Type 0 where
  plain : ℕ → StringPart
  escaped : ℕ → StringPart
  unicode : ℕ → ℕ → ℕ → ℕ → StringPart

abbrev pub spelling_of : StringPart → List ℕ
spelling_of (plain b) = b ∷ []
spelling_of (escaped c) = backslash ∷ c ∷ []
spelling_of (unicode a b c d) = backslash ∷ small_u ∷ a ∷ b ∷ c ∷ d ∷ []

-- what `\\`, `\"`, `\'`, `\n`, `\r` and `\t` stand for
abbrev pub escape_value : ℕ → Option ℕ
escape_value c =
    if c == backslash then Some backslash
    else if c == quotation_mark then Some quotation_mark
    else if c == apostrophe then Some apostrophe
    else if c == small_n then Some line_feed
    else if c == small_r then Some carriage_return
    else if c == small_t then Some tab
    else None

abbrev pub hex_value : ℕ → ℕ → ℕ → ℕ → ℕ
hex_value a b c d = digits_value 16 (a ∷ b ∷ c ∷ d ∷ [])

-- The parts that may stand in a string with this quote. A surrogate is no Unicode scalar value.
abbrev pub IsPart : ℕ → StringPart → Type 0
IsPart quote (plain b) = (b ≢ quote) × (b ≢ 92) × (b ≢ 10)
IsPart quote (escaped c) = IsSome (escape_value c)
IsPart quote (unicode a b c d) = AllDigits 16 (a ∷ b ∷ c ∷ d ∷ []) × IsScalar (hex_value a b c d)

-- the bytes that a part stands for
abbrev pub meaning_of : StringPart → List ℕ
meaning_of (plain b) = b ∷ []
meaning_of (escaped c) = unwrap_or (escape_value c) 0 ∷ []
meaning_of (unicode a b c d) = encode_utf8 (hex_value a b c d)
