-- What tokens mean.
use Rattle.std.specs.Prelude.{◌≡◌, ℕ, ◌-◌, ◌==◌, if◌then◌else◌, List, [], ◌∷◌, ◌++◌, length, take, drop, encode_utf8, unwrap_or, ℤ, pos, neg_ℤ}
use Rattle.std.specs.List.{flat_map}
use Rattle.std.specs.Str.Parse.{digits_value}
use Rattle.fizz_text.specs.Ascii.{backslash, hyphen, small_u}
use Rattle.jsx_lex.specs.StringParts.{escape_value, meaning_of}
use Rattle.jsx_lex.specs.Words.{IsStr}
use Rattle.jsx_lex.specs.References.{decoded_text}
use Rattle.jsx_lex.specs.Cleaning.{clean_text}

-- the value of a Number
abbrev pub number_of : List ℕ → ℤ
number_of [] = pos 0
number_of (b ∷ bs) = if b == hyphen then neg_ℤ (pos (digits_value 10 bs)) else pos (digits_value 10 (b ∷ bs))

-- The text of a Str of Code: what its parts stand for.
abbrev pub IsStringText : List ℕ → List ℕ → Type 0
IsStringText word text = (s : IsStr word) × (text ≡ flat_map meaning_of s.parts)

-- How much of an escape was read: nothing, its backslash, or `\u` and some digits.
pub data Escape : Type 0 where
  none : Escape
  begun : Escape
  digits : List ℕ → Escape

abbrev pub escape_after : Escape → ℕ → Escape
escape_after none b = if b == backslash then begun else none
escape_after begun b = if b == small_u then digits [] else none
escape_after (digits read) b = if length read == 3 then none else digits (read ++ b ∷ [])

-- what a byte stands for by itself, or as the last one of an escape
abbrev pub last_meaning : Escape → ℕ → List ℕ
last_meaning none b = if b == backslash then [] else b ∷ []
last_meaning begun b = if b == small_u then [] else unwrap_or (escape_value b) 0 ∷ []
last_meaning (digits read) b = if length read == 3 then encode_utf8 (digits_value 16 (read ++ b ∷ [])) else []

abbrev pub text_after : Escape → List ℕ → List ℕ
text_after read [] = []
text_after read (b ∷ bs) = last_meaning read b ++ text_after (escape_after read b) bs

-- what stands between the quotes of a string
abbrev pub between_quotes : List ℕ → List ℕ
between_quotes word = take (length word - 2) (drop 1 word)

-- The same text, read from the left.
abbrev pub string_text_of : List ℕ → List ℕ
string_text_of word = text_after none (between_quotes word)

-- The text of a Str of Tag: what stands between its quotes, with references replaced.
abbrev pub tag_text_of : List ℕ → List ℕ
tag_text_of word = decoded_text (between_quotes word)

-- The text of a JsxText: it is cleaned, and then its references are replaced.
abbrev pub jsx_text_of : List ℕ → List ℕ
jsx_text_of word = decoded_text (clean_text word)
