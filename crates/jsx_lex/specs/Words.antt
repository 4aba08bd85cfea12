-- The forms of lexemes, signs apart.
use Rattle.std.specs.Prelude.{◌≡◌, ℕ, ◌^◌, ◌<◌, ◌≤◌, Bool, true, false, not, ◌||◌, ◌==◌, ◌⊎◌, List, [], ◌∷◌, ◌++◌, All, codes}
use Rattle.std.specs.List.{flat_map, list_all}
use Rattle.std.specs.Char.{is_ascii_digit}
use Rattle.std.specs.Str.Parse.{digits_value}
use Rattle.fizz_text.specs.Ascii.{asterisk, slash}
use Rattle.jsx_lex.specs.Characters.{is_space, is_name_start, is_quote, is_in_line, is_jsx_text, Ends, begins}
use Rattle.jsx_lex.specs.StringParts.{StringPart, spelling_of, IsPart}

-- one space, tab, carriage return or line feed
abbrev pub IsSpace : List ℕ → Type 0
IsSpace [] = ⊥
IsSpace (b ∷ []) = is_space b ≡ true
IsSpace (b ∷ c ∷ bs) = ⊥

-- `//` and what follows in its line
pub record IsLineComment (word after : List ℕ) : Type 0 where
  pub body : List ℕ
  pub spelled : word ≡ slash ∷ slash ∷ body
  pub in_line : list_all is_in_line body ≡ true
  pub longest : Ends is_in_line after

-- whether `*/` stands in the bytes
abbrev pub has_comment_end : List ℕ → Bool
has_comment_end [] = false
has_comment_end (b ∷ bs) = begins (codes "*/") (b ∷ bs) || has_comment_end bs

-- `/*`, and everything up to the next `*/`
pub record IsBlockComment (word : List ℕ) : Type 0 where
  pub body : List ℕ
  pub spelled : word ≡ slash ∷ asterisk ∷ (body ++ asterisk ∷ slash ∷ [])
  pub first_end : has_comment_end body ≡ false

-- a letter, `_` or `$`, and characters of the test
abbrev pub IsName : (ℕ → Bool) → List ℕ → Type 0
IsName is_part [] = ⊥
IsName is_part (b ∷ bs) = (is_name_start b ≡ true) × (list_all is_part bs ≡ true)

-- `0`, or a digit 1 to 9 with further digits
abbrev pub IsDigits : List ℕ → Type 0
IsDigits [] = ⊥
IsDigits (d ∷ ds) = (list_all is_ascii_digit (d ∷ ds) ≡ true) × (d ≡ 48 → ds ≡ [])

-- such digits, after a `-` or not, with a value in the range of i64. There is no `-0`.
abbrev pub IsNumber : List ℕ → Type 0
IsNumber [] = ⊥
IsNumber (b ∷ bs) =
    (IsDigits (b ∷ bs) × (digits_value 10 (b ∷ bs) < 2 ^ 63))
    ⊎ ((b ≡ 45) × IsDigits bs × (0 < digits_value 10 bs) × (digits_value 10 bs ≤ 2 ^ 63))

-- a string of Code
pub record IsStr (word : List ℕ) : Type 0 where
  pub quote : ℕ
  pub parts : List StringPart
  pub quoted : is_quote quote ≡ true
  pub valid : All (IsPart quote) parts
  pub spelled : word ≡ quote ∷ (flat_map spelling_of parts ++ quote ∷ [])

-- a string of Tag runs to the same quote
pub record IsTagStr (word : List ℕ) : Type 0 where
  pub quote : ℕ
  pub body : List ℕ
  pub quoted : is_quote quote ≡ true
  pub first_end : list_all (λ b. not (b == quote)) body ≡ true
  pub spelled : word ≡ quote ∷ (body ++ quote ∷ [])

-- one character or more between tags
abbrev pub IsJsxText : List ℕ → Type 0
IsJsxText [] = ⊥
IsJsxText (b ∷ bs) = list_all is_jsx_text (b ∷ bs) ≡ true
