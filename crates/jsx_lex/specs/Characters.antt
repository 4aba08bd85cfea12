-- The characters that the tokens of the component language are made of. A text is a list of bytes in UTF-8; a byte
-- from 128 on is part of a character that stands only in strings, comments and text between tags.
use Rattle.std.specs.Prelude.{◌≡◌, ℕ, Bool, false, not, ◌||◌, ◌==◌, List, [], ◌∷◌, nat_eq}
use Rattle.std.specs.List.{starts_with}
use Rattle.std.specs.Char.{is_ascii_alphabetic, is_ascii_digit}
use Rattle.fizz_text.specs.Ascii.{apostrophe, carriage_return, dollar_sign, full_stop, greater_than_sign, hyphen, left_curly_bracket, less_than_sign, line_feed, low_line, quotation_mark, right_curly_bracket, space, tab}

-- space, tab, carriage return, line feed
abbrev pub is_space : ℕ → Bool
is_space b = ((b == space || b == tab) || b == carriage_return) || b == line_feed

-- a letter A to Z or a to z, `_` or `$`
abbrev pub is_name_start : ℕ → Bool
is_name_start b = (is_ascii_alphabetic b || b == low_line) || b == dollar_sign

-- what may follow in a Name of Code
abbrev pub is_name_part : ℕ → Bool
is_name_part b = is_name_start b || is_ascii_digit b

-- what may follow in a Name of Tag or Close: `-` too
abbrev pub is_tag_name_part : ℕ → Bool
is_tag_name_part b = is_name_part b || b == hyphen

-- a digit or `-`
abbrev pub is_number_start : ℕ → Bool
is_number_start b = is_ascii_digit b || b == hyphen

-- what may not follow a Number directly: a letter, a digit, `_`, `$` or `.`
abbrev pub is_number_follower : ℕ → Bool
is_number_follower b = is_name_part b || b == full_stop

-- `"` or `'`
abbrev pub is_quote : ℕ → Bool
is_quote b = b == quotation_mark || b == apostrophe

-- anything but a line feed
abbrev pub is_in_line : ℕ → Bool
is_in_line b = not (b == line_feed)

-- what may stand in the text between tags: anything but `{`, `}`, `<` and `>`
abbrev pub is_jsx_text : ℕ → Bool
is_jsx_text b = not (((b == left_curly_bracket || b == right_curly_bracket) || b == less_than_sign) || b == greater_than_sign)

-- The text's first character, if any, fails the test, so that a run of such characters ends before it.
abbrev pub Ends : (ℕ → Bool) → List ℕ → Type 0
Ends test [] = Unit {0}
Ends test (b ∷ bs) = test b ≡ false

-- the text begins with these bytes
abbrev pub begins : List ℕ → List ℕ → Bool
begins front text = starts_with nat_eq text front
