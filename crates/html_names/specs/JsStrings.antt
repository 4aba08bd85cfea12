-- How a text is written as a string in a script: the JSON string that `serde_json` writes, in which `<` and the two
-- line separators of ECMAScript are replaced, so that it can stand in a `script` element.
use Rattle.std.specs.Prelude.{◌≡◌, ◌≢◌, ℕ, ◌/◌, ◌%◌, Bool, if◌then◌else◌, ◌||◌, ◌==◌, nat_lt, List, [], ◌∷◌, ◌++◌, codes, drop, length, Option, None, Some}
use Rattle.std.specs.Char.{IsScalar, encode_utf8, digit_char}
use Rattle.std.specs.List.{flat_map}
use Rattle.std.specs.Str.{IsUtf8, chars}
use Rattle.fizz_text.specs.Ascii.{backslash, backspace, carriage_return, form_feed, less_than_sign, line_feed, quotation_mark, small_b, small_f, small_n, small_r, small_t, small_u, space, tab}

-- The letter behind the backslash of a short escape: `\"`, `\\`, `\b`, `\t`, `\n`, `\f`, `\r`.
abbrev pub short_letter : ℕ → Option ℕ
short_letter c =
    if c == quotation_mark then Some quotation_mark else
    if c == backslash then Some backslash else
    if c == backspace then Some small_b else
    if c == tab then Some small_t else
    if c == line_feed then Some small_n else
    if c == form_feed then Some small_f else
    if c == carriage_return then Some small_r else None

-- The two characters beyond ASCII that end a line in ECMAScript.
abbrev pub line_separator : ℕ
line_separator = 0x2028

abbrev pub paragraph_separator : ℕ
paragraph_separator = 0x2029

-- Characters that have no short escape and don't stand for themselves: the other controls, `<`, U+2028 and U+2029.
abbrev pub is_coded : ℕ → Bool
is_coded c = nat_lt c space || c == less_than_sign || c == line_separator || c == paragraph_separator

-- The code in four lower-case hexadecimal digits.
abbrev pub four_digits : ℕ → List ℕ
four_digits c =
    digit_char (c / 16 / 16 / 16) ∷ digit_char (c / 16 / 16 % 16) ∷ digit_char (c / 16 % 16) ∷ digit_char (c % 16) ∷ []

-- The escape of a character by its code: `\u` and the four digits.
abbrev pub coded_escape : ℕ → List ℕ
coded_escape c = backslash ∷ small_u ∷ four_digits c

-- How a character is written where this is the letter of its short escape, if it has one.
abbrev pub spelling_by : Option ℕ → ℕ → List ℕ
spelling_by (Some letter) c = backslash ∷ letter ∷ []
spelling_by None c = if is_coded c then coded_escape c else encode_utf8 c

-- How a character is written: by its short escape, as `\u` with four digits, or as itself.
abbrev pub char_spelling : ℕ → List ℕ
char_spelling c = spelling_by (short_letter c) c

-- The string of a text: its characters between two quotes.
abbrev pub js_string : List ℕ → List ℕ
js_string text = codes "\"" ++ (flat_map char_spelling (chars text) ++ codes "\"")

-- No character's spelling begins the bytes.
abbrev pub BeginsNoChar : List ℕ → Type 0
BeginsNoChar bytes = (c : ℕ) (more : List ℕ) → IsScalar c → bytes ≢ char_spelling c ++ more

-- No text's string begins the bytes.
abbrev pub BeginsNoString : List ℕ → Type 0
BeginsNoString bytes = (text more : List ℕ) → IsUtf8 text → bytes ≢ js_string text ++ more

-- The string of the text, with this length, begins the bytes.
pub record BeginsWithString (bytes text : List ℕ) (len : ℕ) : Type 0 where
  pub utf8 : IsUtf8 text
  pub whole : len ≡ length (js_string text)
  pub is : bytes ≡ js_string text ++ drop len bytes
