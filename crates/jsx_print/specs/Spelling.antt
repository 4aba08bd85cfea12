-- How the printer writes words. A space stands after a word that another could run on from: a name, a number, `=` and
-- `!`. The lexer skips it in every mode in which the printer writes such a word.
use Rattle.std.specs.Prelude.{ℕ, ◌==◌, if◌then◌else◌, List, [], ◌∷◌, ◌++◌, codes, ℤ}
use Rattle.std.specs.Fmt.{signed_decimal}
use Rattle.std.specs.List.{flat_map}
use Rattle.fizz_text.specs.Ascii.{backslash, line_feed, quotation_mark, space}
use Rattle.jsx_lex.specs.declared.word.Word.{Word}
use Rattle.jsx_lex.specs.declared.word.Word.TheVariants as w
use Rattle.jsx_lex.specs.declared.word.Punctuator.{Punctuator}
use Rattle.jsx_lex.specs.declared.word.Punctuator.TheVariants as p

abbrev pub sign_text : Punctuator → List ℕ
sign_text p.StrictEqual = codes "==="
sign_text p.StrictNotEqual = codes "!=="
sign_text p.Arrow = codes "=>"
sign_text p.AndAnd = codes "&&"
sign_text p.OrOr = codes "||"
sign_text p.OpenBrace = codes "{"
sign_text p.CloseBrace = codes "}"
sign_text p.OpenParen = codes "("
sign_text p.CloseParen = codes ")"
sign_text p.OpenBracket = codes "["
sign_text p.CloseBracket = codes "]"
sign_text p.Comma = codes ","
sign_text p.Semicolon = codes ";"
sign_text p.Colon = codes ":"
sign_text p.Dot = codes "."
sign_text p.Question = codes "?"
sign_text p.Not = codes "!"
sign_text p.Assign = codes "="
sign_text p.Plus = codes "+"
sign_text p.Less = codes "<"
sign_text p.Greater = codes ">"
sign_text p.SlashGreater = codes "/>"
sign_text p.LessSlash = codes "</"

-- a space after a sign that begins a longer one of its mode
abbrev pub gap_after : Punctuator → List ℕ
gap_after p.Not = space ∷ []
gap_after p.Assign = space ∷ []
gap_after _ = []

abbrev pub sign_bytes : Punctuator → List ℕ
sign_bytes sign = sign_text sign ++ gap_after sign

-- In a string `"`, `\` and a line feed are escaped, and each other byte stands for itself.
abbrev pub escaped_byte : ℕ → List ℕ
escaped_byte b =
    if b == quotation_mark then codes "\\\""
    else if b == backslash then codes "\\\\"
    else if b == line_feed then codes "\\n"
    else b ∷ []

abbrev pub escaped : List ℕ → List ℕ
escaped text = flat_map escaped_byte text

abbrev pub name_bytes : List ℕ → List ℕ
name_bytes text = text ++ space ∷ []

abbrev pub number_bytes : ℤ → List ℕ
number_bytes z = signed_decimal z ++ space ∷ []

-- a string of Code
abbrev pub string_bytes : List ℕ → List ℕ
string_bytes text = quotation_mark ∷ (escaped text ++ quotation_mark ∷ [])

-- No printed file has a text between tags: it stands as a string in braces.
abbrev pub word_bytes : Word → List ℕ
word_bytes (w.Name text place) = name_bytes text
word_bytes (w.Number z) = number_bytes z
word_bytes (w.Text text) = string_bytes text
word_bytes (w.JsxText text) = text
word_bytes (w.Sign sign) = sign_bytes sign

abbrev pub spelled : List Word → List ℕ
spelled words = flat_map word_bytes words
