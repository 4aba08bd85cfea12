-- The form of a token's bytes, by its kind.
use Rattle.std.specs.Prelude.{◌<◌, ℕ, List, length}
use Rattle.jsx_lex.specs.Characters.{is_tag_name_part}
use Rattle.jsx_lex.specs.Words.{IsName, IsNumber, IsStr, IsTagStr, IsJsxText}
use Rattle.jsx_lex.specs.declared.token.TokenKind.{TokenKind}
use Rattle.jsx_lex.specs.declared.token.TokenKind.TheVariants.{Name, Number, Str, TagStr, JsxText, Sign}

-- A Name of Code has the form of one of Tag, too.
abbrev pub IsWord : TokenKind → List ℕ → Type 0
IsWord Name word = IsName is_tag_name_part word
IsWord Number word = IsNumber word
IsWord Str word = IsStr word
IsWord TagStr word = IsTagStr word
IsWord JsxText word = IsJsxText word
IsWord Sign word = 0 < length word
