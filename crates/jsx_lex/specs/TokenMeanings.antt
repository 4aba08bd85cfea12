-- What the tokens of a text say to a parser: its words.
use Rattle.std.specs.Prelude.{ℕ, List, [], ◌∷◌, map, codes, slice_range, unwrap_or}
use Rattle.std.specs.Map.{lookup}
use Rattle.std.specs.Str.{bytes_eq}
use Rattle.jsx_lex.specs.Meanings.{number_of, string_text_of, tag_text_of, jsx_text_of}
use Rattle.jsx_lex.specs.declared.token.Token.{Token}
use Rattle.jsx_lex.specs.declared.token.TokenKind.{TokenKind}
use Rattle.jsx_lex.specs.declared.token.TokenKind.TheVariants.{Name, Number, Str, TagStr, JsxText, Sign}
use Rattle.jsx_lex.specs.declared.word.Punctuator.{Punctuator}
use Rattle.jsx_lex.specs.declared.word.Punctuator.TheVariants as p
use Rattle.jsx_lex.specs.declared.word.Word.{Word}
use Rattle.jsx_lex.specs.declared.word.Word.TheVariants as w

-- the marks with their spellings
unfoldable pub punctuator_rows : List (List ℕ × Punctuator)
punctuator_rows =
    (codes "===", p.StrictEqual) ∷
    (codes "!==", p.StrictNotEqual) ∷
    (codes "=>", p.Arrow) ∷
    (codes "&&", p.AndAnd) ∷
    (codes "||", p.OrOr) ∷
    (codes "{", p.OpenBrace) ∷
    (codes "}", p.CloseBrace) ∷
    (codes "(", p.OpenParen) ∷
    (codes ")", p.CloseParen) ∷
    (codes "[", p.OpenBracket) ∷
    (codes "]", p.CloseBracket) ∷
    (codes ",", p.Comma) ∷
    (codes ";", p.Semicolon) ∷
    (codes ":", p.Colon) ∷
    (codes ".", p.Dot) ∷
    (codes "?", p.Question) ∷
    (codes "!", p.Not) ∷
    (codes "=", p.Assign) ∷
    (codes "+", p.Plus) ∷
    (codes ">", p.Greater) ∷
    (codes "/>", p.SlashGreater) ∷
    (codes "</", p.LessSlash) ∷
    []

-- The mark that is spelled so. What is none of the others is `<`.
abbrev pub punctuator_of : List ℕ → Punctuator
punctuator_of bytes = unwrap_or (lookup (bytes_eq bytes) punctuator_rows) p.Less

-- The word of a token of this kind, which stands at this place and has these bytes.
abbrev pub word_of : TokenKind → ℕ → List ℕ → Word
word_of Name place bytes = w.Name bytes place
word_of Number place bytes = w.Number (number_of bytes)
word_of Str place bytes = w.Text (string_text_of bytes)
word_of TagStr place bytes = w.Text (tag_text_of bytes)
word_of JsxText place bytes = w.JsxText (jsx_text_of bytes)
word_of Sign place bytes = w.Sign (punctuator_of bytes)

abbrev pub word_at : List ℕ → Token → Word
word_at text t = word_of t.kind t.from (slice_range text t.from t.to)

abbrev pub words_of : List ℕ → List Token → List Word
words_of text tokens = map (word_at text) tokens
