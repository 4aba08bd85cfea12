-- Which tokens a text has.
use Rattle.std.specs.Prelude.{◌≡◌, ℕ, ◌+◌, ◌<◌, ◌≤◌, List, [], ◌∷◌, ◌++◌, length, Option, Some, None}
use Rattle.jsx_lex.specs.ModeStack.{first_modes}
use Rattle.jsx_lex.specs.Lexemes.{Lexeme, spellings, Leads}
use Rattle.jsx_lex.specs.declared.token.Token.{Token}
use Rattle.jsx_lex.specs.declared.token.TokenKind.{TokenKind}

-- the token of a lexeme of this kind at a place, unless it is skipped
abbrev pub token_at : ℕ → Option TokenKind → ℕ → List Token
token_at from None size = []
token_at from (Some kind) size = record { kind = kind; from = from; to = from + size } ∷ []

-- the tokens among lexemes of which the first stands at this place
abbrev pub tokens_from : ℕ → List Lexeme → List Token
tokens_from from [] = []
tokens_from from (x ∷ xs) = token_at from x.kind (length x.bytes) ++ tokens_from (from + length x.bytes) xs

-- The text is a row of lexemes from the first Code back to the first Code, and these are its tokens.
pub record AreTokens (text : List ℕ) (tokens : List Token) : Type 0 where
  pub lexemes : List Lexeme
  pub split : text ≡ spellings lexemes
  pub leads : Leads first_modes lexemes [] first_modes
  pub tokens_are : tokens ≡ tokens_from 0 lexemes

-- The tokens stand in order between two places. None is empty, and none begins before the one before it ends.
abbrev pub InOrder : ℕ → ℕ → List Token → Type 0
InOrder from to [] = from ≤ to
InOrder from to (t ∷ ts) = (from ≤ t.from) × (t.from < t.to) × InOrder t.to to ts
