-- Where a text has no tokens: the first place at which no lexeme stands, and what is wrong there.
use Rattle.std.specs.Prelude.{◌≡◌, ℕ, ◌==◌, if◌then◌else◌, List, [], ◌∷◌, ◌++◌, length, codes}
use Rattle.fizz_text.specs.Ascii.{right_curly_bracket}
use Rattle.jsx_lex.specs.Characters.{is_number_start, is_quote, begins}
use Rattle.jsx_lex.specs.ModeStack.{ModesAt, first_modes}
use Rattle.jsx_lex.specs.Lexemes.{Lexeme, BeginsWith, spellings, Leads}
use Rattle.jsx_lex.specs.declared.mode.Mode.{Mode}
use Rattle.jsx_lex.specs.declared.mode.Mode.TheVariants.{Code, Tag, Children, Close}
use Rattle.jsx_lex.specs.declared.fault.LexKind.{LexKind}
use Rattle.jsx_lex.specs.declared.fault.LexKind.TheVariants.{Char, Number, Str, Comment, Bare, Brace, End}
use Rattle.jsx_lex.specs.declared.fault.LexFault.{LexFault}
use Rattle.jsx_lex.specs.declared.fault.LexFault.TheVariants.{Bad, OutOfMemory}

-- What is wrong where no lexeme stands, by what the text begins with there. In Code: a digit or `-` begins a Number
-- that isn't one, a quote a string without an end or with a wrong escape or a line feed, `/*` a comment without an
-- end, and `}` closes no `{`. In Tag a quote begins a string without an end. In Children it is a `}` or `>`. Any
-- other character begins no token. The text's end comes too early.
abbrev pub kind_at : Mode → List ℕ → LexKind
kind_at _ [] = End
kind_at Code (b ∷ bs) =
    if is_number_start b then Number
    else if is_quote b then Str
    else if begins (codes "/*") (b ∷ bs) then Comment
    else if b == right_curly_bracket then Brace
    else Char
kind_at Tag (b ∷ bs) = if is_quote b then Str else Char
kind_at Children (b ∷ bs) = Bare
kind_at Close (b ∷ bs) = Char

-- Lexemes lead up to the place. There no lexeme stands, and it isn't the end of the text in the first Code.
pub record IsFaultAt (text : List ℕ) (at : ℕ) (kind : LexKind) : Type 0 where
  pub lexemes : List Lexeme
  pub rest : List ℕ
  pub modes : ModesAt
  pub split : text ≡ spellings lexemes ++ rest
  pub place : at ≡ length (spellings lexemes)
  pub leads : Leads first_modes lexemes rest modes
  pub stuck : (x : Lexeme) → BeginsWith modes x rest → ⊥
  pub unfinished : (rest ≡ []) × (modes ≡ first_modes) → ⊥
  pub kind_is : kind ≡ kind_at modes.mode rest

-- the cause of each refusal
abbrev pub HasCause : List ℕ → LexFault → Type 0
HasCause text (Bad at kind) = IsFaultAt text at kind
HasCause text OutOfMemory = Unit {0}
