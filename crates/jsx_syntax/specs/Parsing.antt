-- What parsing answers: the file that the tokens spell, or the first token that no file has there.
use Rattle.std.specs.Prelude.{◌≡◌, ℕ, List, [], ◌∷◌, ◌++◌, length}
use Rattle.jsx_lex.specs.declared.token.Token.{Token}
use Rattle.jsx_lex.specs.TokenMeanings.{words_of}
use Rattle.jsx_syntax.specs.declared.file.File.{File}
use Rattle.jsx_syntax.specs.declared.fault.SyntaxFault.{SyntaxFault}
use Rattle.jsx_syntax.specs.declared.fault.SyntaxFault.TheVariants.{Bad, OutOfMemory}
use Rattle.jsx_syntax.specs.Grammar.{SpellsFile}
use Rattle.jsx_syntax.specs.Refusals.{IsFirstRefused}
use Rattle.jsx_syntax.specs.Kinds.{IsWanted}

-- the tokens of the text spell the file
abbrev pub IsSpelled : List ℕ → List Token → File → Type 0
IsSpelled text tokens file = SpellsFile (words_of text tokens) file

-- the first byte of the next token, or the text's length
abbrev pub place_of : List ℕ → List Token → ℕ
place_of text [] = length text
place_of text (token ∷ tokens) = token.from

-- Some file goes on from the tokens before the place, and none has the token there.
pub record IsRefusedAt (text : List ℕ) (tokens : List Token) (place : ℕ) : Type 0 where
  pub before : List Token
  pub after : List Token
  pub split : tokens ≡ before ++ after
  pub place_is : place ≡ place_of text after
  pub refused : IsFirstRefused (words_of text tokens) (words_of text before) (words_of text after)

-- The cause of each refusal, and what is wanted in the token's place.
abbrev pub HasCause : List ℕ → List Token → SyntaxFault → Type 0
HasCause text tokens (Bad place wanted) =
    (cause : IsRefusedAt text tokens place) × IsWanted (words_of text cause.before) (words_of text cause.after) wanted
HasCause text tokens OutOfMemory = Unit {0}
