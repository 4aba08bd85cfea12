-- Words in a row, as the lexer meets them: each stands in the mode to which those before it lead.
use Rattle.std.specs.Prelude.{◌≡◌, ◌≢◌, ℕ, ◌+◌, List, [], ◌∷◌, length, Option, Some, None, ℤ}
use Rattle.std.specs.Fmt.{signed_decimal}
use Rattle.jsx_lex.specs.Characters.{is_name_part, is_tag_name_part}
use Rattle.jsx_lex.specs.ModeStack.{ModesAt, first_modes, modes_after}
use Rattle.jsx_lex.specs.Meanings.{number_of}
use Rattle.jsx_lex.specs.Words.{IsName, IsNumber}
use Rattle.jsx_lex.specs.declared.mode.Mode.{Mode}
use Rattle.jsx_lex.specs.declared.mode.Mode.TheVariants.{Code, Tag, Children, Close}
use Rattle.jsx_lex.specs.declared.mode.Change.{Change}
use Rattle.jsx_lex.specs.declared.mode.Change.TheVariants.{Keep, Push, Turn, Pop}
use Rattle.jsx_lex.specs.declared.word.Word.{Word}
use Rattle.jsx_lex.specs.declared.word.Word.TheVariants as w
use Rattle.jsx_lex.specs.declared.word.Punctuator.{Punctuator}
use Rattle.jsx_lex.specs.declared.word.Punctuator.TheVariants as p
use Rattle.jsx_print.specs.Spelling.{name_bytes, number_bytes, string_bytes, sign_bytes}

-- What a sign does to the modes, where it is one of the mode's.
abbrev pub change_of : Mode → Punctuator → Option Change
change_of Code p.OpenBrace = Some (Push Code)
change_of Code p.CloseBrace = Some Pop
change_of Code p.Less = Some (Push Tag)
change_of Code p.Greater = None
change_of Code p.SlashGreater = None
change_of Code p.LessSlash = None
change_of Code _ = Some Keep
change_of Tag p.SlashGreater = Some Pop
change_of Tag p.Greater = Some (Turn Children)
change_of Tag p.OpenBrace = Some (Push Code)
change_of Tag p.Assign = Some Keep
change_of Tag _ = None
change_of Children p.LessSlash = Some (Turn Close)
change_of Children p.Less = Some (Push Tag)
change_of Children p.OpenBrace = Some (Push Code)
change_of Children _ = None
change_of Close p.Greater = Some Pop
change_of Close _ = None

abbrev pub IsNameOf : Mode → List ℕ → Type 0
IsNameOf Code text = IsName is_name_part text
IsNameOf Tag text = IsName is_tag_name_part text
IsNameOf Children text = ⊥
IsNameOf Close text = IsName is_tag_name_part text

-- The decimals of the number are a Number of the lexer, and mean it.
abbrev pub IsNumeralOf : ℤ → Type 0
IsNumeralOf z = IsNumber (signed_decimal z) × (number_of (signed_decimal z) ≡ z)

-- No `/>` comes directly after a `<`, which would be `</` and `>` in one.
abbrev pub NoSlash : List Word → Type 0
NoSlash [] = Unit {0}
NoSlash (word ∷ words) = word ≢ w.Sign p.SlashGreater

-- The words stand in a row, and lead from the first modes to the last.
abbrev pub Row : ModesAt → List Word → ModesAt → Type 0
Row modes [] last = modes ≡ last
Row modes (w.Name text place ∷ words) last = IsNameOf modes.mode text × Row modes words last
Row modes (w.Number z ∷ words) last = (modes.mode ≡ Code) × IsNumeralOf z × Row modes words last
Row modes (w.Text text ∷ words) last = (modes.mode ≡ Code) × Row modes words last
Row modes (w.JsxText text ∷ words) last = ⊥
Row modes (w.Sign sign ∷ words) last =
    (change : Change) × (change_of modes.mode sign ≡ Some change) × (modes ≡ first_modes → sign ≢ p.CloseBrace)
    × (sign ≡ p.Less → NoSlash words) × Row (modes_after change modes) words last

-- The words with each name at its byte in their text, which begins at this place.
abbrev pub placed : ℕ → List Word → List Word
placed from [] = []
placed from (w.Name text place ∷ words) = w.Name text from ∷ placed (from + length (name_bytes text)) words
placed from (w.Number z ∷ words) = w.Number z ∷ placed (from + length (number_bytes z)) words
placed from (w.Text text ∷ words) = w.Text text ∷ placed (from + length (string_bytes text)) words
placed from (w.JsxText text ∷ words) = w.JsxText text ∷ placed (from + length text) words
placed from (w.Sign sign ∷ words) = w.Sign sign ∷ placed (from + length (sign_bytes sign)) words
