-- A text of the component language is a row of lexemes: spaces and comments, which are skipped, and tokens. Each is
-- one of its mode and goes as far as it can. The mode is kept by all lexemes but certain signs.
use Rattle.std.specs.Prelude.{◌≡◌, ◌≢◌, ℕ, ◌⊎◌, List, [], ◌∷◌, ◌++◌, Option, Some, None, codes}
use Rattle.jsx_lex.specs.Characters.{is_name_part, is_tag_name_part, is_number_follower, is_jsx_text, Ends}
use Rattle.jsx_lex.specs.ModeStack.{ModesAt, first_modes, modes_after}
use Rattle.jsx_lex.specs.SignTable.{row, signs_of, first_sign}
use Rattle.jsx_lex.specs.Words.{IsSpace, IsLineComment, IsBlockComment, IsName, IsNumber, IsStr, IsTagStr, IsJsxText}
use Rattle.jsx_lex.specs.declared.mode.Mode.{Mode}
use Rattle.jsx_lex.specs.declared.mode.Mode.TheVariants.{Code, Tag, Children, Close}
use Rattle.jsx_lex.specs.declared.mode.Change.{Change}
use Rattle.jsx_lex.specs.declared.mode.Change.TheVariants.{Keep}
use Rattle.jsx_lex.specs.declared.token.TokenKind.{TokenKind}
use Rattle.jsx_lex.specs.declared.token.TokenKind.TheVariants.{Name, Number, Str, TagStr, JsxText, Sign}

-- The kind is None for what is skipped.
pub record Lexeme : Type 0 where
  pub kind : Option TokenKind
  pub bytes : List ℕ
  pub change : Change

-- The bytes of each kind in each mode, in front of what comes after them. Signs stand below.
abbrev pub HasForm : Mode → Option TokenKind → List ℕ → List ℕ → Type 0
HasForm Code None word after = IsSpace word ⊎ (IsLineComment word after ⊎ IsBlockComment word)
HasForm Code (Some Name) word after = IsName is_name_part word × Ends is_name_part after
HasForm Code (Some Number) word after = IsNumber word × Ends is_number_follower after
HasForm Code (Some Str) word after = IsStr word
HasForm Tag None word after = IsSpace word
HasForm Tag (Some Name) word after = IsName is_tag_name_part word × Ends is_tag_name_part after
HasForm Tag (Some TagStr) word after = IsTagStr word
HasForm Children (Some JsxText) word after = IsJsxText word × Ends is_jsx_text after
HasForm Close None word after = IsSpace word
HasForm Close (Some Name) word after = IsName is_tag_name_part word × Ends is_tag_name_part after
HasForm _ _ word after = ⊥

-- the sign of the mode's table, with what it does to the modes
abbrev pub IsSign : Mode → Lexeme → List ℕ → Type 0
IsSign mode x after =
    (x.kind ≡ Some Sign) × (first_sign (signs_of mode) (x.bytes ++ after) ≡ Some (row x.bytes x.change))

-- A `}` of Code stands only where a `{` is open.
abbrev pub ClosesOpen : ModesAt → Lexeme → Type 0
ClosesOpen modes x = modes ≡ first_modes → x.bytes ≢ codes "}"

-- the lexeme x may stand in these modes, in front of what comes after it
pub record Stands (modes : ModesAt) (x : Lexeme) (after : List ℕ) : Type 0 where
  pub form : (HasForm modes.mode x.kind x.bytes after × (x.change ≡ Keep)) ⊎ IsSign modes.mode x after
  pub closes : ClosesOpen modes x

-- the text begins with the lexeme x
pub record BeginsWith (modes : ModesAt) (x : Lexeme) (text : List ℕ) : Type 0 where
  pub after : List ℕ
  pub split : text ≡ x.bytes ++ after
  pub stands : Stands modes x after

-- the bytes of lexemes in a row
abbrev pub spellings : List Lexeme → List ℕ
spellings [] = []
spellings (x ∷ xs) = x.bytes ++ spellings xs

-- In front of the rest the lexemes stand in a row, and lead from the first modes to the last.
abbrev pub Leads : ModesAt → List Lexeme → List ℕ → ModesAt → Type 0
Leads modes [] rest last = modes ≡ last
Leads modes (x ∷ xs) rest last = Stands modes x (spellings xs ++ rest) × Leads (modes_after x.change modes) xs rest last
