-- Where bytes stop being the prefix of a page, and what is wrong there.
use Rattle.std.specs.Prelude.{◌≡◌, ◌≢◌, ℕ, ◌+◌, ◌<◌, Bool, true, false, not, ◌||◌, ◌==◌, ◌⊎◌, List, [], ◌∷◌, ◌++◌, codes, length, take, slice_index}
use Rattle.std.specs.List.{list_all}
use Rattle.std.specs.Str.{IsUtf8}
use Rattle.fizz_text.specs.declared.attribute.Attr.{Attr}
use Rattle.fizz_text.specs.Ascii.{less_than_sign, quotation_mark}
use Rattle.html_names.specs.Escape.{escape_of, is_open_entity}
use Rattle.html_read.specs.declared.token.Token.{Token}
use Rattle.html_read.specs.declared.fault.ReadKind.{ReadKind}
use Rattle.html_read.specs.declared.fault.ReadKind.TheVariants.{Name, Attribute, Entity, Comment, Text, Utf8}
use Rattle.html_names.specs.Names.{is_letter, is_digit}
use Rattle.html_read.specs.Names.{IsTagName, IsAttributeName}
use Rattle.html_names.specs.Printing.{tag_prefix}
use Rattle.html_read.specs.Tokens.{AreAttributes, spelling, spellings, is_text, IsToken, AreTokens, Tokenizes}

-- The bytes can go on so that they are tokens.
abbrev pub IsAlive : List ℕ → Type 0
IsAlive bytes = (more : List ℕ) × (toks : List Token) × Tokenizes (bytes ++ more) toks

-- The place of the first byte with which the bytes cannot go on.
pub record IsFirstDead (bytes : List ℕ) (at : ℕ) : Type 0 where
  pub within : at < length bytes
  pub alive : IsAlive (take at bytes)
  pub dead : ¬ IsAlive (take (at + 1) bytes)

-- A token that has begun and not ended: a text, which may always go on, or another token of which bytes are to come.
abbrev pub IsBegun : List ℕ → Type 0
IsBegun rest = (more : List ℕ) × (tok : Token) × IsToken tok × (rest ++ more ≡ spelling tok) × ((is_text tok ≡ true) ⊎ (more ≢ []))

-- A tag, a comment or a script has begun.
abbrev pub begins_tag : List ℕ → Bool
begins_tag [] = false
begins_tag (b ∷ bs) = b == less_than_sign

-- whether the last token is a text, of tokens that follow a text or not
abbrev pub ends_in_text : Bool → List Token → Bool
ends_in_text after_text [] = after_text
ends_in_text after_text (tok ∷ toks) = ends_in_text (is_text tok) toks

-- Of the bytes so far, these tokens have ended and the rest has not. A text ends where a `<` follows it.
pub record Splits (bytes : List ℕ) (toks : List Token) (rest : List ℕ) : Type 0 where
  pub whole : bytes ≡ spellings toks ++ rest
  pub tokens : AreTokens toks
  pub begun : (rest ≡ []) ⊎ IsBegun rest
  pub ended : ends_in_text false toks ≡ true → begins_tag rest ≡ true

-- The bytes split into tokens and a rest.
pub record HasSplit (bytes : List ℕ) : Type 0 where
  pub toks : List Token
  pub rest : List ℕ
  pub split : Splits bytes toks rest

-- The prefix splits into the first of the tokens and a rest of its own.
pub record SplitsBefore (prefix : List ℕ) (toks : List Token) : Type 0 where
  pub first : List Token
  pub rest : List ℕ
  pub further : List Token
  pub split : Splits prefix first rest
  pub all : toks ≡ first ++ further

-- The kinds of faults. Each is told of the rest, which no token ended, and of the byte that cannot follow it.

-- The run is what the rest has of a text or of an attribute's value, as it is written.
abbrev pub IsOpenValue : List ℕ → List ℕ → Type 0
IsOpenValue rest run = (name : List ℕ) × (attributes : List Attr) × (attribute : List ℕ)
    × IsTagName name × AreAttributes attributes × IsAttributeName attribute
    × (rest ≡ tag_prefix name attributes ++ (codes " " ++ (attribute ++ (codes "=\"" ++ run))))
    × (list_all (λ b. not (b == quotation_mark)) run ≡ true)

abbrev pub IsRun : List ℕ → List ℕ → Type 0
IsRun rest run = ((begins_tag rest ≡ false) × (run ≡ rest)) ⊎ IsOpenValue rest run

abbrev pub IsUtf8Prefix : List ℕ → Type 0
IsUtf8Prefix bytes = (more : List ℕ) × IsUtf8 (bytes ++ more)

-- the bytes of a text or of an attribute's value can't become UTF-8
abbrev pub IsAtUtf8 : List ℕ → ℕ → Type 0
IsAtUtf8 rest byte = (run : List ℕ) × IsRun rest run × ¬ IsUtf8Prefix (run ++ byte ∷ [])

-- within one of the five replacements that an `&` began
abbrev pub IsAtEntity : List ℕ → Type 0
IsAtEntity rest = (text : List ℕ) × (begun : List ℕ) × IsRun rest (escape_of text ++ begun) × (is_open_entity begun ≡ true)

-- outside tags, comments and scripts
abbrev pub IsAtText : List ℕ → Type 0
IsAtText rest = begins_tag rest ≡ false

-- after `<!`
abbrev pub IsAtComment : List ℕ → Type 0
IsAtComment rest = (more : List ℕ) × (rest ≡ codes "<!" ++ more)

-- in a start tag or a void tag, at or after the first byte that follows a whole name and is no letter and no digit
abbrev pub IsAtAttribute : List ℕ → ℕ → Type 0
IsAtAttribute rest byte = (name : List ℕ) × (after : ℕ) × (more : List ℕ)
    × IsTagName name × (rest ++ byte ∷ [] ≡ codes "<" ++ (name ++ after ∷ more)) × ((is_letter after || is_digit after) ≡ false)

-- The kind is the first that applies, and `Name` where none does.
abbrev pub HasKind : List ℕ → ℕ → ReadKind → Type 0
HasKind rest byte Utf8 = IsAtUtf8 rest byte
HasKind rest byte Entity = ¬ IsAtUtf8 rest byte × IsAtEntity rest
HasKind rest byte Text = ¬ IsAtUtf8 rest byte × ¬ IsAtEntity rest × IsAtText rest
HasKind rest byte Comment =
    ¬ IsAtUtf8 rest byte × ¬ IsAtEntity rest × ¬ IsAtText rest × IsAtComment rest
HasKind rest byte Attribute =
    ¬ IsAtUtf8 rest byte × ¬ IsAtEntity rest × ¬ IsAtText rest × ¬ IsAtComment rest × IsAtAttribute rest byte
HasKind rest byte Name =
    ¬ IsAtUtf8 rest byte × ¬ IsAtEntity rest × ¬ IsAtText rest × ¬ IsAtComment rest × ¬ IsAtAttribute rest byte

-- The bytes have a fault at this place, of this kind, and these tokens end before it.
pub record HasFault (bytes : List ℕ) (toks : List Token) (at : ℕ) (kind : ReadKind) : Type 0 where
  pub rest : List ℕ
  pub first : IsFirstDead bytes at
  pub split : Splits (take at bytes) toks rest
  pub kind_is : HasKind rest (slice_index bytes at) kind
