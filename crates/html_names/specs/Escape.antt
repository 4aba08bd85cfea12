-- How text and the values of attributes are written in HTML, after `escapeTextForBrowser` of React's server
-- renderer, and how the bytes so written are read back.
use Rattle.std.specs.Prelude.{◌≡◌, ◌≢◌, ℕ, ◌<◌, Bool, true, false, if◌then◌else◌, not, ◌&&◌, ◌||◌, ◌==◌, List, [], ◌∷◌, ◌++◌, ◌⊎◌, take, drop, length, nat_lt, codes}
use Rattle.std.specs.List.{flat_map, list_any}
use Rattle.std.specs.Str.{bytes_eq}
use Rattle.fizz_text.specs.Ascii.{ampersand, apostrophe, greater_than_sign, less_than_sign, quotation_mark}
use Rattle.html_names.specs.declared.escape.EntityFault.{EntityFault}
use Rattle.html_names.specs.declared.escape.EntityFault.TheVariants.{BadEntity, OutOfMemory}

-- How a byte is written: `"`, `&`, `'`, `<` and `>` have replacements, each other byte stands for itself.
abbrev pub spelling_of : ℕ → List ℕ
spelling_of b =
    if b == quotation_mark then codes "&quot;" else
    if b == ampersand then codes "&amp;" else
    if b == apostrophe then codes "&#x27;" else
    if b == less_than_sign then codes "&lt;" else
    if b == greater_than_sign then codes "&gt;" else b ∷ []

-- The escaped text.
abbrev pub escape_of : List ℕ → List ℕ
escape_of text = flat_map spelling_of text

-- The five replacements.
abbrev pub entities : List (List ℕ)
entities = codes "&quot;" ∷ codes "&amp;" ∷ codes "&#x27;" ∷ codes "&lt;" ∷ codes "&gt;" ∷ []

-- One of the five replacements begins the bytes.
abbrev pub begins_entity : List ℕ → Bool
begins_entity bytes = list_any (λ e. bytes_eq (take (length e) bytes) e) entities

-- One of `"`, `'`, `<` and `>`.
abbrev pub is_mark : ℕ → Bool
is_mark b = b == quotation_mark || (b == apostrophe || (b == less_than_sign || b == greater_than_sign))

-- The bytes begin with what no escaped text has at any place: one of `"`, `'`, `<`, `>`, or an `&` that begins
-- none of the five replacements.
abbrev pub begins_badly : List ℕ → Bool
begins_badly [] = false
begins_badly (b ∷ bs) = is_mark b || (b == ampersand && not (begins_entity (b ∷ bs)))

-- None of `"`, `'`, `<` and `>`.
pub record IsNoMark (b : ℕ) : Type 0 where
  pub no_quotation_mark : b ≢ quotation_mark
  pub no_apostrophe : b ≢ apostrophe
  pub no_less_than_sign : b ≢ less_than_sign
  pub no_greater_than_sign : b ≢ greater_than_sign

-- No place is bad: so it is with escaped texts, and with no other bytes.
abbrev pub IsClean : List ℕ → Type 0
IsClean bytes = (k : ℕ) → begins_badly (drop k bytes) ≡ false

-- The first bad place.
pub record IsFirstBad (bytes : List ℕ) (at : ℕ) : Type 0 where
  pub here : begins_badly (drop at bytes) ≡ true
  pub before : (k : ℕ) → k < at → begins_badly (drop k bytes) ≡ false

-- The bytes are an escaped text.
abbrev pub IsEscaped : List ℕ → Type 0
IsEscaped bytes = (text : List ℕ) × (escape_of text ≡ bytes)

-- The bytes are a prefix of some escaped text. A reader in pieces goes on exactly while this holds.
abbrev pub IsEscapedPrefix : List ℕ → Type 0
IsEscapedPrefix bytes = (text : List ℕ) × (more : List ℕ) × (bytes ++ more ≡ escape_of text)

-- A replacement that has begun and isn't whole.
abbrev pub is_open_entity : List ℕ → Bool
is_open_entity bytes =
    nat_lt 0 (length bytes)
    && list_any (λ e. nat_lt (length bytes) (length e) && bytes_eq (take (length bytes) e) bytes) entities

-- The bytes are an escaped text, and then nothing or a replacement that isn't whole. This holds of exactly the
-- prefixes of escaped texts.
pub record IsTextAndOpen (bytes : List ℕ) : Type 0 where
  pub text : List ℕ
  pub rest : List ℕ
  pub is : bytes ≡ escape_of text ++ rest
  pub ending : (rest ≡ []) ⊎ (is_open_entity rest ≡ true)

-- When `unescape` refuses. `OutOfMemory` may always come.
abbrev pub HasEntityCause : List ℕ → EntityFault → Type 0
HasEntityCause bytes (BadEntity at) = IsFirstBad bytes at
HasEntityCause bytes OutOfMemory = Unit {0}

-- No byte's spelling begins the bytes. This is for private functions.
abbrev pub BeginsWithNoSpelling : List ℕ → Type 0
BeginsWithNoSpelling bytes = (bytes ≡ []) ⊎ (begins_badly bytes ≡ true)
