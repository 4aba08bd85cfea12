-- Where late content begins in the bytes of a page, and bytes that close what they open.
use Rattle.std.specs.Prelude.{◌≡◌, ℕ, ◌<◌, Bool, true, false, List, [], ◌∷◌, Some}
use Rattle.html_read.specs.Faults.{Splits}
use Rattle.html_read.specs.Tokens.{Tokenizes, is_text}
use Rattle.html_read.specs.declared.token.Token.{Token}
use Rattle.html_read.specs.declared.token.Token.TheVariants as tok
use Rattle.document_machine.specs.Places.{first_late, open_after, still_open}
use Rattle.document_machine.specs.Views.{is_container}

-- A script, or the start of a hidden container: late content, where it stands at the top.
abbrev pub is_late : List ℕ → Token → Bool
is_late prefix (tok.Start name attributes from) = is_container prefix name attributes
is_late prefix (tok.End name from) = false
is_late prefix (tok.Void name attributes from) = false
is_late prefix (tok.Text text from) = false
is_late prefix (tok.Comment which from) = false
is_late prefix (tok.Script body from) = true

-- The first late content of the bytes begins at this place.
pub record HasLateAt (prefix bytes : List ℕ) (at : ℕ) : Type 0 where
  pub toks : List Token
  pub rest : List ℕ
  pub split : Splits bytes toks rest
  pub is : first_late prefix 0 toks ≡ Some at

-- The bytes are tokens that close what they open.
pub record IsClosed (bytes : List ℕ) : Type 0 where
  pub toks : List Token
  pub are : Tokenizes bytes toks
  pub closed : still_open 0 toks ≡ 0

-- Tokens before each of which an element is open, where so many are at first, and after which none is.
abbrev pub ClosesAtEnd : ℕ → List Token → Type 0
ClosesAtEnd open_now [] = open_now ≡ 0
ClosesAtEnd open_now (t ∷ ts) = (0 < open_now) × ClosesAtEnd (open_after open_now t) ts

-- An element with all that stands in it, or one token that is no text, as a script.
abbrev pub AreOneItem : List Token → Type 0
AreOneItem [] = ⊥
AreOneItem (t ∷ ts) = (is_text t ≡ false) × ClosesAtEnd (open_after 0 t) ts

pub record IsOneItem (bytes : List ℕ) : Type 0 where
  pub toks : List Token
  pub are : Tokenizes bytes toks
  pub one : AreOneItem toks
