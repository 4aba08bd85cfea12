-- Where the shell of a page ends, and where its bytes may be cut so that no token is torn and no element is open.
use Rattle.std.specs.Prelude.{◌≡◌, ℕ, ◌+◌, ◌-◌, ◌<◌, ◌≤◌, ◌⊎◌, ◌&&◌, ◌==◌, if◌then◌else◌, List, [], ◌∷◌, length, take, Option, Some, None, unwrap_or}
use Rattle.html_read.specs.declared.token.Token.{Token}
use Rattle.html_read.specs.declared.token.Token.TheVariants as tok
use Rattle.html_read.specs.Tokens.{Tokenizes}
use Rattle.html_read.specs.Faults.{Splits}
use Rattle.document_machine.specs.Views.{is_container}

-- How many elements are open after a token.
abbrev pub open_after : ℕ → Token → ℕ
open_after n (tok.Start name attributes from) = n + 1
open_after n (tok.End name from) = n - 1
open_after n (tok.Void name attributes from) = n
open_after n (tok.Text text from) = n
open_after n (tok.Comment which from) = n
open_after n (tok.Script body from) = n

abbrev pub still_open : ℕ → List Token → ℕ
still_open n [] = n
still_open n (t ∷ ts) = still_open (open_after n t) ts

-- Where late content begins: at the first script, or at the first hidden container at the top.
abbrev pub first_late : List ℕ → ℕ → List Token → Option ℕ
first_late prefix n [] = None
first_late prefix n (tok.Start name attributes from ∷ ts) =
    if n == 0 && is_container prefix name attributes then Some from else first_late prefix (n + 1) ts
first_late prefix n (tok.End name from ∷ ts) = first_late prefix (n - 1) ts
first_late prefix n (tok.Void name attributes from ∷ ts) = first_late prefix n ts
first_late prefix n (tok.Text text from ∷ ts) = first_late prefix n ts
first_late prefix n (tok.Comment which from ∷ ts) = first_late prefix n ts
first_late prefix n (tok.Script body from ∷ ts) = Some from

-- The shell ends where late content begins, or with the bytes where there is none.
pub record IsShellEnd (prefix bytes : List ℕ) (at : ℕ) : Type 0 where
  pub toks : List Token
  pub rest : List ℕ
  pub split : Splits bytes toks rest
  pub is : at ≡ unwrap_or (first_late prefix 0 toks) (length bytes)

-- The tokens up to a place are whole, and close what they open.
pub record IsClosedAt (bytes : List ℕ) (at : ℕ) : Type 0 where
  pub within : at ≤ length bytes
  pub toks : List Token
  pub are : Tokenizes (take at bytes) toks
  pub closed : still_open 0 toks ≡ 0

-- The rest places of a page: its shell's end, and each later place at which its tokens are whole and no element is
-- open.
pub record IsRestPlace (prefix bytes : List ℕ) (at : ℕ) : Type 0 where
  pub shell : ℕ
  pub is_end : IsShellEnd prefix bytes shell
  pub place : (at ≡ shell) ⊎ ((shell < at) × IsClosedAt bytes at)
