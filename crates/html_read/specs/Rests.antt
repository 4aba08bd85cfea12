-- What bytes are that split or don't, and what rest a split leaves.
use Rattle.std.specs.Prelude.{◌≡◌, ℕ, true, List}
use Rattle.html_read.specs.declared.fault.ReadKind.{ReadKind}
use Rattle.html_read.specs.declared.token.Token.{Token}
use Rattle.html_read.specs.Faults.{HasFault}
use Rattle.html_read.specs.Tokens.{IsToken, is_text, spelling}

-- The bytes have a fault somewhere.
pub record IsFaulty (bytes : List ℕ) : Type 0 where
  pub toks : List Token
  pub at : ℕ
  pub kind : ReadKind
  pub fault : HasFault bytes toks at kind

-- The bytes are a text by themselves, which may always go on.
pub record IsWholeText (bytes : List ℕ) : Type 0 where
  pub token : Token
  pub is_token : IsToken token
  pub text : is_text token ≡ true
  pub spelled : bytes ≡ spelling token
