-- What a reader has read, and when its calls refuse. `OutOfMemory` may always come.
use Rattle.std.specs.Prelude.{◌≡◌, ◌≢◌, ℕ, true, Option, Some, None, List, [], ◌++◌, length, ◌⊎◌}
use Rattle.html_read.specs.declared.token.Token.{Token}
use Rattle.html_read.specs.declared.fault.ReadKind.{ReadKind}
use Rattle.html_read.specs.declared.fault.ReadFault.{ReadFault}
use Rattle.html_read.specs.declared.fault.ReadFault.TheVariants as feeding
use Rattle.html_read.specs.declared.fault.FinishFault.{FinishFault}
use Rattle.html_read.specs.declared.fault.FinishFault.TheVariants as finishing
use Rattle.html_read.specs.Tokens.{spelling, spellings, is_text, place_of, IsToken}
use Rattle.html_read.specs.Faults.{Splits, HasFault}

-- What a reader holds: the rest that no token ended, the place where it begins, and the fault that was met.
pub record ReaderState : Type 0 where
  pub rest : List ℕ
  pub place : ℕ
  pub fault : Option (ℕ × ReadKind)

-- Before the first byte.
abbrev pub nothing_read : ReaderState
nothing_read = record { rest = []; place = 0; fault = None }

-- The reader was fed these bytes, in whatever pieces, and gave these tokens.
pub record HasRead (bytes : List ℕ) (toks : List Token) (reader : ReaderState) : Type 0 where
  pub split : Splits bytes toks reader.rest
  pub place_is : reader.place ≡ length (spellings toks)
  pub sound : reader.fault ≡ None

-- A reader that meets a fault: whatever bytes it was fed before and whatever tokens it gave.
pub record MeetsFault (old : ReaderState) (piece : List ℕ) (before : List Token) (at : ℕ) (kind : ReadKind)
    (new : ReaderState) : Type 0 where
  pub fault_is : new.fault ≡ Some (at, kind)
  pub cause : (bytes : List ℕ) (toks : List Token) → HasRead bytes toks old
      → HasFault (bytes ++ piece) (toks ++ before) at kind

-- One that has met it answers the same, and no token.
pub record MetFault (old : ReaderState) (before : List Token) (at : ℕ) (kind : ReadKind) (new : ReaderState) : Type 0 where
  pub fault_is : old.fault ≡ Some (at, kind)
  pub nothing : before ≡ []
  pub same : new ≡ old

abbrev pub FeedCause : ReaderState → List ℕ → ReaderState → ReadFault → Type 0
FeedCause old piece new (feeding.Bad before at kind) =
    ((old.fault ≡ None) × MeetsFault old piece before.items at kind new) ⊎ MetFault old before.items at kind new
FeedCause old piece new feeding.OutOfMemory = new ≡ old

-- The rest is no whole token: nothing that is a token is so spelled, and it isn't empty.
pub record IsUnfinished (reader : ReaderState) (at : ℕ) : Type 0 where
  pub sound : reader.fault ≡ None
  pub place_is : at ≡ reader.place
  pub some : reader.rest ≢ []
  pub no_token : (tok : Token) → IsToken tok → reader.rest ≡ spelling tok → ⊥

abbrev pub FinishCause : ReaderState → FinishFault → Type 0
FinishCause reader (finishing.Bad at kind) = reader.fault ≡ Some (at, kind)
FinishCause reader (finishing.Unfinished at) = IsUnfinished reader at
FinishCause reader finishing.OutOfMemory = Unit {0}

-- The token is the text that the rest is.
pub record IsOpenText (reader : ReaderState) (tok : Token) : Type 0 where
  pub sound : reader.fault ≡ None
  pub text : is_text tok ≡ true
  pub is_token : IsToken tok
  pub place_is : place_of tok ≡ reader.place
  pub spelled : reader.rest ≡ spelling tok

-- The last token, or none where nothing is left.
abbrev pub IsLast : ReaderState → Option Token → Type 0
IsLast reader None = (reader.fault ≡ None) × (reader.rest ≡ [])
IsLast reader (Some tok) = IsOpenText reader tok

-- The text so far, or none where the rest is no text.
abbrev pub IsTextSoFar : ReaderState → Option Token → Type 0
IsTextSoFar reader None = (tok : Token) → IsOpenText reader tok → ⊥
IsTextSoFar reader (Some tok) = IsOpenText reader tok

-- The same fault again, and no token.
abbrev pub IsAgain : ℕ → ReadKind → ReadFault → Type 0
IsAgain at kind (feeding.Bad before a k) = (before.items ≡ []) × (a ≡ at) × (k ≡ kind)
IsAgain at kind feeding.OutOfMemory = ⊥
