-- Where bytes are no document of the machine, and what is wrong there.
use Rattle.std.specs.Prelude.{◌≡◌, ◌≢◌, ℕ, ◌≤◌, ◌+◌, ◌⊎◌, List, [], ◌∷◌, ◌++◌, length, Err}
use Rattle.html_read.specs.declared.token.Token.{Token}
use Rattle.html_read.specs.declared.token.Token.TheVariants as tok
use Rattle.html_read.specs.declared.fault.ReadKind.{ReadKind}
use Rattle.html_read.specs.Tokens.{AreTokens, spelling, spellings}
use Rattle.html_read.specs.Faults.{HasFault, Splits}
use Rattle.fizz_instructions.specs.Reading.{Says, IsNoBody, CallsUnknown}
use Rattle.fizz_instructions.specs.declared.instruction.Instruction.{Instruction}
use Rattle.document_machine.specs.declared.building.OpenElement.{OpenElement}
use Rattle.document_machine.specs.declared.edits.EditFault.TheVariants as edit
use Rattle.document_machine.specs.declared.fault.MachineFault.{MachineFault}
use Rattle.document_machine.specs.declared.fault.MachineFault.TheVariants.{Html, UnknownFunction, NoSuchId, NotBoundary}
use Rattle.document_machine.specs.Running.{PageState, ids_of, edit_of}
use Rattle.document_machine.specs.Documents.{most_open, Steps, IsTextAtEnd}

-- What a token does that can't be followed. An end tag closes nothing, or another element than the innermost; a start
-- tag opens one more than may be open; a script says nothing, calls what isn't known, or meets a document on which it
-- can't act.
pub data Refuses (prefix : List ℕ) : PageState → Token → MachineFault → Type 0 where
  closes_nothing : (b : PageState) (name : List ℕ) (from : ℕ) → b.opened ≡ [] →
      Refuses prefix b (tok.End name from) (Html from)
  closes_another : (b : PageState) (name : List ℕ) (inner : OpenElement) (outer : List OpenElement) (from : ℕ) →
      b.opened ≡ inner ∷ outer → inner.name ≢ name → Refuses prefix b (tok.End name from) (Html from)
  opens_too_many : (b : PageState) (name : List ℕ) (attributes : _) (from : ℕ) → most_open ≤ length b.opened →
      Refuses prefix b (tok.Start name attributes from) (Html from)
  says_nothing : (b : PageState) (body : List ℕ) (from : ℕ) → IsNoBody prefix body →
      Refuses prefix b (tok.Script body from) (Html from)
  calls_unknown : (b : PageState) (body : List ℕ) (from : ℕ) → CallsUnknown prefix body b.known →
      Refuses prefix b (tok.Script body from) (UnknownFunction from)
  misses : (b : PageState) (body : List ℕ) (from : ℕ) (i : Instruction) (id : List ℕ) → Says prefix body b.known i →
      edit_of prefix (ids_of b.opened) i b.dom ≡ Err (edit.NoSuchId id) → Refuses prefix b (tok.Script body from) (NoSuchId from id)
  finds_no_boundary : (b : PageState) (body : List ℕ) (from : ℕ) (i : Instruction) → Says prefix body b.known i →
      edit_of prefix (ids_of b.opened) i b.dom ≡ Err edit.NotBoundary → Refuses prefix b (tok.Script body from) (NotBoundary from)

-- The first token that can't be followed, after tokens that could.
pub record StopsAtToken (prefix : List ℕ) (start : PageState) (bytes : List ℕ) (fault : MachineFault) : Type 0 where
  pub before : List Token
  pub stop : Token
  pub more : List ℕ
  pub built : PageState
  pub tokens : AreTokens (before ++ stop ∷ [])
  pub are : bytes ≡ spellings before ++ spelling stop ++ more
  pub steps : Steps prefix start before built
  pub refuses : Refuses prefix built stop fault

-- The bytes stop being the front of a page, after tokens that could be followed.
pub record StopsAtByte (prefix : List ℕ) (start : PageState) (bytes : List ℕ) (fault : MachineFault) : Type 0 where
  pub before : List Token
  pub at : ℕ
  pub kind : ReadKind
  pub built : PageState
  pub reader : HasFault bytes before at kind
  pub steps : Steps prefix start before built
  pub is : fault ≡ Html at

abbrev pub HasMachineFault : List ℕ → PageState → List ℕ → MachineFault → Type 0
HasMachineFault prefix start bytes fault = StopsAtToken prefix start bytes fault ⊎ StopsAtByte prefix start bytes fault

-- The bytes have some fault.
pub record HasSomeFault (prefix : List ℕ) (start : PageState) (bytes : List ℕ) : Type 0 where
  pub fault : MachineFault
  pub has : HasMachineFault prefix start bytes fault

abbrev pub IsEndingAt : List ℕ → List Token → List OpenElement → ℕ → ℕ → Type 0
IsEndingAt [] last opened size at = (opened ≢ []) × (at ≡ size)
IsEndingAt (b ∷ bs) [] opened size at = at + length (b ∷ bs) ≡ size
IsEndingAt (b ∷ bs) (t ∷ ts) opened size at = (opened ≢ []) × (at ≡ size)

-- At the end: the place of a rest that is no whole token, or else the length where an element is open.
pub record EndsEarly (prefix : List ℕ) (start : PageState) (bytes : List ℕ) (at : ℕ) : Type 0 where
  pub toks : List Token
  pub rest : List ℕ
  pub last : List Token
  pub built : PageState
  pub split : Splits bytes toks rest
  pub text : IsTextAtEnd rest last
  pub steps : Steps prefix start (toks ++ last) built
  pub is : IsEndingAt rest last built.opened (length bytes) at
