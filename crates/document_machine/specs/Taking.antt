-- What the parts of a step do and why they refuse, for its private functions.
use Rattle.std.specs.Str.{bytes_eq}
use Rattle.std.specs.Prelude.{◌≡◌, ◌≢◌, Option, Some, None, ℕ, ◌+◌, ◌≤◌, Bool, true, false, drop, List, [], ◌∷◌, ◌++◌, length, Ok, Err}
use Rattle.dom_forest.specs.Edits.{DomState}
use Rattle.fizz_instructions.specs.Bodies.{function_of}
use Rattle.fizz_instructions.specs.Sending.{with_function}
use Rattle.fizz_instructions.specs.Reading.{Says, IsNoBody, CallsUnknown}
use Rattle.fizz_instructions.specs.declared.instruction.Instruction.{Instruction}
use Rattle.fizz_instructions.specs.declared.instruction.SentFunctions.{SentFunctions}
use Rattle.html_read.specs.declared.token.Token.{Token}
use Rattle.html_read.specs.declared.token.Token.TheVariants as tok
use Rattle.html_read.specs.Reading.{ReaderState, HasRead, IsOpenText, IsTextSoFar}
use Rattle.document_machine.specs.declared.building.OpenElement.{OpenElement}
use Rattle.document_machine.specs.declared.edits.EditFault.{EditFault}
use Rattle.document_machine.specs.declared.edits.EditFault.TheVariants as edit
use Rattle.document_machine.specs.declared.fault.MachineFault.{MachineFault}
use Rattle.document_machine.specs.declared.fault.MachineFault.TheVariants.{Html, UnknownFunction, NoSuchId, NotBoundary, OutOfMemory}
use Rattle.document_machine.specs.Running.{PageState, at_first, edit_of}
use Rattle.document_machine.specs.Documents.{Runs, LeavesNoRest, Steps, most_open}
use Rattle.document_machine.specs.Faults.{Refuses, HasMachineFault}

-- One element more would be too many.
abbrev pub IsOpenRefusal : List OpenElement → ℕ → MachineFault → Type 0
IsOpenRefusal opened from (Html at) = (at ≡ from) × (most_open ≤ length opened)
IsOpenRefusal opened from (UnknownFunction at) = ⊥
IsOpenRefusal opened from (NoSuchId at id) = ⊥
IsOpenRefusal opened from (NotBoundary at) = ⊥
IsOpenRefusal opened from OutOfMemory = Unit {0}

-- Whether the innermost open element has the name.
abbrev pub is_innermost : List ℕ → List OpenElement → Bool
is_innermost name [] = false
is_innermost name (inner ∷ outer) = bytes_eq inner.name name

-- It has, and is open no more.
abbrev pub Closes : List ℕ → List OpenElement → List OpenElement → Type 0
Closes name old new = (is_innermost name old ≡ true) × (new ≡ drop 1 old)

abbrev pub IsCloseRefusal : List ℕ → List OpenElement → ℕ → MachineFault → Type 0
IsCloseRefusal name opened from (Html at) = (at ≡ from) × (is_innermost name opened ≡ false)
IsCloseRefusal name opened from (UnknownFunction at) = ⊥
IsCloseRefusal name opened from (NoSuchId at id) = ⊥
IsCloseRefusal name opened from (NotBoundary at) = ⊥
IsCloseRefusal name opened from OutOfMemory = ⊥

-- A script's instruction was said and followed.
pub record Follows (prefix body opened : List ℕ) (dom : DomState) (known : SentFunctions) (dom' : DomState) (known' : SentFunctions) : Type 0 where
  pub instruction : Instruction
  pub said : Says prefix body known instruction
  pub acts : edit_of prefix opened instruction dom ≡ Ok dom'
  pub learned : known' ≡ with_function known (function_of instruction)

-- It was said, and the document lacks what it needs.
pub record FailsToApply (prefix body opened : List ℕ) (dom : DomState) (known : SentFunctions) (fault : EditFault) : Type 0 where
  pub instruction : Instruction
  pub said : Says prefix body known instruction
  pub acts : edit_of prefix opened instruction dom ≡ Err fault

abbrev pub IsScriptRefusal : List ℕ → List ℕ → List ℕ → DomState → SentFunctions → ℕ → MachineFault → Type 0
IsScriptRefusal prefix body opened dom known from (Html at) = (at ≡ from) × IsNoBody prefix body
IsScriptRefusal prefix body opened dom known from (UnknownFunction at) = (at ≡ from) × CallsUnknown prefix body known
IsScriptRefusal prefix body opened dom known from (NoSuchId at id) = (at ≡ from) × FailsToApply prefix body opened dom known (edit.NoSuchId id)
IsScriptRefusal prefix body opened dom known from (NotBoundary at) = (at ≡ from) × FailsToApply prefix body opened dom known edit.NotBoundary
IsScriptRefusal prefix body opened dom known from OutOfMemory = Unit {0}

-- Some tokens were followed, and the next was not.
pub record StopsIn (prefix : List ℕ) (built : PageState) (toks : List Token) (fault : MachineFault) : Type 0 where
  pub before : List Token
  pub stop : Token
  pub after : List Token
  pub now : PageState
  pub are : toks ≡ before ++ stop ∷ after
  pub steps : Steps prefix built before now
  pub refuses : Refuses prefix now stop fault

abbrev pub IsTakingCause : List ℕ → PageState → List Token → MachineFault → Type 0
IsTakingCause prefix built toks (Html at) = StopsIn prefix built toks (Html at)
IsTakingCause prefix built toks (UnknownFunction at) = StopsIn prefix built toks (UnknownFunction at)
IsTakingCause prefix built toks (NoSuchId at id) = StopsIn prefix built toks (NoSuchId at id)
IsTakingCause prefix built toks (NotBoundary at) = StopsIn prefix built toks (NotBoundary at)
IsTakingCause prefix built toks OutOfMemory = Unit {0}

-- A reader was fed the bytes, and their tokens were followed.
pub record Went (prefix bytes : List ℕ) (reader : ReaderState) (built : PageState) : Type 0 where
  pub toks : List Token
  pub read : HasRead bytes toks reader
  pub steps : Steps prefix at_first toks built

-- The bytes have the fault with the next piece, whatever they are.
abbrev pub Finds : List ℕ → ReaderState → PageState → List ℕ → MachineFault → Type 0
Finds prefix reader built piece fault = (bytes : List ℕ) → Went prefix bytes reader built → HasMachineFault prefix at_first (bytes ++ piece) fault

abbrev pub IsPieceCause : List ℕ → ReaderState → PageState → List ℕ → MachineFault → Type 0
IsPieceCause prefix reader built piece (Html at) = Finds prefix reader built piece (Html at)
IsPieceCause prefix reader built piece (UnknownFunction at) = Finds prefix reader built piece (UnknownFunction at)
IsPieceCause prefix reader built piece (NoSuchId at id) = Finds prefix reader built piece (NoSuchId at id)
IsPieceCause prefix reader built piece (NotBoundary at) = Finds prefix reader built piece (NotBoundary at)
IsPieceCause prefix reader built piece OutOfMemory = Unit {0}

-- The bytes run to what is built, and leave no rest.
pub record RunsToEnd (prefix bytes : List ℕ) (built : PageState) : Type 0 where
  pub run : Runs prefix at_first bytes built
  pub no_rest : LeavesNoRest run

-- The bytes end in a rest that is no token, which begins at the place.
pub record LeavesRest (prefix bytes : List ℕ) (at : ℕ) : Type 0 where
  pub built : PageState
  pub run : Runs prefix at_first bytes built
  pub no_text : run.last ≡ []
  pub some : run.rest ≢ []
  pub place : at + length run.rest ≡ length bytes

abbrev pub IsEndCause : List ℕ → List ℕ → MachineFault → Type 0
IsEndCause prefix bytes (Html at) = LeavesRest prefix bytes at
IsEndCause prefix bytes (UnknownFunction at) = ⊥
IsEndCause prefix bytes (NoSuchId at id) = ⊥
IsEndCause prefix bytes (NotBoundary at) = ⊥
IsEndCause prefix bytes OutOfMemory = Unit {0}

-- The text that has not ended, or none.
abbrev pub IsTextNow : ReaderState → Option (List ℕ) → Type 0
IsTextNow reader None = IsTextSoFar reader None
IsTextNow reader (Some text) = (from : ℕ) × IsOpenText reader (tok.Text text from)
