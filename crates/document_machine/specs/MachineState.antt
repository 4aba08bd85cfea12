-- What a machine holds, and when its calls refuse. Want of memory may always come.
use Rattle.std.specs.Prelude.{◌≡◌, ◌⊎◌, Option, Some, None, ℕ, ◌+◌, List, ◌++◌, length, Result, Ok, Err}
use Rattle.html_read.specs.declared.token.Token.{Token}
use Rattle.html_read.specs.Reading.{ReaderState, HasRead, nothing_read}
use Rattle.document_machine.specs.declared.fault.MachineFault.{MachineFault}
use Rattle.document_machine.specs.declared.fault.MachineFault.TheVariants.{Html, UnknownFunction, NoSuchId, NotBoundary, OutOfMemory}
use Rattle.document_machine.specs.declared.stop.Stop.{Stop}
use Rattle.document_machine.specs.declared.stop.Stop.TheVariants.{GoesOn, Faulted, NoMemory}
use Rattle.document_machine.specs.declared.view.View.{View as Seen}
use Rattle.document_machine.specs.Running.{PageState, at_first}
use Rattle.document_machine.specs.Documents.{Steps, Runs, RunsWhole}
use Rattle.document_machine.specs.Faults.{HasMachineFault, EndsEarly, Refuses}
use Rattle.document_machine.specs.Shown.{view_of_parts}
use Rattle.document_machine.specs.Views.{view_of}

-- The prefix of the page's ids, the reader with its rest, what is built, and whether the machine goes on.
pub record MachineState : Type 0 where
  pub prefix : List ℕ
  pub reader : ReaderState
  pub built : PageState
  pub stop : Stop

-- Before the first byte.
abbrev pub nothing_run : List ℕ → MachineState
nothing_run prefix = record { prefix = prefix; reader = nothing_read; built = at_first; stop = GoesOn }

-- The machine was fed these bytes, in whatever pieces, and could follow their tokens.
pub record HasRun (bytes : List ℕ) (machine : MachineState) : Type 0 where
  pub toks : List Token
  pub read : HasRead bytes toks machine.reader
  pub steps : Steps machine.prefix at_first toks machine.built
  pub goes_on : machine.stop ≡ GoesOn

-- How many bytes were fed.
abbrev pub bytes_fed : MachineState → ℕ
bytes_fed machine = machine.reader.place + length machine.reader.rest

-- No call answered a fault of the bytes.
abbrev pub IsSound : Stop → Type 0
IsSound GoesOn = Unit {0}
IsSound (Faulted fault) = ⊥
IsSound NoMemory = Unit {0}

-- Why a token could not be followed.
abbrev pub IsStepCause : List ℕ → PageState → Token → MachineFault → Type 0
IsStepCause prefix built tok (Html at) = Refuses prefix built tok (Html at)
IsStepCause prefix built tok (UnknownFunction at) = Refuses prefix built tok (UnknownFunction at)
IsStepCause prefix built tok (NoSuchId at id) = Refuses prefix built tok (NoSuchId at id)
IsStepCause prefix built tok (NotBoundary at) = Refuses prefix built tok (NotBoundary at)
IsStepCause prefix built tok OutOfMemory = Unit {0}

-- The machine stops with the fault, whatever bytes it was fed before.
pub record Stops (old : MachineState) (piece : List ℕ) (new : MachineState) (fault : MachineFault) : Type 0 where
  pub stopped : new.stop ≡ Faulted fault
  pub cause : (bytes : List ℕ) → HasRun bytes old → HasMachineFault old.prefix at_first (bytes ++ piece) fault

-- It answers what it answered, or wants memory for that.
abbrev pub FeedRefusal : MachineState → List ℕ → MachineState → MachineFault → Type 0
FeedRefusal old piece new (Html at) = Stops old piece new (Html at)
FeedRefusal old piece new (UnknownFunction at) = Stops old piece new (UnknownFunction at)
FeedRefusal old piece new (NoSuchId at id) = Stops old piece new (NoSuchId at id)
FeedRefusal old piece new (NotBoundary at) = Stops old piece new (NotBoundary at)
FeedRefusal old piece new OutOfMemory = new.stop ≡ NoMemory

-- The answer is the fault, or wants memory.
abbrev pub IsSameOrMemory : MachineFault → MachineFault → Type 0
IsSameOrMemory fault (Html at) = fault ≡ Html at
IsSameOrMemory fault (UnknownFunction at) = fault ≡ UnknownFunction at
IsSameOrMemory fault (NoSuchId at id) = fault ≡ NoSuchId at id
IsSameOrMemory fault (NotBoundary at) = fault ≡ NotBoundary at
IsSameOrMemory fault OutOfMemory = Unit {0}

-- A machine that has stopped answers the same, or wants memory for that; one that wanted memory wants it again.
abbrev pub AnswersAgain : {A : Type 0} → Stop → Result A MachineFault → Type 0
AnswersAgain GoesOn result = Unit {0}
AnswersAgain (Faulted fault) (Ok done) = ⊥
AnswersAgain (Faulted fault) (Err answer) = IsSameOrMemory fault answer
AnswersAgain NoMemory result = result ≡ Err OutOfMemory

-- The fault that a call met earlier, or want of memory.
abbrev pub IsMet : Stop → Option MachineFault → Type 0
IsMet GoesOn met = met ≡ None
IsMet (Faulted fault) None = ⊥
IsMet (Faulted fault) (Some answer) = (answer ≡ fault) ⊎ (answer ≡ OutOfMemory)
IsMet NoMemory met = met ≡ Some OutOfMemory

-- The view is that of the document so far.
pub record Sees (machine : MachineState) (bytes : List ℕ) (view : Seen) : Type 0 where
  pub built : PageState
  pub run : Runs machine.prefix at_first bytes built
  pub is : view_of_parts view.parts ≡ view_of machine.prefix built.dom.forest

-- The view is that of the whole document.
pub record SeesWhole (machine : MachineState) (bytes : List ℕ) (view : Seen) : Type 0 where
  pub built : PageState
  pub run : RunsWhole machine.prefix at_first bytes built
  pub is : view_of_parts view.parts ≡ view_of machine.prefix built.dom.forest

-- Why a machine that goes on does not finish: the bytes end too early.
abbrev pub FinishRefusal : MachineState → List ℕ → MachineFault → Type 0
FinishRefusal machine bytes (Html at) = EndsEarly machine.prefix at_first bytes at
FinishRefusal machine bytes (UnknownFunction at) = ⊥
FinishRefusal machine bytes (NoSuchId at id) = ⊥
FinishRefusal machine bytes (NotBoundary at) = ⊥
FinishRefusal machine bytes OutOfMemory = Unit {0}

-- The machine has stopped with the fault, or wants memory.
abbrev pub IsStopped : Stop → MachineFault → Type 0
IsStopped stop (Html at) = stop ≡ Faulted (Html at)
IsStopped stop (UnknownFunction at) = stop ≡ Faulted (UnknownFunction at)
IsStopped stop (NoSuchId at id) = stop ≡ Faulted (NoSuchId at id)
IsStopped stop (NotBoundary at) = stop ≡ Faulted (NotBoundary at)
IsStopped stop OutOfMemory = stop ≡ NoMemory
