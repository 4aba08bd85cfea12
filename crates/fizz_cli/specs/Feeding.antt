-- What the machine answers to a page file's bytes. Private functions cite it.
use Rattle.std.specs.Prelude.{◌≡◌, ◌≢◌, ℕ, List}
use Rattle.document_machine.specs.Running.{at_first}
use Rattle.document_machine.specs.Faults.{HasMachineFault}
use Rattle.document_machine.specs.Settled.{bounded_count, is_pending, number_of}
use Rattle.document_machine.specs.Views.{View}
use Rattle.document_machine.specs.declared.fault.MachineFault.{MachineFault}
use Rattle.document_machine.specs.declared.fault.MachineFault.TheVariants as fault
use Rattle.fizz_cli.specs.declared.refusal.PageFault.{PageFault}
use Rattle.fizz_cli.specs.declared.refusal.PageFault.TheVariants.{Html, UnknownFunction, NoSuchId, NotBoundary, StillPending}
use Rattle.fizz_cli.specs.declared.stop.OrMemory.{OrMemory}
use Rattle.fizz_cli.specs.declared.stop.OrMemory.TheVariants.{Fault, NoMemory}

-- what the machine's fault refuses the page for
abbrev pub fault_of : MachineFault → OrMemory PageFault
fault_of (fault.Html at) = Fault (Html at)
fault_of (fault.UnknownFunction at) = Fault (UnknownFunction at)
fault_of (fault.NoSuchId at id) = Fault (NoSuchId at id)
fault_of (fault.NotBoundary at) = Fault (NotBoundary at)
fault_of fault.OutOfMemory = NoMemory

-- why feeding bytes to a new machine was refused
abbrev pub IsFedCause : List ℕ → List ℕ → MachineFault → Type 0
IsFedCause prefix bytes (fault.Html at) = HasMachineFault prefix at_first bytes (fault.Html at)
IsFedCause prefix bytes (fault.UnknownFunction at) = HasMachineFault prefix at_first bytes (fault.UnknownFunction at)
IsFedCause prefix bytes (fault.NoSuchId at id) = HasMachineFault prefix at_first bytes (fault.NoSuchId at id)
IsFedCause prefix bytes (fault.NotBoundary at) = HasMachineFault prefix at_first bytes (fault.NotBoundary at)
IsFedCause prefix bytes fault.OutOfMemory = Unit {0}

-- The fault is that so many boundaries of the view are pending.
abbrev pub IsPendingView : View → PageFault → Type 0
IsPendingView view found =
    (count : ℕ) × (found ≡ StillPending count) × (number_of is_pending view ≢ 0) × (count ≡ bounded_count is_pending view)
