-- The step that reads a page file and runs it to its settled document.
use Rattle.std.specs.Prelude.{◌≡◌, ◌≢◌, ℕ, ◌⊎◌, List, Option}
use Rattle.dom_forest.specs.Printing.{printed_nodes}
use Rattle.dom_forest.specs.declared.document.DocNode.{DocNode}
use Rattle.document_machine.specs.Running.{PageState, at_first}
use Rattle.document_machine.specs.Documents.{RunsWhole}
use Rattle.document_machine.specs.Faults.{HasMachineFault, EndsEarly}
use Rattle.document_machine.specs.Settled.{bounded_count, is_pending, number_of}
use Rattle.document_machine.specs.Views.{view_of}
use Rattle.document_machine.specs.declared.fault.MachineFault.TheVariants as fault
use Rattle.page_laws.specs.PrintedDocuments.{IsDocument}
use Rattle.fizz_cli.specs.Steps.{IsFile, RefusesFile}
use Rattle.fizz_cli.specs.declared.refusal.FileFault.TheVariants.{Page}
use Rattle.fizz_cli.specs.declared.refusal.PageFault.{PageFault}
use Rattle.fizz_cli.specs.declared.refusal.PageFault.TheVariants.{Html, UnknownFunction, NoSuchId, NotBoundary, StillPending}
use Rattle.fizz_cli.specs.declared.refusal.Refusal.{Refusal}

abbrev pub most_page_bytes : ℕ
most_page_bytes = 268435456

-- The output is the document of the bytes, as it is printed.
abbrev pub ShowsDocument : List ℕ → List ℕ → List ℕ → Type 0
ShowsDocument prefix bytes out = (nodes : List DocNode) × IsDocument prefix bytes nodes × (out ≡ printed_nodes nodes)

-- The bytes are a whole page in which so many boundaries are pending.
pub record StaysPending (prefix bytes : List ℕ) (count : ℕ) : Type 0 where
  pub built : PageState
  pub whole : RunsWhole prefix at_first bytes built
  pub some : number_of is_pending (view_of prefix built.dom.forest) ≢ 0
  pub counts : count ≡ bounded_count is_pending (view_of prefix built.dom.forest)

-- What the bytes are refused for: a fault of the machine at its place, an end that comes too early, or what is pending.
abbrev pub RefusesPageBytes : List ℕ → List ℕ → PageFault → Type 0
RefusesPageBytes prefix bytes (Html at) = HasMachineFault prefix at_first bytes (fault.Html at) ⊎ EndsEarly prefix at_first bytes at
RefusesPageBytes prefix bytes (UnknownFunction at) = HasMachineFault prefix at_first bytes (fault.UnknownFunction at)
RefusesPageBytes prefix bytes (NoSuchId at id) = HasMachineFault prefix at_first bytes (fault.NoSuchId at id)
RefusesPageBytes prefix bytes (NotBoundary at) = HasMachineFault prefix at_first bytes (fault.NotBoundary at)
RefusesPageBytes prefix bytes (StillPending count) = StaysPending prefix bytes count

-- The page file is accepted, and the output is its settled document.
pub record ShowsFile (prefix : List ℕ) (file : Option (List ℕ)) (out : List ℕ) : Type 0 where
  pub bytes : List ℕ
  pub is_file : IsFile most_page_bytes file bytes
  pub shows : ShowsDocument prefix bytes out

abbrev pub RefusesPage : List ℕ → Type 0 → List ℕ → Option (List ℕ) → Refusal → Type 0
RefusesPage prefix faulted name file refusal = RefusesFile Page (RefusesPageBytes prefix) faulted most_page_bytes name file refusal
