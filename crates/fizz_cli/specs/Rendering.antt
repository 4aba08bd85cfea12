-- What `render` does with a component file and a settling script.
use Rattle.std.specs.Prelude.{◌≡◌, ℕ, false, List, [], take}
use Rattle.dom_forest.specs.Printing.{printed_nodes}
use Rattle.document_machine.specs.Documents.{most_open}
use Rattle.fizz_piece.specs.declared.plan.Options.{Options as PlanOptions}
use Rattle.fizz_piece.specs.declared.plan.Plan.{Plan}
use Rattle.inline_run.specs.Runs.{ComesTo, Runs}
use Rattle.jsx_value.specs.Positions.{Page}
use Rattle.request_state.specs.Core.{Core, free, new_core}
use Rattle.settle_script.specs.Scripts.{outcomes_of}
use Rattle.settled_tree.specs.Final.{final_document, settled_tree}
use Rattle.settled_tree.specs.Forests.{forest_of, spots_in}
use Rattle.page_laws.specs.PrintedDocuments.{IsDocument}
use Rattle.fizz_outside.specs.FileContents.{Contents}
use Rattle.fizz_cli.specs.Sources.{AcceptsSources}
use Rattle.fizz_cli.specs.StillPages.{IsStill, is_still}
use Rattle.fizz_cli.specs.Trees.{IsShown, settled_page}
use Rattle.fizz_words.specs.declared.command.Options.{Options}
use Rattle.fizz_cli.specs.declared.steps.sources.Sources.{Sources}

-- The page stands still. The bytes are its document, as it is printed; and they are a whole page, which leaves that
-- document.
pub record PrintsStillPage (page : Page) (out : List ℕ) : Type 0 where
  pub still : IsStill page
  pub prints : out ≡ printed_nodes (final_document (settled_tree page))
  pub leaves : IsDocument page.prefix out (final_document (settled_tree page))

-- Something of the page may come late: it has a boundary, or something of it waits.
abbrev pub MayComeLate : Page → Type 0
MayComeLate page = is_still page.prefix (spots_in (forest_of page)) most_open ≡ false

-- the options of a plan
abbrev pub plan_options : Options → PlanOptions
plan_options options =
    record { prefix = options.prefix; progressive = options.progressive; chunk = options.chunk }

-- The plan of a page: the program, what the script settles, and the options.
pub record IsPlanOf (sources : Sources) (options : Options) (plan : Plan) : Type 0 where
  pub app : plan.app.now ≡ sources.program
  pub outcomes : plan.outcomes.now ≡ outcomes_of sources.script
  pub options_are : plan.options.now ≡ plan_options options

-- The bytes are those of the flushes of a run of the script, from its beginning to its end.
pub record StreamsPage (sources : Sources) (options : Options) (out : List ℕ) : Type 0 where
  pub plan : Plan
  pub plans : IsPlanOf sources options plan
  pub start : Core
  pub new : free start ≡ new_core
  pub end : Core
  pub runs : Runs plan sources.script start end
  pub sent : out ≡ end.transcript

-- The bytes are a part of those of the flushes that such a run comes by.
pub record StreamsPart (sources : Sources) (options : Options) (out : List ℕ) : Type 0 where
  pub plan : Plan
  pub plans : IsPlanOf sources options plan
  pub start : Core
  pub new : free start ≡ new_core
  pub last : Core
  pub comes : ComesTo plan sources.script start last
  pub size : ℕ
  pub part : out ≡ take size last.transcript

-- What is sent of a page that is shown: its document where it stands still, and else what a run sends.
pub data SendsPage (sources : Sources) (options : Options) (out : List ℕ) : Type 0 where
  prints_whole : PrintsStillPage (settled_page sources options.prefix) out → SendsPage sources options out
  streams_whole : MayComeLate (settled_page sources options.prefix) → StreamsPage sources options out
      → SendsPage sources options out

-- What may have been sent of it where the sending was cut off.
pub data SendsPart (sources : Sources) (options : Options) (out : List ℕ) : Type 0 where
  nothing : out ≡ [] → SendsPart sources options out
  prints_part : (whole : List ℕ) (size : ℕ) → PrintsStillPage (settled_page sources options.prefix) whole
      → out ≡ take size whole → SendsPart sources options out
  streams_part : MayComeLate (settled_page sources options.prefix) → StreamsPart sources options out
      → SendsPart sources options out

-- The files are accepted, and the page of the two is shown.
pub record AcceptsPage (at : Contents) (app script prefix : List ℕ) (sources : Sources) : Type 0 where
  pub accepted : AcceptsSources at app script sources
  pub shown : IsShown (settled_page sources prefix)

-- The files are accepted, the page of the two is shown, and sent.
pub record RendersFiles (at : Contents) (app script : List ℕ) (options : Options) (out : List ℕ) : Type 0 where
  pub sources : Sources
  pub accepted : AcceptsPage at app script options.prefix sources
  pub sends : SendsPage sources options out

pub record RendersInPart (at : Contents) (app script : List ℕ) (options : Options) (out : List ℕ) : Type 0 where
  pub sources : Sources
  pub accepted : AcceptsPage at app script options.prefix sources
  pub sends : SendsPart sources options out
