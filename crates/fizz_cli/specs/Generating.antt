-- What `gen` does: it renders a generated page in memory, and says in one line what the page shows.
use Rattle.std.specs.Prelude.{◌≡◌, ℕ, ◌+◌, List, [], ◌++◌, length, codes, Some, None, if◌then◌else◌}
use Rattle.std.specs.Fmt.{decimal}
use Rattle.std.specs.Str.{bytes_eq}
use Rattle.dom_forest.specs.Printing.{printed_nodes}
use Rattle.dom_forest.specs.declared.document.DocNode.{DocNode}
use Rattle.document_machine.specs.Documents.{RunsWhole}
use Rattle.document_machine.specs.Running.{PageState, at_first}
use Rattle.document_machine.specs.Settled.{any_kind, bounded_count, is_failed, settled_of}
use Rattle.document_machine.specs.Views.{View, end, text, element, boundary, view_of}
use Rattle.fizz_outside.specs.FileContents.{Contents}
use Rattle.fizz_words.specs.Commands.{standard_options}
use Rattle.page_generator.specs.Pages.{program, script_of}
use Rattle.fizz_cli.specs.Rendering.{AcceptsPage, RendersFiles}
use Rattle.fizz_cli.specs.Trees.{RefusesTree}
use Rattle.fizz_cli.specs.declared.refusal.Refusal.{Refusal}
use Rattle.fizz_cli.specs.declared.steps.sources.Sources.{Sources}

-- the names of a generated page's files
abbrev pub app_name : List ℕ
app_name = codes "generated.jsx"

abbrev pub script_name : List ℕ
script_name = codes "generated.json"

-- two files: a component file and a settling script
abbrev pub page_files : List ℕ → List ℕ → Contents
page_files app script name = if bytes_eq name app_name then Some app
    else (if bytes_eq name script_name then Some script else None)

-- the files of the page of a seed and a size
abbrev pub generated_files : ℕ → ℕ → Contents
generated_files seed size = page_files program (script_of seed size)

-- how many texts are seen, those of boundaries included
abbrev pub texts_in : View → ℕ
texts_in end = 0
texts_in (text t later) = 1 + texts_in later
texts_in (element name attributes items later) = texts_in items + texts_in later
texts_in (boundary kind digest items later) = texts_in items + texts_in later

-- a line on so many boundaries, of which so many failed, so many texts, and a document of so many bytes
abbrev pub line_of : ℕ → ℕ → ℕ → ℕ → List ℕ
line_of boundaries failed texts bytes =
    codes "boundaries " ++ (decimal boundaries ++ (codes " failed " ++ (decimal failed
    ++ (codes " texts " ++ (decimal texts ++ (codes " document " ++ (decimal bytes ++ codes "\n")))))))

-- the line on a page: how many boundaries it has, how many of them failed, how many texts it shows, and how many bytes
-- its settled document has as it is printed
abbrev pub summary_line : View → List DocNode → List ℕ
summary_line view document =
    line_of (bounded_count any_kind view) (bounded_count is_failed view) (texts_in view)
    (length (printed_nodes document))

-- The line is that of the bytes of a page, which are a whole page with a settled document.
pub record IsSummary (page line : List ℕ) : Type 0 where
  pub built : PageState
  pub whole : RunsWhole [] at_first page built
  pub document : List DocNode
  pub settles : settled_of (view_of [] built.dom.forest) ≡ Some document
  pub says : line ≡ summary_line (view_of [] built.dom.forest) document

-- The generated page is accepted as `render` accepts it, with the standard options.
abbrev pub AcceptsGenerated : ℕ → ℕ → Sources → Type 0
AcceptsGenerated seed size sources = AcceptsPage (generated_files seed size) app_name script_name [] sources

-- Why it is refused: as `render` refuses it.
abbrev pub RefusesGenerated : ℕ → ℕ → Refusal → Type 0
RefusesGenerated seed size refusal = RefusesTree (generated_files seed size) app_name script_name [] ⊥ refusal

-- The bytes are what `render` sends of it.
abbrev pub RendersGenerated : ℕ → ℕ → List ℕ → Type 0
RendersGenerated seed size page =
    RendersFiles (generated_files seed size) app_name script_name standard_options page

-- The generated page is rendered, and the line says what it shows.
pub record SumsUp (seed size : ℕ) (line : List ℕ) : Type 0 where
  pub page : List ℕ
  pub renders : RendersGenerated seed size page
  pub summary : IsSummary page line
