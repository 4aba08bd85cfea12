-- What `tree` does with a component file and a settling script, and which pages `tree` and `render` refuse.
use Rattle.std.specs.Prelude.{◌≡◌, ℕ, ◌<◌, ◌≤◌, List, [], length, slice_get, Some}
use Rattle.dom_forest.specs.Printing.{printed_nodes}
use Rattle.jsx_value.specs.Positions.{Page}
use Rattle.jsx_value.specs.SeenPlaces.{page_with}
use Rattle.jsx_value.specs.Spots.{fails}
use Rattle.jsx_value.specs.Weights.{most_weight, page_weight}
use Rattle.settle_script.specs.Scripts.{outcomes_of}
use Rattle.settled_tree.specs.Final.{final_document, settled_tree}
use Rattle.settled_tree.specs.Forests.{forest_of}
use Rattle.settled_tree.specs.declared.forest.Forest.{Forest}
use Rattle.fizz_outside.specs.FileContents.{Contents}
use Rattle.fizz_cli.specs.Sources.{AcceptsSources, RefusesSources}
use Rattle.fizz_cli.specs.Steps.{FirstOrNext}
use Rattle.fizz_cli.specs.declared.refusal.FileFault.TheVariants.{Program}
use Rattle.fizz_cli.specs.declared.refusal.ProgramFault.TheVariants.{TooLarge}
use Rattle.fizz_cli.specs.declared.refusal.Refusal.{Refusal}
use Rattle.fizz_cli.specs.declared.refusal.Refusal.TheVariants.{File, ShellFailed}
use Rattle.fizz_cli.specs.declared.steps.sources.Sources.{Sources}

-- the page of a program, where all that a script settles is known
abbrev pub settled_page : Sources → List ℕ → Page
settled_page sources prefix =
    page_with sources.program (outcomes_of sources.script) (length (outcomes_of sources.script)) prefix

-- The page isn't too large, and the nodes are its expansion.
pub record IsExpanded (page : Page) (forest : Forest) : Type 0 where
  pub light : page_weight page ≤ most_weight
  pub nodes_are : forest.nodes ≡ forest_of page

-- The component file is refused, since the page is too large.
pub record IsTooHeavy (app : List ℕ) (page : Page) (refusal : Refusal) : Type 0 where
  pub heavy : most_weight < page_weight page
  pub says : refusal ≡ File app (Program (TooLarge most_weight))

-- The page isn't too large, and the content outside all boundaries has not failed.
pub record IsShown (page : Page) : Type 0 where
  pub light : page_weight page ≤ most_weight
  pub sound : fails (settled_tree page) ≡ []

-- The page is shown, and the output is its final document, as it is printed.
pub record PrintsPage (page : Page) (out : List ℕ) : Type 0 where
  pub shown : IsShown page
  pub prints : out ≡ printed_nodes (final_document (settled_tree page))

-- The files are accepted, and the output is the final document of the page, as it is printed.
pub record ShowsTree (at : Contents) (app script prefix out : List ℕ) : Type 0 where
  pub sources : Sources
  pub accepted : AcceptsSources at app script sources
  pub prints : PrintsPage (settled_page sources prefix) out

-- Why a page isn't shown: it is too large, or the content outside all boundaries has failed, first with this digest.
pub data RefusesTreePage (app : List ℕ) (page : Page) (refusal : Refusal) : Type 0 where
  too_large : IsTooHeavy app page refusal → RefusesTreePage app page refusal
  failed : (digest : List ℕ) → refusal ≡ ShellFailed digest → page_weight page ≤ most_weight
      → slice_get (fails (settled_tree page)) 0 ≡ Some digest → RefusesTreePage app page refusal

-- The files are refused; or they are accepted, and the page of the two is refused.
abbrev pub RefusesTree : Contents → List ℕ → List ℕ → List ℕ → Type 0 → Refusal → Type 0
RefusesTree at app script prefix faulted refusal =
    FirstOrNext (RefusesSources at app script faulted) (AcceptsSources at app script)
    (λ sources. RefusesTreePage app (settled_page sources prefix)) refusal
