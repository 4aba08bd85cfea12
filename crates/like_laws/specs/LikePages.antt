-- Pages that are alike while they are built, and runs that lead to such.
use Rattle.std.specs.Prelude.{◌≡◌, ℕ, false, List, [], ◌∷◌, ◌++◌}
use Rattle.html_read.specs.declared.token.Token.{Token}
use Rattle.html_read.specs.declared.token.Token.TheVariants as tok
use Rattle.document_machine.specs.Documents.{LeavesNoRest, Runs, Steps}
use Rattle.document_machine.specs.Paths.{IsOpenDocument}
use Rattle.document_machine.specs.Running.{PageState, ids_of}
use Rattle.document_machine.specs.declared.building.OpenElement.{OpenElement}
use Rattle.like_laws.specs.Alike.{AreAlike}
use Rattle.like_laws.specs.Apart.{StandApart}

-- The open elements stand in the document.
abbrev pub IsOpenPage : PageState → Type 0
IsOpenPage page = IsOpenDocument (ids_of page.opened) page.dom

abbrev pub names_of : List OpenElement → List (List ℕ)
names_of [] = []
names_of (o ∷ os) = o.name ∷ names_of os

-- The documents are alike, as many elements are open under the same names, and the same functions are known.
pub record AlikePages (a b : PageState) : Type 0 where
  pub documents : AreAlike a.dom.forest b.dom.forest
  pub open_names : names_of a.opened ≡ names_of b.opened
  pub known : a.known ≡ b.known

-- Whenever a script is run, what instructions move stands apart from markers.
abbrev pub MovesApart : List ℕ → PageState → List Token → Type 0
MovesApart prefix start toks = (done more : List Token) (body : List ℕ) (from : ℕ) (now : PageState)
    → toks ≡ done ++ tok.Script body from ∷ more → Steps prefix start done now → StandApart prefix false now.dom.forest

-- The bytes run from the other start too, to a page that is alike to the one at which they end, and leave no rest where
-- they left none.
pub record RunsAlike (prefix : List ℕ) (start : PageState) (bytes : List ℕ) (end old : PageState) (first : Runs prefix old bytes end)
    : Type 0 where
  pub later : PageState
  pub run : Runs prefix start bytes later
  pub alike : AlikePages end later
  pub rest : LeavesNoRest first → LeavesNoRest run
