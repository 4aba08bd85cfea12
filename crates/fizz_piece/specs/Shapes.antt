-- Printing one shape after another: for private functions.
use Rattle.std.specs.Prelude.{◌≡◌, ℕ, Bool, List, [], ◌∷◌, ◌++◌, map, All, Some, slice_get, sum_by}
use Rattle.html_print.specs.Sheets.{Sheet, Printed, printed_after, printed_of}
use Rattle.jsx_value.specs.declared.shape.Shape.{Shape}
use Rattle.jsx_value.specs.declared.shape.Shape.TheVariants as s
use Rattle.jsx_value.specs.declared.spot.Kin.{Kin}
use Rattle.jsx_value.specs.Positions.{Page, Place, expansion}
use Rattle.jsx_value.specs.SeenPlaces.{page_with, place_of}
use Rattle.jsx_value.specs.Spots.{Label, nothing, text, element, array, boundary, wait, fail, Spots, One, none, spots_of, in_a_row}
use Rattle.jsx_value.specs.Weights.{weight_at}
use Rattle.fizz_piece.specs.declared.printing.Page.{Page as CodePage}
use Rattle.fizz_piece.specs.declared.sheet.Sheet.{Sheet as CodeSheet}
use Rattle.fizz_piece.specs.declared.sheet.Stop.{Stop}
use Rattle.fizz_piece.specs.declared.sheet.Stop.TheVariants.{Failed, OutOfMemory}
use Rattle.fizz_piece.specs.declared.work.Work.{Work}
use Rattle.fizz_piece.specs.declared.rendering.Outcome.{Outcome}
use Rattle.fizz_piece.specs.declared.rendering.Outcome.TheVariants.{Printed as PrintedSheet, Waits}
use Rattle.fizz_piece.specs.Pieces.{FailsFirst, IsPlaced, PrintsWork, WaitsFor, cut_of, failures_of, position_at}
use Rattle.fizz_piece.specs.Places.{place_in, place_inside}
use Rattle.fizz_piece.specs.Printing.{Cut, piece_sheet}

abbrev pub page_of : CodePage → Page
page_of page = page_with page.file.now page.outcomes.now page.settled page.prefix.now

-- positions beside each other at places
abbrev pub row_of : Page → List Place → Spots
row_of page kids = in_a_row (map spots_of (map (expansion page) kids))

abbrev pub label_of : Shape Place → Label
label_of s.Nothing = nothing
label_of (s.Text t) = text t
label_of (s.Element name attributes kids) = element name attributes
label_of (s.Array kids) = array
label_of (s.Boundary content fallback) = boundary
label_of (s.Wait resource) = wait resource
label_of (s.Fail digest) = fail digest

abbrev pub kids_of : Page → Shape Place → Spots
kids_of page s.Nothing = none
kids_of page (s.Text t) = none
kids_of page (s.Element name attributes kids) = row_of page kids
kids_of page (s.Array kids) = row_of page kids
kids_of page (s.Boundary content fallback) = spots_of (expansion page content) none
kids_of page (s.Wait resource) = none
kids_of page (s.Fail digest) = none

abbrev pub other_of : Page → Shape Place → Spots
other_of page s.Nothing = none
other_of page (s.Text t) = none
other_of page (s.Element name attributes kids) = none
other_of page (s.Array kids) = none
other_of page (s.Boundary content fallback) = spots_of (expansion page fallback) none
other_of page (s.Wait resource) = none
other_of page (s.Fail digest) = none

-- the position that a shape makes
abbrev pub one_of : Page → Shape Place → One
one_of page shape = record { label = label_of shape; kids = kids_of page shape; other = other_of page shape }

-- what was printed so far
abbrev pub printed_in : CodeSheet → Printed Cut
printed_in sheet = record { out = sheet.out.items; cuts = map cut_of sheet.kids }

-- What is printed of some positions: whatever follows, they have been printed up to it.
pub record Prints (page : Page) (positions : Bool → (Bool → Sheet Cut) → Sheet Cut) (old new : CodeSheet) : Type 0 where
  pub printed : (more : Bool → Sheet Cut) → printed_after (positions old.after_text more) (printed_in old)
      ≡ printed_after (more new.after_text) (printed_in new)
  pub placed : All (IsPlaced page) old.kids → All (IsPlaced page) new.kids

-- The printing ended at the first failure, or without memory.
abbrev pub StopsAt : List (List ℕ) → Stop → Type 0
StopsAt failures (Failed digest) = slice_get failures 0 ≡ Some digest
StopsAt failures OutOfMemory = Unit {0}

-- the places inside a shape stand below a path
abbrev pub StandInside : Page → List ℕ → Shape Place → Type 0
StandInside page path shape = (n : ℕ) (kid : Place) → place_inside shape n ≡ Some kid → place_in page (path ++ n ∷ []) ≡ Some kid

abbrev pub StandBelow : Page → List ℕ → List Place → Type 0
StandBelow page path kids = (n : ℕ) (kid : Place) → slice_get kids n ≡ Some kid → place_in page (path ++ n ∷ []) ≡ Some kid

abbrev pub places_of : List Kin → List Place
places_of kids = map place_of kids

-- what is left to be printed, by which the recursion ends
abbrev pub places_weight : Page → List Place → ℕ
places_weight page kids = sum_by (weight_at page) kids

-- The sheet of a work whose position has this shape.
pub record IsSheetOf (page : Page) (work : Work) (shape : Shape Place) (sheet : CodeSheet) : Type 0 where
  pub no_failure : failures_of (one_of page shape) ≡ []
  pub printed : printed_of (piece_sheet work.flags work.path (one_of page shape)) ≡ printed_in sheet
  pub placed : All (IsPlaced page) sheet.kids

-- What the position of a work comes to, unless it fails.
abbrev pub IsOutcome : Page → Work → Outcome → Type 0
IsOutcome page work (PrintedSheet sheet) = PrintsWork page work sheet.out.items sheet.kids
IsOutcome page work (Waits resource) = WaitsFor (position_at page work) resource

-- Why a work comes to nothing.
abbrev pub IsStopOf : Page → Work → Stop → Type 0
IsStopOf page work (Failed digest) = FailsFirst (position_at page work) digest
IsStopOf page work OutOfMemory = Unit {0}
