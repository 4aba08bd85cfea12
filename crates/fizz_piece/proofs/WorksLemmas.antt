-- What the position of a work comes to, by its shape.
use Rattle.std.proofs.Common.{◌≡◌, ℕ, List, [], Some, refl, ap, ◌∙◌, subst}
use Rattle.std.specs.Prelude.{slice_get}
use Rattle.html_print.specs.Sheets.{printed_of}
use Rattle.jsx_value.specs.declared.shape.Shape.{Shape}
use Rattle.jsx_value.specs.declared.spot.Kin.{Kin}
use Rattle.jsx_value.specs.Expansions.{IsUnfolded}
use Rattle.jsx_value.specs.Positions.{Page, shape_of}
use Rattle.jsx_value.specs.SeenPlaces.{place_at, place_shape}
use Rattle.jsx_value.specs.Spots.{One, wait}
use Rattle.fizz_piece.specs.declared.sheet.Sheet.{Sheet as CodeSheet}
use Rattle.fizz_piece.specs.declared.sheet.Stop.{Stop}
use Rattle.fizz_piece.specs.declared.sheet.Stop.TheVariants.{Failed, OutOfMemory}
use Rattle.fizz_piece.specs.declared.work.Work.{Work}
use Rattle.fizz_piece.specs.Pieces.{PrintsWork, failures_of, position_at}
use Rattle.fizz_piece.specs.Printing.{piece_sheet}
use Rattle.fizz_piece.specs.Shapes.{IsSheetOf, IsStopOf, StopsAt, label_of, one_of, printed_in}
use Rattle.fizz_piece.proofs.PrintingLemmas.{position_is}

module _ (page : Page) (unfolds : IsUnfolded page) (work : Work) (shape : Shape Kin)
    (opens : place_shape shape ≡ (shape_of page (place_at work.spot work.scope)).shape)
    (waits_not : (resource : List ℕ) → label_of (place_shape shape) ≡ wait resource → ⊥) where
  same : one_of page (place_shape shape) ≡ position_at page work
  same = position_is page unfolds (place_at work.spot work.scope) shape shape opens refl

  not_waiting_there : (resource : List ℕ) → (position_at page work).label ≡ wait resource → ⊥
  not_waiting_there resource e = waits_not resource (ap (λ (o : One). o.label) same ∙ e)

  pub stop_of_work : (stop : Stop) → StopsAt (failures_of (one_of page (place_shape shape))) stop → IsStopOf page work stop
  stop_of_work (Failed digest) e = record {
    waits_not = not_waiting_there;
    first = subst (λ (o : One). slice_get (failures_of o) 0 ≡ Some digest) same e;
  }
  stop_of_work OutOfMemory e = tt

  pub prints_work : (sheet : CodeSheet) → IsSheetOf page work (place_shape shape) sheet → PrintsWork page work sheet.out.items sheet.kids
  prints_work sheet s = record {
    waits_not = not_waiting_there;
    no_failure = subst (λ (o : One). failures_of o ≡ []) same s.no_failure;
    printed = subst (λ (o : One). printed_of (piece_sheet work.flags work.path o) ≡ printed_in sheet) same s.printed;
    placed = s.placed;
  }
