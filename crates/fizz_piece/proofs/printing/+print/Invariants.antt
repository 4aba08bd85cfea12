use Rattle.std.proofs.Common.{◌≡◌, ◌+◌, ◌*◌, Bool, All, drop, length}
use Rattle.html_print.specs.Sheets.{Sheet as SheetOf, printed_after}
use Rattle.jsx_value.specs.SeenPlaces.{place_of, place_shape}
use Rattle.jsx_value.specs.Spots.{bare_fails}
use Rattle.jsx_value.specs.Weights.{inside_of, weight_at}
use Rattle.fizz_piece.specs.Pieces.{IsPlaced}
use Rattle.fizz_piece.specs.Printing.{Cut, positions_sheet}
use Rattle.fizz_piece.specs.Shapes.{page_of, places_of, places_weight, printed_in, row_of}
use Rattle.fizz_piece.proofs.printing.+print.Given as goal

-- The positions weigh less and less.
abbrev pub decreases-print_position : goal.decreases-print_position
decreases-print_position l = weight_at (page_of l.page) (place_of l.kin.now) * 4

abbrev pub decreases-print_shape : goal.decreases-print_shape
decreases-print_shape l = places_weight (page_of l.page) (inside_of (place_shape l.shape)) * 4 + 3

abbrev pub decreases-print_element : goal.decreases-print_element
decreases-print_element l = places_weight (page_of l.page) (places_of l.kids.now) * 4 + 2

abbrev pub decreases-print_kids : goal.decreases-print_kids
decreases-print_kids l = places_weight (page_of l.page) (places_of l.kids.now) * 4 + 1

-- what was printed, and what is left, are all kids
abbrev pub invariant-print_kids-loop-kid : goal.invariant-print_kids-loop-kid
invariant-print_kids-loop-kid l = record {
  path : l.path.items ≡ l.fn.path.items;
  depth : l.depth ≡ length l.fn.path.items;
  number : l.number ≡ l.kid-index;
  printed : (more : Bool → SheetOf Cut) →
      printed_after (positions_sheet l.fn.path.items l.number (row_of (page_of l.page) (drop l.kid-index (places_of l.kids))) l.sheet.after_text more) (printed_in l.sheet)
      ≡ printed_after (positions_sheet l.fn.path.items 0 (row_of (page_of l.page) (places_of l.kids)) l.fn.sheet.after_text more) (printed_in l.fn.sheet);
  failures : bare_fails (row_of (page_of l.page) (drop l.kid-index (places_of l.kids))) ≡ bare_fails (row_of (page_of l.page) (places_of l.kids));
  placed : All (IsPlaced (page_of l.page)) l.fn.sheet.kids → All (IsPlaced (page_of l.page)) l.sheet.kids;
}
