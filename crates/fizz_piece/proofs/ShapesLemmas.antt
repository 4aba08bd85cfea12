-- The positions of a place are those of its shape, with those of the places inside.
use Rattle.std.proofs.Common.{◌≡◌, ℕ, ◌+◌, Bool, true, false, List, [], ◌∷◌, ◌++◌, refl, sym, ap, ◌∙◌}
use Rattle.html_print.specs.Sheets.{Sheet}
use Rattle.jsx_value.specs.declared.shape.Shape.{Shape}
use Rattle.jsx_value.specs.declared.shape.Shape.TheVariants as s
use Rattle.jsx_value.specs.declared.shape.Tree.{Tree}
use Rattle.jsx_value.specs.declared.shape.Tree.TheFolds.{fold-roll-Tree, map-Tree}
use Rattle.jsx_value.specs.Positions.{Page, Place, expansion, shape_of}
use Rattle.jsx_value.specs.Spots.{Spots, none, spot, spots_of, spots_step, bare_fails}
use Rattle.jsx_value.specs.Expansions.{IsUnfolded}
use Rattle.fizz_piece.specs.Pieces.{failures_of}
use Rattle.fizz_piece.specs.Places.{first_of, position_of}
use Rattle.fizz_piece.specs.Printing.{Cut, is_none, position_sheet, positions_sheet}
use Rattle.fizz_piece.specs.Shapes.{label_of, kids_of, other_of, one_of, row_of}

layer_spots : (page : Page) (calls : ℕ) (shape : Shape Place) (later : Spots)
    → spots_step (map-Tree Tree (Spots → Spots) spots_of (map-Tree Place Tree (expansion page) (record { calls = calls; shape = shape }))) later
    ≡ spot (label_of shape) (kids_of page shape) (other_of page shape) later
layer_spots page calls s.Nothing later = refl
layer_spots page calls (s.Text t) later = refl
layer_spots page calls (s.Element name attributes kids) later = refl
layer_spots page calls (s.Array kids) later = refl
layer_spots page calls (s.Boundary content fallback) later = refl
layer_spots page calls (s.Wait resource) later = refl
layer_spots page calls (s.Fail digest) later = refl

module _ (page : Page) (unfolds : IsUnfolded page) where
  pub place_spots : (place : Place) (later : Spots) → spots_of (expansion page place) later
      ≡ spot (label_of (shape_of page place).shape) (kids_of page (shape_of page place).shape) (other_of page (shape_of page place).shape) later
  place_spots place later =
      ap (λ (t : Tree). spots_of t later) (unfolds place)
      ∙ ap (λ (g : Spots → Spots). g later) (fold-roll-Tree (Spots → Spots) spots_step (map-Tree Place Tree (expansion page) (shape_of page place)))
      ∙ layer_spots page (shape_of page place).calls (shape_of page place).shape later

  pub position_of-shape : (place : Place) → position_of page place ≡ one_of page (shape_of page place).shape
  position_of-shape place = ap first_of (place_spots place none)

  -- the first of some positions, and then the later ones
  pub row_sheet : (path : List ℕ) (n : ℕ) (place : Place) (places : List Place) (after_text : Bool) (more : Bool → Sheet Cut)
      → positions_sheet path n (row_of page (place ∷ places)) after_text more
      ≡ position_sheet (path ++ n ∷ []) (position_of page place) after_text (λ after. positions_sheet path (n + 1) (row_of page places) after more)
  row_sheet path n place places after_text more =
      ap (λ spots. positions_sheet path n spots after_text more) (place_spots place (row_of page places))
      ∙ ap (λ one. position_sheet (path ++ n ∷ []) one after_text (λ after. positions_sheet path (n + 1) (row_of page places) after more))
      (sym (position_of-shape place))

  pub row_fails : (place : Place) (places : List Place)
      → bare_fails (row_of page (place ∷ places)) ≡ failures_of (position_of page place) ++ bare_fails (row_of page places)
  row_fails place places =
      ap bare_fails (place_spots place (row_of page places))
      ∙ ap (λ one. failures_of one ++ bare_fails (row_of page places)) (sym (position_of-shape place))

  pub row_none : (places : List Place) → places ≡ [] → is_none (row_of page places) ≡ true
  row_none places e = ap (λ ps. is_none (row_of page ps)) e

  pub row_some : (place : Place) (places : List Place) → is_none (row_of page (place ∷ places)) ≡ false
  row_some place places = ap is_none (place_spots place (row_of page places))
