-- What is printed of an element, of one position after another, and of positions that are cut out.
use Rattle.std.proofs.Common.{◌≡◌, ℕ, ◌+◌, ◌==◌, ◌&&◌, Bool, true, false, List, [], ◌∷◌, ◌++◌, length, Vec, Global, refl, sym, ap, ◌∙◌, subst, arith, Some}
use Rattle.std.specs.Prelude.{slice_get}
use Rattle.std.proofs.Math.ListN.{get_or-append}
use Rattle.std.proofs.lemmas.Bool.{cond-false, ne_eqb}
use Rattle.std.proofs.lemmas.List.{length-append}
use Rattle.std.proofs.lemmas.Option.{get_or_from_slice_get, slice_get-get_or, slice_get_within}
use Rattle.fizz_text.specs.declared.attribute.Attr.{Attr}
use Rattle.html_names.specs.Printing.{end_tag}
use Rattle.html_print.specs.Sheets.{Sheet, Printed, bytes, printed_after}
use Rattle.html_print.specs.Tags.{is_void, start_tag}
use Rattle.jsx_value.specs.declared.shape.Shape.{Shape}
use Rattle.jsx_value.specs.declared.spot.Kin.{Kin}
use Rattle.jsx_value.specs.Expansions.{IsUnfolded}
use Rattle.jsx_value.specs.Positions.{Page, Place, shape_of}
use Rattle.jsx_value.specs.SeenPlaces.{place_of, place_shape}
use Rattle.jsx_value.specs.Spots.{Spots, bare_fails}
use Rattle.fizz_piece.specs.declared.sheet.Sheet.{Sheet as CodeSheet}
use Rattle.fizz_piece.specs.declared.sheet.Stop.{Stop}
use Rattle.fizz_piece.specs.declared.sheet.Stop.TheVariants.{Failed, OutOfMemory}
use Rattle.fizz_piece.specs.Pieces.{failures_of}
use Rattle.fizz_piece.specs.Places.{position_of}
use Rattle.fizz_piece.specs.Printing.{Cut, element_sheet, is_none, position_sheet, positions_sheet}
use Rattle.fizz_piece.specs.Shapes.{Prints, StopsAt, one_of, places_of, printed_in, row_of}
use Rattle.fizz_piece.proofs.ShapesLemmas.{position_of-shape, row_fails, row_sheet, row_some}

true_not_false : true ≡ false → ⊥
true_not_false e = cc

pub left_false : (a b : Bool) → a ≡ false → (a && b) ≡ false
left_false true b e = absurd (true_not_false e)
left_false false b e = refl

pub right_false : (a b : Bool) → b ≡ false → (a && b) ≡ false
right_false true b e = e
right_false false b e = refl

-- Whether there are kids.
pub row_empty : (page : Page) → IsUnfolded page → (kids : List Kin) → is_none (row_of page (places_of kids)) ≡ (length kids == 0)
row_empty page unfolds [] = refl
row_empty page unfolds (k ∷ ks) =
    row_some page unfolds (place_of k) (places_of ks) ∙ sym (ne_eqb (length (k ∷ ks)) 0 (λ e. omega (arith, e)))

-- what was printed, with more bytes
printed_more : (old : CodeSheet) (out : Vec ℕ Global) (after_text : Bool) (more : List ℕ) → out.items ≡ old.out.items ++ more
    → record { out = old.out.items ++ more; cuts = (printed_in old).cuts } ≡ printed_in (record { out = out; kids = old.kids; after_text = after_text })
printed_more old out after_text more e = ap (λ (bs : List ℕ). record { out = bs; cuts = (printed_in old).cuts }) (sym e)

pub element_prints : (page : Page) (name : List ℕ) (attributes : List Attr) (row : Spots) (path : List ℕ) (old mid : CodeSheet)
    (begun ended : Vec ℕ Global) → (is_void name && is_none row) ≡ false → begun.items ≡ old.out.items ++ start_tag name attributes
    → Prints page (positions_sheet path 0 row) (record { out = begun; kids = old.kids; after_text = false }) mid
    → ended.items ≡ mid.out.items ++ end_tag name
    → Prints page (λ after_text. element_sheet name attributes (is_none row) (positions_sheet path 0 row)) old
    (record { out = ended; kids = mid.kids; after_text = false })
element_prints page name attributes row path old mid begun ended apart first kids last = record {
  printed = λ more.
      ap (λ sheet. printed_after sheet (printed_in old)) (cond-false (is_void name && is_none row) _ _ apart)
      ∙ (ap (printed_after (positions_sheet path 0 row false (λ after_text. bytes (end_tag name) (more false)))) (printed_more old begun false (start_tag name attributes) first)
      ∙ (kids.printed (λ after_text. bytes (end_tag name) (more false))
      ∙ ap (printed_after (more false)) (printed_more mid ended false (end_tag name) last)));
  placed = kids.placed;
}

-- one kid more
pub kid_prints : (page : Page) → IsUnfolded page → (path steps : List ℕ) (number : ℕ) (place : Place) (rest left : List Place) (old new : CodeSheet)
    (goal : (Bool → Sheet Cut) → Printed Cut)
    → left ≡ place ∷ rest → steps ≡ path ++ number ∷ []
    → ((more : Bool → Sheet Cut) → printed_after (positions_sheet path number (row_of page left) old.after_text more) (printed_in old) ≡ goal more)
    → Prints page (position_sheet steps (position_of page place)) old new
    → (more : Bool → Sheet Cut) → printed_after (positions_sheet path (number + 1) (row_of page rest) new.after_text more) (printed_in new) ≡ goal more
kid_prints page unfolds path steps number place rest left old new goal is goes_to so_far kid more =
    sym (kid.printed (λ after. positions_sheet path (number + 1) (row_of page rest) after more))
    ∙ (ap (λ (p : List ℕ). printed_after (position_sheet p (position_of page place) old.after_text (λ after. positions_sheet path (number + 1) (row_of page rest) after more)) (printed_in old)) goes_to
    ∙ (ap (λ sheet. printed_after sheet (printed_in old)) (sym (row_sheet page unfolds path number place rest old.after_text more))
    ∙ (ap (λ (ps : List Place). printed_after (positions_sheet path number (row_of page ps) old.after_text more) (printed_in old)) (sym is)
    ∙ so_far more)))

pub kid_fails : (page : Page) → IsUnfolded page → (place : Place) (rest left : List Place) → left ≡ place ∷ rest
    → bare_fails (row_of page left) ≡ failures_of (position_of page place) ++ bare_fails (row_of page rest)
kid_fails page unfolds place rest left is = ap (λ (ps : List Place). bare_fails (row_of page ps)) is ∙ row_fails page unfolds place rest

-- the first of two lists is the first of both
first_on : (ds more : List (List ℕ)) (d : List ℕ) → slice_get ds 0 ≡ Some d → slice_get (ds ++ more) 0 ≡ Some d
first_on ds more d e =
    slice_get-get_or (ds ++ more) 0 d (omega (arith, length-append ds more, slice_get_within ds 0 d e))
    ∙ ap Some (get_or-append ds more d 0 (slice_get_within ds 0 d e) ∙ get_or_from_slice_get ds 0 d d e)

pub stops_on : (ds more all : List (List ℕ)) (stop : Stop) → all ≡ ds ++ more → StopsAt ds stop → StopsAt all stop
stops_on ds more all (Failed digest) is e = subst (λ (xs : List (List ℕ)). slice_get xs 0 ≡ Some digest) (sym is) (first_on ds more digest e)
stops_on ds more all OutOfMemory is e = tt

pub position_is : (page : Page) → IsUnfolded page → (place : Place) (shape seen : Shape Kin) → place_shape shape ≡ (shape_of page place).shape
    → shape ≡ seen → one_of page (place_shape seen) ≡ position_of page place
position_is page unfolds place shape seen opens is =
    ap (λ (x : Shape Kin). one_of page (place_shape x)) (sym is) ∙ (ap (one_of page) opens ∙ sym (position_of-shape page unfolds place))
