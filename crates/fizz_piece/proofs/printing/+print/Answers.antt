use Rattle.std.proofs.Common.{◌≡◌, ◌+◌, ◌++◌, ◌∷◌, [], ℕ, Bool, false, List, OnOk, IfErr, Some, arith, refl, sym, ap, ap₂, ◌∙◌, subst, drop, take, length}
use Rattle.std.specs.Prelude.{◌&&◌, slice_get}
use Rattle.std.proofs.lemmas.List.{take_at}
use Rattle.std.proofs.lemmas.Result.{err_from_is_err_and}
use Rattle.html_print.specs.Sheets.{Sheet as SheetOf, cut, printed_after}
use Rattle.fizz_text.specs.declared.attribute.Attr.{Attr}
use Rattle.html_print.specs.Tags.{is_void, start_tag}
use Rattle.jsx_value.specs.declared.shape.Shape.{Shape}
use Rattle.jsx_value.specs.declared.shape.Shape.TheVariants as s
use Rattle.jsx_value.specs.declared.spot.Kin.{Kin}
use Rattle.jsx_value.specs.SeenPlaces.{place_of, place_shape}
use Rattle.jsx_value.specs.Spots.{One, bare_fails}
use Rattle.jsx_value.specs.Weights.{inside_of}
use Rattle.fizz_piece.specs.Pieces.{failures_of}
use Rattle.fizz_piece.specs.Places.{place_in, place_inside, position_of}
use Rattle.fizz_piece.specs.Printing.{Cut, hole, is_none, nest, position_sheet, positions_sheet}
use Rattle.fizz_piece.specs.Shapes.{Prints, StopsAt, one_of, page_of, places_of, places_weight, printed_in, row_of}
use Rattle.fizz_piece.proofs.PlacesLemmas.{inside_lighter, kid_lighter, kid_there, not_waiting, rest_is, stand_inside}
use Rattle.fizz_piece.proofs.PrintingLemmas.{element_prints, kid_fails, kid_prints, left_false, position_is, right_false, row_empty, stops_on}
use Rattle.fizz_piece.proofs.printing.+print.Goals.{print_element-else-is_void_name-via-then-is_void_name+else-is_empty, print_element-else-is_void_name-via-else-is_void_name}
use Rattle.fizz_piece.proofs.printing.+print.Goals as goal

pub print_element-returns-clause-printed : goal.print_element-returns-clause-printed
print_element-returns-clause-printed t c =
    let page = page_of c.args.page in
    let row = row_of page (places_of c.args.kids.now) in
    let apart : (is_void c.args.name.now && is_none row) ≡ false = elim c.else-is_void_name.branch [
      | print_element-else-is_void_name-via-then-is_void_name+else-is_empty w ↦ right_false (is_void c.args.name.now) (is_none row)
          (row_empty page c.requires.unfolded c.args.kids.now ∙ (sym w.is_empty.ensures ∙ w.if-is_empty.false))
      | print_element-else-is_void_name-via-else-is_void_name w ↦ left_false (is_void c.args.name.now) (is_none row) (sym c.is_void_name.ensures ∙ w.if-is_void_name.false)
    ] in
    element_prints page c.args.name.now c.args.attributes.now row c.args.path.now.items c.args.sheet.now c.print_kids.new.sheet c.push_start_tag.new.out c.push_end_tag.new.out
    apart (c.in_ok-push_start_tag.ensures ∙ ap (λ (xs : List Attr). c.args.sheet.now.out.items ++ start_tag c.args.name.now xs) c.as_slice-2.ensures)
    c.in_ok-print_kids.ensures.printed c.in_ok-push_end_tag.ensures

pub print_kids-print_position-requires : goal.print_kids-print_position-requires
print_kids-print_position-requires t c =
    let page = page_of c.args.page in
    let places = places_of c.args.kids.now in
    let i = c.loop-kid.kid-index in
    let p = place_of c.kid-item.result in
    let there : slice_get places i ≡ Some p = kid_there c.args.kids.now i c.kid-item.result c.loop-kid-test.true c.kid-item.is in
    let stands : place_in page c.push.new.self.items ≡ Some p =
    ap (place_in page) (c.in_ok-push.ensures.items ∙ ap₂ (λ (xs : List ℕ) (n : ℕ). xs ++ n ∷ []) c.loop-kid.invariant.path c.loop-kid.invariant.number)
    ∙ c.requires.below i p there in
    (omega (arith, kid_lighter page places i p there, c.decreases), (c.requires.unfolded, (c.requires.adds_up, stands)))

pub print_kids-returns-in_err-print_position-clause-stopped : goal.print_kids-returns-in_err-print_position-clause-stopped
print_kids-returns-in_err-print_position-clause-stopped t c =
    let page = page_of c.args.page in
    let places = places_of c.args.kids.now in
    let i = c.loop-kid.kid-index in
    let p = place_of c.kid-item.result in
    let there : slice_get places i ≡ Some p = kid_there c.args.kids.now i c.kid-item.result c.loop-kid-test.true c.kid-item.is in
    let r = err_from_is_err_and c.from_residual-in_err-print_position.result c.from_residual-in_err-print_position.ensures.1 in
    rw (r.1, r.2) (stops_on (failures_of (position_of page p)) (bare_fails (row_of page (drop (i + 1) places))) (bare_fails (row_of page places)) c.in_err-print_position.field-0.0
    (sym c.loop-kid.invariant.failures ∙ kid_fails page c.requires.unfolded p (drop (i + 1) places) (drop i places) (rest_is places i p there))
    c.in_err-print_position.ensures.stopped)

pub print_kids-loop-kid-preserved : goal.print_kids-loop-kid-preserved
print_kids-loop-kid-preserved t c =
    let page = page_of c.args.page in
    let places = places_of c.args.kids.now in
    let i = c.loop-kid.kid-index in
    let p = place_of c.kid-item.result in
    let there : slice_get places i ≡ Some p = kid_there c.args.kids.now i c.kid-item.result c.loop-kid-test.true c.kid-item.is in
    let left = rest_is places i p there in
    let pushed : c.push.new.self.items ≡ c.loop-kid.path.items ++ c.loop-kid.number ∷ [] = c.in_ok-push.ensures.items in
    let deep : length c.loop-kid.path.items ≡ c.len-depth.result = ap (λ (xs : List ℕ). length xs) c.loop-kid.invariant.path ∙ sym c.loop-kid.invariant.depth in
    record {
      path = c.truncate.ensures.items
          ∙ (ap (take c.len-depth.result) (c.in_ok-print_position.ensures.path ∙ pushed)
          ∙ (take_at c.loop-kid.path.items (c.loop-kid.number ∷ []) c.len-depth.result deep ∙ c.loop-kid.invariant.path));
      depth = c.loop-kid.invariant.depth;
      number = c.in_ok-number.ensures ∙ ap (λ (n : ℕ). n + 1) c.loop-kid.invariant.number;
      printed = λ more.
          ap (λ (n : ℕ). printed_after (positions_sheet c.args.path.now.items n (row_of page (drop (i + 1) places)) c.print_position.new.sheet.after_text more) (printed_in c.print_position.new.sheet)) c.in_ok-number.ensures
          ∙ kid_prints page c.requires.unfolded c.args.path.now.items c.push.new.self.items c.loop-kid.number p (drop (i + 1) places) (drop i places) c.loop-kid.sheet c.print_position.new.sheet _
          left (pushed ∙ ap (λ (xs : List ℕ). xs ++ c.loop-kid.number ∷ []) c.loop-kid.invariant.path) c.loop-kid.invariant.printed c.in_ok-print_position.ensures.printed more;
      failures = sym (kid_fails page c.requires.unfolded p (drop (i + 1) places) (drop i places) left
          ∙ ap (λ (ds : List (List ℕ)). ds ++ bare_fails (row_of page (drop (i + 1) places))) c.in_ok-print_position.ensures.sound)
          ∙ c.loop-kid.invariant.failures;
      placed = λ all. c.in_ok-print_position.ensures.printed.placed (c.loop-kid.invariant.placed all);
    }

pub print_position-print_shape-requires : goal.print_position-print_shape-requires
print_position-print_shape-requires t c =
    let page = page_of c.args.page in
    let place = place_of c.args.kin.now in (
      omega (arith, inside_lighter page c.requires.adds_up place c.in_ok-shape.shape c.in_ok-shape.ensures, c.decreases),
      (
        c.requires.unfolded,
        (
          c.requires.adds_up,
          (
            not_waiting c.in_ok-shape.shape c.in_default.not-Wait,
            stand_inside page c.args.path.now.items place c.in_ok-shape.shape c.in_ok-shape.ensures c.requires.stands,
          ),
        ),
      ),
    )

pub print_position-returns-in_ok-push_hole-in-Wait-clause-printed : goal.print_position-returns-in_ok-push_hole-in-Wait-clause-printed
print_position-returns-in_ok-push_hole-in-Wait-clause-printed t c =
    let page = page_of c.args.page in
    let same = c.deref.ensures.value in
    subst (λ (one : One). Prints page (position_sheet c.args.path.now.items one) c.args.sheet.now c.push_hole.new.sheet)
    (position_is page c.requires.unfolded (place_of c.args.kin.now) c.in_ok-shape.shape (s.Wait c.in-Wait.resource) c.in_ok-shape.ensures c.in-Wait.is)
    (subst (λ (xs : List ℕ). Prints page (λ (after_text : Bool) (more : Bool → SheetOf Cut). cut (hole xs c.in-Wait.resource after_text) (more false)) c.args.sheet.now c.push_hole.new.sheet) same
    (c.in_ok-push_hole-in-Wait.ensures page (ap (place_in page) same ∙ c.requires.stands)))

pub print_position-returns-in_ok-push_hole-in-Wait-clause-sound : goal.print_position-returns-in_ok-push_hole-in-Wait-clause-sound
print_position-returns-in_ok-push_hole-in-Wait-clause-sound t c =
    ap failures_of (sym (position_is (page_of c.args.page) c.requires.unfolded (place_of c.args.kin.now) c.in_ok-shape.shape (s.Wait c.in-Wait.resource) c.in_ok-shape.ensures c.in-Wait.is))

pub print_position-returns-in_default : goal.print_position-returns-in_default
print_position-returns-in_default t c =
    let page = page_of c.args.page in
    let is : one_of page (place_shape c.in_ok-shape.shape) ≡ position_of page (place_of c.args.kin.now) =
    position_is page c.requires.unfolded (place_of c.args.kin.now) c.in_ok-shape.shape c.in_ok-shape.shape c.in_ok-shape.ensures refl in
    record {
      path = c.print_shape.ensures.path;
      printed = subst (λ (one : One). OnOk c.print_shape.result (Prints page (position_sheet c.args.path.now.items one) c.args.sheet.now c.print_shape.new.sheet)) is c.print_shape.ensures.printed;
      sound = subst (λ (one : One). OnOk c.print_shape.result (failures_of one ≡ [])) is c.print_shape.ensures.sound;
      stopped = subst (λ (one : One). IfErr c.print_shape.result (StopsAt (failures_of one))) is c.print_shape.ensures.stopped;
    }

pub print_shape-print_element-requires : goal.print_shape-print_element-requires
print_shape-print_element-requires t c =
    let page = page_of c.args.page in
    let same : places_weight page (inside_of (place_shape c.args.shape)) ≡ places_weight page (places_of c.as_slice.result.now) =
    ap (λ (x : Shape Kin). places_weight page (inside_of (place_shape x))) c.in-Element.is ∙ ap (λ (ks : List Kin). places_weight page (places_of ks)) (sym c.as_slice.ensures) in (
      omega (arith, same, c.decreases),
      (
        c.requires.unfolded,
        (
          c.requires.adds_up,
          λ n kid e. c.requires.inside n kid (ap (λ (x : Shape Kin). place_inside (place_shape x) n) c.in-Element.is
              ∙ (ap (λ (ks : List Kin). slice_get (places_of ks) n) (sym c.as_slice.ensures) ∙ e)),
        ),
      ),
    )

pub print_shape-print_kids-requires : goal.print_shape-print_kids-requires
print_shape-print_kids-requires t c =
    let page = page_of c.args.page in
    let same : places_weight page (inside_of (place_shape c.args.shape)) ≡ places_weight page (places_of c.as_slice-in-Array.result.now) =
    ap (λ (x : Shape Kin). places_weight page (inside_of (place_shape x))) c.in-Array.is ∙ ap (λ (ks : List Kin). places_weight page (places_of ks)) (sym c.as_slice-in-Array.ensures) in (
      omega (arith, same, c.decreases),
      (
        c.requires.unfolded,
        (
          c.requires.adds_up,
          λ n kid e. c.requires.inside n kid (ap (λ (x : Shape Kin). place_inside (place_shape x) n) c.in-Array.is
              ∙ (ap (λ (ks : List Kin). slice_get (places_of ks) n) (sym c.as_slice-in-Array.ensures) ∙ e)),
        ),
      ),
    )

pub print_shape-returns-in-Boundary-clause-printed : goal.print_shape-returns-in-Boundary-clause-printed
print_shape-returns-in-Boundary-clause-printed t c =
    let page = page_of c.args.page in
    let same = c.deref.ensures.value in
    let content : place_in page (c.deref.result.now ++ 0 ∷ []) ≡ Some (place_of c.into_inner.result) =
    ap (λ (xs : List ℕ). place_in page (xs ++ 0 ∷ [])) same
    ∙ (c.requires.inside 0 (place_of c.in-Boundary.content) (ap (λ (x : Shape Kin). place_inside (place_shape x) 0) c.in-Boundary.is)
    ∙ ap (λ (k : Kin). Some (place_of k)) (sym c.into_inner.ensures)) in
    let fallback : place_in page (c.deref.result.now ++ 1 ∷ []) ≡ Some (place_of c.into_inner-in-Boundary.result) =
    ap (λ (xs : List ℕ). place_in page (xs ++ 1 ∷ [])) same
    ∙ (c.requires.inside 1 (place_of c.in-Boundary.fallback) (ap (λ (x : Shape Kin). place_inside (place_shape x) 1) c.in-Boundary.is)
    ∙ ap (λ (k : Kin). Some (place_of k)) (sym c.into_inner-in-Boundary.ensures)) in
    subst (λ (x : Shape Kin). Prints page (position_sheet c.args.path.now.items (one_of page (place_shape x))) c.args.sheet.now c.push_boundary.new.sheet) (sym c.in-Boundary.is)
    (subst (λ (xs : List ℕ). Prints page (λ (after_text : Bool) (more : Bool → SheetOf Cut). cut (nest xs) (more false)) c.args.sheet.now c.push_boundary.new.sheet) same
    (c.in_ok-push_boundary-in-Boundary.ensures page content fallback))
