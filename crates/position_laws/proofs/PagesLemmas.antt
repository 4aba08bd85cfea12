-- The positions of a page by its places, and of a page where more has settled.
use Rattle.std.proofs.Common.{◌≡◌, ℕ, zero, suc, ◌<◌, Bool, List, [], ◌∷◌, Option, Some, None, refl, sym, ap, ◌∙◌, subst, sum_by, arith}
use Rattle.std.specs.Prelude.{option_and_then, slice_get}
use Rattle.std.proofs.lemmas.List.Sums.{sum_by-cons}
use Rattle.jsx_value.specs.declared.shape.Shape.{Shape}
use Rattle.jsx_value.specs.declared.shape.Shape.TheVariants as s
use Rattle.jsx_value.specs.Positions.{Opened, Page, Place, expansion, shape_of}
use Rattle.jsx_value.specs.Spots.{nothing, text, element, array, boundary, wait, fail, Spots, none, spot, One, spots_of, nth, inside, at}
use Rattle.jsx_value.specs.Expansions.{IsUnfolded}
use Rattle.jsx_value.specs.Settling.{StaysOrOpens, it_stays, it_opens}
use Rattle.jsx_value.specs.Weights.{AddsUp, inside_of, weight_at}
use Rattle.fizz_piece.specs.Places.{first_of, place_below, place_inside, position_of}
use Rattle.fizz_piece.specs.Shapes.{label_of, kids_of, other_of, row_of}
use Rattle.fizz_piece.proofs.ShapesLemmas.{place_spots, position_of-shape}
use Rattle.position_laws.specs.Formed.{IsOne, HasOneOfEach, AreFormed, IsFormed}
use Rattle.position_laws.specs.Later.{Later, ends, stays, opens, LaterOne, stays_one, opens_one}

no_place : (p : Place) → None ≡ Some p → ⊥
no_place p e = cc

same_place : (p q : Place) → Some p ≡ Some q → p ≡ q
same_place p q e = cc

-- The position of a place stands at the path of the place.
module _ (page : Page) (unfolds : IsUnfolded page) where
  nth_place : (kids : List Place) (n : ℕ) (kid : Place) → slice_get kids n ≡ Some kid → nth (row_of page kids) n ≡ Some (position_of page kid)
  nth_place [] n kid e = absurd (no_place kid e)
  nth_place (k ∷ ks) zero kid e =
      ap (λ (x : Spots). nth x 0) (place_spots page unfolds k (row_of page ks))
      ∙ (ap (λ (o : One). Some o) (sym (position_of-shape page unfolds k)) ∙ ap (λ (p : Place). Some (position_of page p)) (same_place k kid e))
  nth_place (k ∷ ks) (suc n) kid e =
      ap (λ (x : Spots). nth x (suc n)) (place_spots page unfolds k (row_of page ks)) ∙ nth_place ks n kid e

  first_place : (place : Place) → nth (spots_of (expansion page place) none) 0 ≡ Some (position_of page place)
  first_place place =
      ap (λ (x : Spots). nth x 0) (place_spots page unfolds place none) ∙ ap (λ (o : One). Some o) (sym (position_of-shape page unfolds place))

  inside_shape : (shape : Shape Place) (n : ℕ) (kid : Place) → place_inside shape n ≡ Some kid
      → inside (label_of shape) (kids_of page shape) (other_of page shape) n ≡ Some (position_of page kid)
  inside_shape s.Nothing n kid e = absurd (no_place kid e)
  inside_shape (s.Text t) n kid e = absurd (no_place kid e)
  inside_shape (s.Element name attributes kids) n kid e = nth_place kids n kid e
  inside_shape (s.Array kids) n kid e = nth_place kids n kid e
  inside_shape (s.Boundary content fallback) zero kid e = first_place content ∙ ap (λ (p : Place). Some (position_of page p)) (same_place content kid e)
  inside_shape (s.Boundary content fallback) (suc zero) kid e = first_place fallback ∙ ap (λ (p : Place). Some (position_of page p)) (same_place fallback kid e)
  inside_shape (s.Boundary content fallback) (suc (suc n)) kid e = absurd (no_place kid e)
  inside_shape (s.Wait resource) n kid e = absurd (no_place kid e)
  inside_shape (s.Fail digest) n kid e = absurd (no_place kid e)

  inside_place : (place kid : Place) (n : ℕ) → place_inside (shape_of page place).shape n ≡ Some kid
      → inside (position_of page place).label (position_of page place).kids (position_of page place).other n ≡ Some (position_of page kid)
  inside_place place kid n e =
      ap (λ (o : One). inside o.label o.kids o.other n) (position_of-shape page unfolds place) ∙ inside_shape (shape_of page place).shape n kid e

  step_down : (path : List ℕ) (start place : Place) (n : ℕ) (o : Option Place) → place_inside (shape_of page start).shape n ≡ o
      → option_and_then (λ kid. place_below page kid path) o ≡ Some place
      → ((kid : Place) → place_below page kid path ≡ Some place → at (position_of page kid) path ≡ Some (position_of page place))
      → at (position_of page start) (n ∷ path) ≡ Some (position_of page place)
  step_down path start place n None e f go = absurd (no_place place f)
  step_down path start place n (Some kid) e f go =
      ap (option_and_then (λ (o : One). at o path)) (inside_place start kid n e) ∙ go kid f

  pub place_stands : (path : List ℕ) (start place : Place) → place_below page start path ≡ Some place
      → at (position_of page start) path ≡ Some (position_of page place)
  place_stands [] start place e = ap (λ (p : Place). Some (position_of page p)) (same_place start place e)
  place_stands (n ∷ path) start place e =
      step_down path start place n (place_inside (shape_of page start).shape n) refl e (λ kid f. place_stands path kid place f)

module _ (first second : Page) (since : List ℕ → Bool)
    (grows : (place : Place) → StaysOrOpens since (shape_of first place) (shape_of second place)) where
  -- All positions
  module _ (unfolds : IsUnfolded first) (unfolds_too : IsUnfolded second) (adds : AddsUp first) where
    abbrev LaterPlace : Place → Type 0
    LaterPlace place = (x y : Spots) → Later since x y → Later since (spots_of (expansion first place) x) (spots_of (expansion second place) y)

    later_row : (kids : List Place) (n : ℕ) → sum_by (weight_at first) kids < n → ((kid : Place) → weight_at first kid < n → LaterPlace kid)
        → Later since (row_of first kids) (row_of second kids)
    later_row [] n less go = ends
    later_row (k ∷ ks) n less go =
        let all = sum_by-cons (weight_at first) k ks in
        go k (omega (arith, all)) (row_of first ks) (row_of second ks) (later_row ks n (omega (arith, all)) go)

    later_shape : (shape : Shape Place) (n : ℕ) → sum_by (weight_at first) (inside_of shape) < n → ((kid : Place) → weight_at first kid < n → LaterPlace kid)
        → (x y : Spots) → Later since x y
        → Later since (spot (label_of shape) (kids_of first shape) (other_of first shape) x) (spot (label_of shape) (kids_of second shape) (other_of second shape) y)
    later_shape s.Nothing n less go x y l = stays nothing none none x none none y ends ends l
    later_shape (s.Text t) n less go x y l = stays (text t) none none x none none y ends ends l
    later_shape (s.Element name attributes kids) n less go x y l =
        stays (element name attributes) (row_of first kids) none x (row_of second kids) none y (later_row kids n less go) ends l
    later_shape (s.Array kids) n less go x y l = stays array (row_of first kids) none x (row_of second kids) none y (later_row kids n less go) ends l
    later_shape (s.Boundary content fallback) n less go x y l =
        let all = sum_by-cons (weight_at first) content (fallback ∷ []) in
        let rest = sum_by-cons (weight_at first) fallback [] in
        stays boundary (spots_of (expansion first content) none) (spots_of (expansion first fallback) none) x
        (spots_of (expansion second content) none) (spots_of (expansion second fallback) none) y
        (go content (omega (arith, all)) none none ends) (go fallback (omega (arith, all, rest)) none none ends) l
    later_shape (s.Wait resource) n less go x y l = stays (wait resource) none none x none none y ends ends l
    later_shape (s.Fail digest) n less go x y l = stays (fail digest) none none x none none y ends ends l

    later_shapes : (a b : Opened Place) (n : ℕ) → StaysOrOpens since a b → sum_by (weight_at first) (inside_of a.shape) < n
        → ((kid : Place) → weight_at first kid < n → LaterPlace kid) → (x y : Spots) → Later since x y
        → Later since (spot (label_of a.shape) (kids_of first a.shape) (other_of first a.shape) x) (spot (label_of b.shape) (kids_of second b.shape) (other_of second b.shape) y)
    later_shapes a b n (it_stays is) less go x y l =
        subst (λ (o : Opened Place). Later since (spot (label_of a.shape) (kids_of first a.shape) (other_of first a.shape) x) (spot (label_of o.shape) (kids_of second o.shape) (other_of second o.shape) y)) is
        (later_shape a.shape n less go x y l)
    later_shapes a b n (it_opens resource is k) less go x y l =
        subst (λ (o : Shape Place). Later since (spot (label_of o) (kids_of first o) (other_of first o) x) (spot (label_of b.shape) (kids_of second b.shape) (other_of second b.shape) y)) (sym is)
        (opens resource (label_of b.shape) none none x (kids_of second b.shape) (other_of second b.shape) y k l)

    later_below : (n : ℕ) (place : Place) → weight_at first place < n → LaterPlace place
    later_below zero place less x y l = absurd (omega arith)
    later_below (suc n) place less x y l =
        subst (λ (v : Spots). Later since v (spots_of (expansion second place) y)) (sym (place_spots first unfolds place x))
        (subst (λ (w : Spots). Later since (spot (label_of (shape_of first place).shape) (kids_of first (shape_of first place).shape) (other_of first (shape_of first place).shape) x) w)
        (sym (place_spots second unfolds_too place y))
        (later_shapes (shape_of first place) (shape_of second place) n (grows place) (omega (arith, adds place)) (later_below n) x y l))

    first_later : (x y : Spots) → Later since x y → LaterOne since (first_of x) (first_of y)
    first_later _ _ ends = stays_one nothing none none none none ends ends
    first_later _ _ (stays label kids other later kids' other' later' k o l) = stays_one label kids other kids' other' k o
    first_later _ _ (opens resource label' kids other later kids' other' later' k l) = opens_one resource label' kids other kids' other' k

    pub place_later : (place : Place) → LaterOne since (position_of first place) (position_of second place)
    place_later place = first_later (spots_of (expansion first place) none) (spots_of (expansion second place) none)
        (later_below (suc (weight_at first place)) place (omega arith) none none ends)

-- Expansions are formed.
module _ (page : Page) (unfolds : IsUnfolded page) (adds : AddsUp page) where
  abbrev FormedPlace : Place → Type 0
  FormedPlace place = (x : Spots) → AreFormed x → AreFormed (spots_of (expansion page place) x)

  formed_row : (kids : List Place) (n : ℕ) → sum_by (weight_at page) kids < n → ((kid : Place) → weight_at page kid < n → FormedPlace kid)
      → AreFormed (row_of page kids)
  formed_row [] n less go = tt
  formed_row (k ∷ ks) n less go =
      let all = sum_by-cons (weight_at page) k ks in
      go k (omega (arith, all)) (row_of page ks) (formed_row ks n (omega (arith, all)) go)

  one_place : (place : Place) → IsOne (spots_of (expansion page place) none)
  one_place place = subst IsOne (sym (place_spots page unfolds place none)) refl

  formed_shape : (shape : Shape Place) (n : ℕ) → sum_by (weight_at page) (inside_of shape) < n → ((kid : Place) → weight_at page kid < n → FormedPlace kid)
      → HasOneOfEach (label_of shape) (kids_of page shape) (other_of page shape) × AreFormed (kids_of page shape) × AreFormed (other_of page shape)
  formed_shape s.Nothing n less go = (tt, tt, tt)
  formed_shape (s.Text t) n less go = (tt, tt, tt)
  formed_shape (s.Element name attributes kids) n less go = (tt, formed_row kids n less go, tt)
  formed_shape (s.Array kids) n less go = (tt, formed_row kids n less go, tt)
  formed_shape (s.Boundary content fallback) n less go =
      let all = sum_by-cons (weight_at page) content (fallback ∷ []) in
      let rest = sum_by-cons (weight_at page) fallback [] in
      ((one_place content, one_place fallback), go content (omega (arith, all)) none tt, go fallback (omega (arith, all, rest)) none tt)
  formed_shape (s.Wait resource) n less go = (tt, tt, tt)
  formed_shape (s.Fail digest) n less go = (tt, tt, tt)

  formed_below : (n : ℕ) (place : Place) → weight_at page place < n → FormedPlace place
  formed_below zero place less x f = absurd (omega arith)
  formed_below (suc n) place less x f =
      let h = formed_shape (shape_of page place).shape n (omega (arith, adds place)) (formed_below n) in
      subst AreFormed (sym (place_spots page unfolds place x)) (h.0, h.1, h.2, f)

  pub place_formed : (place : Place) → IsFormed (position_of page place)
  place_formed place =
      let n = weight_at page place in
      subst IsFormed (sym (position_of-shape page unfolds place))
      (formed_shape (shape_of page place).shape n (omega (arith, adds place)) (λ kid less. formed_below n kid less))
