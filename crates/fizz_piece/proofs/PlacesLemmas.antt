-- Places inside places: their paths, and that they weigh less.
use Rattle.std.proofs.Common.{◌≡◌, ℕ, Bool, ◌+◌, ◌<◌, ◌≤◌, List, [], ◌∷◌, ◌++◌, length, drop, get_or, Option, Some, None, refl, sym, ap, ◌∙◌, arith}
use Rattle.std.specs.Prelude.{option_and_then, option_map, slice_get}
use Rattle.std.proofs.lemmas.List.{drop_more}
use Rattle.std.proofs.lemmas.List.Sums.{get_or-le-sum_by}
use Rattle.std.proofs.lemmas.Option.{get_or_from_slice_get, same_Some, slice_get-map, slice_get_read, slice_get_within}
use Rattle.jsx_value.specs.declared.shape.Shape.{Shape}
use Rattle.jsx_value.specs.declared.shape.Shape.TheVariants as s
use Rattle.jsx_value.specs.declared.spot.Kin.{Kin}
use Rattle.jsx_value.specs.Positions.{Opened, Page, Place, shape_of}
use Rattle.jsx_value.specs.Settling.{StaysOrOpens, it_stays, it_opens}
use Rattle.jsx_value.specs.SeenPlaces.{place_of, place_shape}
use Rattle.jsx_value.specs.Spots.{wait}
use Rattle.jsx_value.specs.Weights.{AddsUp, inside_of, weight_at}
use Rattle.fizz_piece.specs.Places.{place_below, place_in, place_inside}
use Rattle.fizz_piece.specs.Shapes.{label_of, places_of, places_weight}

no_place : (p : Place) → None ≡ Some p → ⊥
no_place p e = cc

-- One step further down.
step_below : (page : Page) (n : ℕ) (path : List ℕ) (p kid : Place) (o : Option Place)
    → ((start : Place) → place_below page start path ≡ Some p → place_below page start (path ++ n ∷ []) ≡ Some kid)
    → option_and_then (λ k. place_below page k path) o ≡ Some p → option_and_then (λ k. place_below page k (path ++ n ∷ [])) o ≡ Some kid
step_below page n path p kid None go e = absurd (no_place p e)
step_below page n path p kid (Some start) go e = go start e

pub place_below-push : (page : Page) (n : ℕ) (p kid : Place) → place_inside (shape_of page p).shape n ≡ Some kid
    → (path : List ℕ) (start : Place) → place_below page start path ≡ Some p → place_below page start (path ++ n ∷ []) ≡ Some kid
place_below-push page n p kid h [] start e =
    ap (λ (q : Place). option_and_then (λ k. place_below page k []) (place_inside (shape_of page q).shape n)) (same_Some start p e)
    ∙ ap (option_and_then (λ k. place_below page k [])) h
place_below-push page n p kid h (m ∷ path) start e =
    step_below page n path p kid (place_inside (shape_of page start).shape m) (place_below-push page n p kid h path) e

-- a kid among places
pub kid_there : (kids : List Kin) (i : ℕ) (kid : Kin) → i < length kids → kid ≡ get_or kids i kid
    → slice_get (places_of kids) i ≡ Some (place_of kid)
kid_there kids i kid less is =
    slice_get-map place_of kids i ∙ ap (λ (o : Option Kin). option_map place_of o) (slice_get_read kids (length kids) i kid refl less is)

pub rest_is : (places : List Place) (i : ℕ) (p : Place) → slice_get places i ≡ Some p → drop i places ≡ p ∷ drop (i + 1) places
rest_is places i p e =
    drop_more places i p (slice_get_within places i p e) ∙ ap (λ (q : Place). q ∷ drop (i + 1) places) (get_or_from_slice_get places i p p e)

pub kid_lighter : (page : Page) (places : List Place) (i : ℕ) (p : Place) → slice_get places i ≡ Some p
    → weight_at page p ≤ places_weight page places
kid_lighter page places i p e =
    omega (arith, get_or-le-sum_by (weight_at page) places i p (slice_get_within places i p e), ap (weight_at page) (get_or_from_slice_get places i p p e))

-- what is inside a place weighs less
pub inside_lighter : (page : Page) → AddsUp page → (place : Place) (shape : Shape Kin) → place_shape shape ≡ (shape_of page place).shape
    → places_weight page (inside_of (place_shape shape)) < weight_at page place
inside_lighter page adds place shape opens =
    omega (arith, adds place, ap (λ (x : Shape Place). places_weight page (inside_of x)) opens)

-- a shape that is no wait
pub not_waiting : (shape : Shape Kin) → ((resource : List ℕ) → shape ≡ s.Wait resource → ⊥) → (resource : List ℕ)
    → label_of (place_shape shape) ≡ wait resource → ⊥
not_waiting s.Nothing never r e = cc
not_waiting (s.Text t) never r e = cc
not_waiting (s.Element name attributes kids) never r e = cc
not_waiting (s.Array kids) never r e = cc
not_waiting (s.Boundary content fallback) never r e = cc
not_waiting (s.Wait resource) never r e = never resource refl
not_waiting (s.Fail digest) never r e = cc

pub stand_inside : (page : Page) (path : List ℕ) (place : Place) (shape : Shape Kin) → place_shape shape ≡ (shape_of page place).shape
    → place_in page path ≡ Some place → (n : ℕ) (kid : Place) → place_inside (place_shape shape) n ≡ Some kid
    → place_in page (path ++ n ∷ []) ≡ Some kid
stand_inside page path place shape opens stands n kid e =
    place_below-push page n place kid (ap (λ (x : Shape Place). place_inside x n) (sym opens) ∙ e) path _ stands

-- Places stay where more has settled.
module _ (first second : Page) (since : List ℕ → Bool)
    (grows : (place : Place) → StaysOrOpens since (shape_of first place) (shape_of second place)) where
  kid_stays : (x y : Opened Place) (n : ℕ) (kid : Place) → StaysOrOpens since x y → place_inside x.shape n ≡ Some kid → place_inside y.shape n ≡ Some kid
  kid_stays x y n kid (it_stays is) e = ap (λ (o : Opened Place). place_inside o.shape n) (sym is) ∙ e
  kid_stays x y n kid (it_opens resource is k) e = absurd (no_place kid (sym (ap (λ (o : Shape Place). place_inside o n) is) ∙ e))

  stays_below : (path : List ℕ) (start place : Place) (n : ℕ) (o : Option Place) → place_inside (shape_of first start).shape n ≡ o
      → option_and_then (λ kid. place_below first kid path) o ≡ Some place
      → ((kid : Place) → place_below first kid path ≡ Some place → place_below second kid path ≡ Some place)
      → place_below second start (n ∷ path) ≡ Some place
  stays_below path start place n None e f go = absurd (no_place place f)
  stays_below path start place n (Some kid) e f go =
      ap (option_and_then (λ (p : Place). place_below second p path)) (kid_stays (shape_of first start) (shape_of second start) n kid (grows start) e) ∙ go kid f

  pub place_stays : (path : List ℕ) (start place : Place) → place_below first start path ≡ Some place → place_below second start path ≡ Some place
  place_stays [] start place e = e
  place_stays (n ∷ path) start place e =
      stays_below path start place n (place_inside (shape_of first start).shape n) refl e (λ kid f. place_stays path kid place f)
