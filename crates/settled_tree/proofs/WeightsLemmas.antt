-- Positions inside a position weigh less, and there are few of them.
use Rattle.std.proofs.Common.{◌≡◌, ◌+◌, ◌<◌, ◌≤◌, List, [], ◌∷◌, length, map, refl, sym, ap, ◌∙◌, sum_by, sum, arith}
use Rattle.std.proofs.lemmas.List.Sums.{sum-map, sum_by-cons}
use Rattle.std.proofs.lemmas.Simd.{map-map}
use Rattle.jsx_value.specs.declared.spot.Kin.{Kin}
use Rattle.jsx_value.specs.declared.shape.Shape.{Shape}
use Rattle.jsx_value.specs.declared.shape.Shape.TheVariants as s
use Rattle.jsx_value.specs.Positions.{Page, Place, shape_of}
use Rattle.jsx_value.specs.SeenPlaces.{place_of, place_shape}
use Rattle.jsx_value.specs.Weights.{inside_of, weight_at}
use Rattle.settled_tree.specs.Layers.{Unfolds, kids_weight, kin_weight}

weighs_something : (page : Page) → Unfolds page → (place : Place) → 0 < weight_at page place
weighs_something page unfolds place = omega (arith, unfolds.weights place)

pub few_kids : (page : Page) → Unfolds page → (kids : List Kin) → length kids ≤ kids_weight page kids
few_kids page unfolds [] = omega arith
few_kids page unfolds (k ∷ ks) =
    omega (arith, weighs_something page unfolds (place_of k), few_kids page unfolds ks, sum_by-cons (kin_weight page) k ks)

kids_weigh : (page : Page) (kids : List Kin) → sum_by (weight_at page) (map place_of kids) ≡ kids_weight page kids
kids_weigh page kids =
    sym (sum-map (weight_at page) (map place_of kids)) ∙ ap sum (map-map (weight_at page) place_of kids) ∙ sum-map (λ kin. weight_at page (place_of kin)) kids

-- The positions inside a shape weigh less than the position.
pub inside_lighter : (page : Page) → Unfolds page → (place : Place) (shape seen : Shape Kin) (kids : List Kin)
    → place_shape shape ≡ (shape_of page place).shape → shape ≡ seen → inside_of (place_shape seen) ≡ map place_of kids → kids_weight page kids < weight_at page place
inside_lighter page unfolds place shape seen kids opens is kids_are =
    omega (
      arith,
      unfolds.weights place,
      ap (λ s. sum_by (weight_at page) (inside_of s)) (sym opens ∙ ap place_shape is),
      ap (λ ps. sum_by (weight_at page) ps) kids_are,
      kids_weigh page kids,
    )

pub boundary_lighter : (page : Page) → Unfolds page → (place : Place) (shape : Shape Kin) (content fallback : Kin)
    → place_shape shape ≡ (shape_of page place).shape → shape ≡ s.Boundary content fallback → kin_weight page content + kin_weight page fallback < weight_at page place
boundary_lighter page unfolds place shape content fallback opens is =
    omega (arith, inside_lighter page unfolds place shape (s.Boundary content fallback) (content ∷ fallback ∷ []) opens is refl)
