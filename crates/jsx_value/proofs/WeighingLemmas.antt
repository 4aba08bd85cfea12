-- A position weighs what its layer does, and what the positions inside weigh.
use Rattle.std.proofs.Common.{◌≡◌, ℕ, ◌+◌, ◌<◌, List, ◌++◌, map, refl, sym, ap, ◌∙◌, sum, sum_by, arith}
use Rattle.std.proofs.lemmas.List.Sums.{sum-map, sum_by-append}
use Rattle.std.proofs.lemmas.Simd.{map-map}
use Rattle.jsx_value.specs.declared.page.Layer.{Layer}
use Rattle.jsx_value.specs.declared.shape.Shape.{Shape}
use Rattle.jsx_value.specs.declared.shape.Shape.TheVariants as s
use Rattle.jsx_value.specs.declared.spot.Kin.{Kin}
use Rattle.jsx_value.specs.Positions.{Opened, Page, Place, shape_of}
use Rattle.jsx_value.specs.SeenPlaces.{place_of, place_shape}
use Rattle.jsx_value.specs.Layers.{layer_seen}
use Rattle.jsx_value.specs.Weights.{AddsUp, bytes_weight, inside_of, most_weight, own_weight, weight_at}
use Rattle.jsx_value.specs.Weighing.{kin_weight, layer_weight, stack_weight}

bytes_same : (shape : Shape Kin) → bytes_weight (place_shape shape) ≡ bytes_weight shape
bytes_same s.Nothing = refl
bytes_same (s.Text t) = refl
bytes_same (s.Element name attributes kids) = refl
bytes_same (s.Array kids) = refl
bytes_same (s.Boundary content fallback) = refl
bytes_same (s.Wait resource) = refl
bytes_same (s.Fail digest) = refl

inside_same : (shape : Shape Kin) → inside_of (place_shape shape) ≡ map place_of (inside_of shape)
inside_same s.Nothing = refl
inside_same (s.Text t) = refl
inside_same (s.Element name attributes kids) = refl
inside_same (s.Array kids) = refl
inside_same (s.Boundary content fallback) = refl
inside_same (s.Wait resource) = refl
inside_same (s.Fail digest) = refl

places_weigh : (page : Page) (kins : List Kin) → sum_by (weight_at page) (map place_of kins) ≡ stack_weight page kins
places_weigh page kins =
    sym (sum-map (weight_at page) (map place_of kins)) ∙ ap sum (map-map (weight_at page) place_of kins) ∙ sum-map (λ kin. weight_at page (place_of kin)) kins

pub weighs : (page : Page) → AddsUp page → (layer : Layer) (place : Place) → layer_seen layer ≡ shape_of page place
    → weight_at page place ≡ layer_weight layer + stack_weight page (inside_of layer.shape)
weighs page adds layer place is =
    adds place
    ∙ ap (λ (o : Opened Place). own_weight o + sum_by (weight_at page) (inside_of o.shape)) (sym is)
    ∙ ap (λ n. layer.calls + 1 + n + sum_by (weight_at page) (inside_of (place_shape layer.shape))) (bytes_same layer.shape)
    ∙ ap (λ n. layer_weight layer + n) (ap (λ ps. sum_by (weight_at page) ps) (inside_same layer.shape) ∙ places_weigh page (inside_of layer.shape))

pub stack_weight-append : (page : Page) (xs ys : List Kin) → stack_weight page (xs ++ ys) ≡ stack_weight page xs + stack_weight page ys
stack_weight-append page xs ys = sum_by-append (kin_weight page) xs ys

-- one position taken from the stack, and those inside put on it
pub too_large : (page : Page) → AddsUp page → (layer : Layer) (place : Place) → layer_seen layer ≡ shape_of page place → (total : ℕ)
    → most_weight < total + layer_weight layer → most_weight < total + weight_at page place
too_large page adds layer place is total more = omega (arith, more, weighs page adds layer place is)

pub same_total : (page : Page) → AddsUp page → (layer : Layer) (place : Place) → layer_seen layer ≡ shape_of page place → (total sum : ℕ) (stack new : List Kin)
    → sum ≡ total + layer_weight layer → new ≡ stack ++ inside_of layer.shape
    → sum + stack_weight page new ≡ total + (stack_weight page stack + weight_at page place)
same_total page adds layer place is total sum stack new added grown =
    omega (arith, added, ap (stack_weight page) grown, stack_weight-append page stack (inside_of layer.shape), weighs page adds layer place is)

pub smaller : (page : Page) → AddsUp page → (layer : Layer) (place : Place) → layer_seen layer ≡ shape_of page place → (stack new : List Kin)
    → new ≡ stack ++ inside_of layer.shape → stack_weight page new < stack_weight page stack + weight_at page place
smaller page adds layer place is stack new grown =
    omega (arith, ap (stack_weight page) grown, stack_weight-append page stack (inside_of layer.shape), weighs page adds layer place is)
