-- A place weighs what its layer does, and what the places inside weigh.
use Rattle.std.proofs.Common.{◌≡◌, ℕ, ◌+◌, List, map, ap, ◌∙◌, sum_by, sum, arith}
use Rattle.std.proofs.lemmas.List.Sums.{sum-map}
use Rattle.std.proofs.lemmas.Simd.{map-map}
use Rattle.jsx_value.specs.declared.shape.Shape.{Shape}
use Rattle.jsx_value.specs.declared.shape.Shape.TheVariants as s
use Rattle.jsx_value.specs.declared.shape.Tree.{Tree}
use Rattle.jsx_value.specs.declared.shape.Tree.TheFolds.{fold-roll-Tree, map-Tree}
use Rattle.jsx_value.specs.Positions.{Opened, Page, Place, expansion, shape_of}
use Rattle.jsx_value.specs.Spots.{weight_of, weight_step}
use Rattle.jsx_value.specs.Expansions.{IsUnfolded}
use Rattle.jsx_value.specs.Weights.{AddsUp, bytes_weight, inside_of, own_weight}

kids_weigh : (grow : Place → Tree) (kids : List Place) → sum (map weight_of (map grow kids)) ≡ sum_by (λ place. weight_of (grow place)) kids
kids_weigh grow kids = ap sum (map-map weight_of grow kids) ∙ sum-map (λ place. weight_of (grow place)) kids

layer_weighs : (grow : Place → Tree) (layer : Opened Place)
    → weight_step (map-Tree Tree ℕ weight_of (map-Tree Place Tree grow layer)) ≡ own_weight layer + sum_by (λ place. weight_of (grow place)) (inside_of layer.shape)
layer_weighs grow layer = by_case layer.calls layer.shape where
  by_case : (calls : ℕ) (shape : Shape Place)
      → weight_step (map-Tree Tree ℕ weight_of (map-Tree Place Tree grow (record { calls = calls; shape = shape })))
      ≡ calls + 1 + bytes_weight shape + sum_by (λ place. weight_of (grow place)) (inside_of shape)
  by_case calls s.Nothing = omega arith
  by_case calls (s.Text t) = omega arith
  by_case calls (s.Element name attributes kids) = omega (arith, kids_weigh grow kids)
  by_case calls (s.Array kids) = omega (arith, kids_weigh grow kids)
  by_case calls (s.Boundary content fallback) = omega arith
  by_case calls (s.Wait resource) = omega arith
  by_case calls (s.Fail digest) = omega arith

pub adds_up : (page : Page) → IsUnfolded page → AddsUp page
adds_up page unfolds place =
    ap weight_of (unfolds place)
    ∙ fold-roll-Tree ℕ weight_step (map-Tree Place Tree (expansion page) (shape_of page place))
    ∙ layer_weighs (expansion page) (shape_of page place)
