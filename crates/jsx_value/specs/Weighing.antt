-- What is left to be weighed: for private functions.
use Rattle.std.specs.Prelude.{ℕ, ◌+◌, List, sum_by}
use Rattle.jsx_value.specs.declared.page.Layer.{Layer}
use Rattle.jsx_value.specs.declared.spot.Kin.{Kin}
use Rattle.jsx_value.specs.Positions.{Page}
use Rattle.jsx_value.specs.SeenPlaces.{place_of}
use Rattle.jsx_value.specs.Weights.{bytes_weight, weight_at}

abbrev pub kin_weight : Page → Kin → ℕ
kin_weight page kin = weight_at page (place_of kin)

abbrev pub stack_weight : Page → List Kin → ℕ
stack_weight page stack = sum_by (kin_weight page) stack

-- what a layer weighs by itself
abbrev pub layer_weight : Layer → ℕ
layer_weight layer = layer.calls + 1 + bytes_weight layer.shape
