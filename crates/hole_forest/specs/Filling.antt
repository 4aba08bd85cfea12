-- A forest with parts in place of its holes.
use Rattle.std.specs.Prelude.{ℕ, List, [], ◌∷◌, slice_get}
use Rattle.std.specs.List.{flat_map}
use Rattle.std.specs.Option.{option_map_or}
use Rattle.hole_forest.specs.declared.forest.HForest.{HForest}
use Rattle.hole_forest.specs.declared.forest.HNode.{HNode}
use Rattle.hole_forest.specs.declared.forest.HNode.TheVariants as n
use Rattle.hole_forest.specs.declared.forest.HNode.TheOpen.{HNode-F}
use Rattle.hole_forest.specs.declared.forest.HNode.TheFolds.{fold-HNode}

-- The nodes in place of hole k are those of part k. A hole without a part stays.
abbrev pub hole_nodes : List HForest → ℕ → List HNode
hole_nodes parts number = option_map_or (λ part. part.nodes) (slice_get parts number) (n.Hole number ∷ [])

abbrev pub filled_step : List HForest → HNode-F (List HNode) → List HNode
filled_step parts (HNode-F.Element name attributes kids) = n.Element name attributes (flat_map (λ nodes. nodes) kids) ∷ []
filled_step parts (HNode-F.Text text) = n.Text text ∷ []
filled_step parts (HNode-F.Hole number) = hole_nodes parts number
filled_step parts (HNode-F.Boundary number) = n.Boundary number ∷ []

abbrev pub filled_node : List HForest → HNode → List HNode
filled_node parts = fold-HNode (List HNode) (filled_step parts)

abbrev pub filled_nodes : List HForest → List HNode → List HNode
filled_nodes parts nodes = flat_map (filled_node parts) nodes
