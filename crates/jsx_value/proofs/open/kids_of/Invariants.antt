use Rattle.std.proofs.Common.{◌≡◌, ◌++◌, drop, map}
use Rattle.jsx_value.specs.SeenPlaces.{place_of}
use Rattle.jsx_value.specs.Layers.{node_place}
use Rattle.jsx_value.proofs.open.kids_of.Given as goal

abbrev pub invariant-loop-node : goal.invariant-loop-node
invariant-loop-node l = map place_of l.kids ++ map (node_place l.scope) (drop l.node-index l.nodes) ≡ map (node_place l.scope) l.nodes
