use Rattle.std.proofs.Common.{◌≡◌, ◌++◌, drop, map}
use Rattle.jsx_value.specs.SeenPlaces.{place_of}
use Rattle.jsx_value.specs.Layers.{value_place}
use Rattle.jsx_value.proofs.open.items_of.Given as goal

abbrev pub invariant-loop-item : goal.invariant-loop-item
invariant-loop-item l = map place_of l.kids ++ map value_place (drop l.item-index l.items) ≡ map value_place l.items
