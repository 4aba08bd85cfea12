use Rattle.std.proofs.Common.{◌≡◌, ◌++◌, drop, map}
use Rattle.jsx_value.specs.Positions.{each_item, item_scope}
use Rattle.jsx_value.specs.SeenPlaces.{place_of}
use Rattle.jsx_value.specs.Layers.{node_place}
use Rattle.jsx_value.proofs.open.mapped.Given as goal

abbrev pub invariant-loop-n : goal.invariant-loop-n
invariant-loop-n l =
    map place_of l.kids ++ each_item (λ n x. node_place (item_scope l.item l.number l.scope n x) l.body) l.n (drop l.n l.items)
    ≡ each_item (λ n x. node_place (item_scope l.item l.number l.scope n x) l.body) 0 l.items
