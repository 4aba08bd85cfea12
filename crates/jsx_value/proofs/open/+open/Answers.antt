use Rattle.std.proofs.Common.{◌≡◌, IfOk, subst, sym}
use Rattle.jsx_value.specs.Positions.{Opened, Place}
use Rattle.jsx_value.specs.Layers.{layer_seen, calls_at}
use Rattle.jsx_value.proofs.LayersLemmas.{node-opens, node_layer-Map}
use Rattle.jsx_value.proofs.open.+open.Goals as goal

pub open_node-returns-clause-layer : goal.open_node-returns-clause-layer
open_node-returns-clause-layer t c =
    subst (λ (o : Opened Place). IfOk c.node_layer.result (λ layer. layer_seen layer ≡ o))
    (sym (node-opens c.args.page.now.prefix.now (calls_at c.args.page.now c.args.before.now) c.args.node.now c.args.scope))
    c.node_layer.ensures.layer

pub node_layer-returns-in-Map-clause-layer : goal.node_layer-returns-in-Map-clause-layer
node_layer-returns-in-Map-clause-layer t c =
    subst (λ (o : Opened Place). IfOk c.map_layer.result (λ layer. layer_seen layer ≡ o))
    (node_layer-Map c.args.page.now.prefix.now (calls_at c.args.page.now c.args.before.now) c.args.node.now c.in-Map.list c.in-Map.item c.in-Map.number c.in-Map.body c.args.scope c.in-Map.is)
    c.map_layer.ensures.layer
