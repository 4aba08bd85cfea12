use Rattle.std.proofs.Common.{◌≡◌, IfOk, subst, sym}
use Rattle.jsx_value.specs.Positions.{Opened, Place}
use Rattle.jsx_value.specs.Layers.{layer_seen, calls_at}
use Rattle.jsx_value.proofs.LayersLemmas.{children-opens}
use Rattle.jsx_value.proofs.place.siblings_layer.Goals as goal

pub returns : goal.returns
returns c =
    subst (λ (o : Opened Place). IfOk c.children_layer.result (λ layer. layer_seen layer ≡ o))
    (sym (children-opens c.args.page.now.prefix.now (calls_at c.args.page.now c.args.page.now.components.now) c.args.nodes.now c.args.scope))
    c.children_layer.ensures.layer
