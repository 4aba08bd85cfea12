use Rattle.std.proofs.Common.{◌∙◌, ap, List, reverse}
use Rattle.settle_script.specs.Settlements.{known}
use Rattle.jsx_syntax.specs.declared.file.Component.{Component}
use Rattle.jsx_value.specs.Positions.{Opened, Place, shape_of}
use Rattle.jsx_value.specs.SeenPlaces.{place_at}
use Rattle.jsx_value.proofs.place.shape_at.Goals as goal

pub returns : goal.returns
returns c =
    ap (λ (o : Opened Place). o.shape)
    (c.in_ok-shape.ensures
    ∙ ap (λ (cs : List Component). shape_of (record { known = known c.args.outcomes.now c.args.settled; components = reverse cs; prefix = c.args.prefix.now })
    (place_at c.args.spot c.args.scope)) c.as_slice.ensures)
