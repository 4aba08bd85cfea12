use Rattle.std.proofs.Common.{refl}
use Rattle.jsx_value.specs.Layers.{page_of}
use Rattle.jsx_value.specs.SeenPlaces.{place_of}
use Rattle.jsx_value.proofs.WeighingLemmas.{too_large, same_total, smaller}
use Rattle.jsx_value.proofs.weight.weigh_position.Goals as goal

pub returns-in_default-clause-refused : goal.returns-in_default-clause-refused
returns-in_default-clause-refused c = (
  refl,
  too_large (page_of c.args.page.now) c.requires c.in_ok-layer.layer (place_of c.args.kin) c.in_ok-layer.ensures c.args.total c.in_default.ensures,
)

pub returns-clause-same : goal.returns-clause-same
returns-clause-same c =
    same_total (page_of c.args.page.now) c.requires c.in_ok-layer.layer (place_of c.args.kin) c.in_ok-layer.ensures c.args.total c.in-Some.sum
    c.args.stack.now c.push_inside.new.stack c.in-Some.ensures.0 c.in_ok-push_inside.ensures

pub returns-clause-smaller : goal.returns-clause-smaller
returns-clause-smaller c =
    smaller (page_of c.args.page.now) c.requires c.in_ok-layer.layer (place_of c.args.kin) c.in_ok-layer.ensures
    c.args.stack.now c.push_inside.new.stack c.in_ok-push_inside.ensures
