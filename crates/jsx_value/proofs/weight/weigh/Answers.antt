use Rattle.std.proofs.Common.{◌∙◌, List, ap, reverse, subst, sym}
use Rattle.settle_script.specs.Settlements.{known}
use Rattle.jsx_syntax.specs.declared.file.Component.{Component}
use Rattle.jsx_syntax.specs.declared.file.File.{File}
use Rattle.jsx_value.specs.SeenPlaces.{page_with}
use Rattle.jsx_value.specs.Weights.{AddsUp}
use Rattle.jsx_value.proofs.weight.weigh.Goals as goal

pub weigh_page-requires : goal.weigh_page-requires
weigh_page-requires c =
    subst (λ (cs : List Component). AddsUp (record { known = known c.args.outcomes.now c.args.settled; components = reverse cs; prefix = c.args.prefix.now }))
    (sym c.as_slice.ensures)
    (c.laws_of_expansions.ensures.weight (page_with c.file-file.result.now c.args.outcomes.now c.args.settled c.args.prefix.now)
    (c.laws_of_apps.ensures c.file-file.result.now c.file-file.ensures.app))
