use Rattle.jsx_value.specs.SeenPlaces.{page_with}
use Rattle.settled_tree.proofs.expansion.expand.Goals as goal

pub root_nodes-requires-clause-unfolds : goal.root_nodes-requires-clause-unfolds
root_nodes-requires-clause-unfolds c =
    let page = page_with c.file.result.now c.args.outcomes.now c.args.settled c.args.prefix.now in
    let ordered = c.laws_of_apps.ensures c.file.result.now c.file.ensures.app in
    record { layers = c.laws_of_expansions.ensures.unfolded page ordered; weights = c.laws_of_expansions.ensures.weight page ordered }
