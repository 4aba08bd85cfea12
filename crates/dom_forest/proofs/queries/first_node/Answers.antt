use Rattle.std.proofs.Common.{None, sym, ap, ◌∙◌}
use Rattle.dom_forest.specs.Chain.{entries_of, head_id}
use Rattle.dom_forest.specs.Flat.{forest_of}
use Rattle.dom_forest.proofs.Steps.{head_forest}
use Rattle.dom_forest.proofs.queries.first_node.Goals as goal

pub returns : goal.returns
returns c =
    c.requires.links.head ∙ ap (λ es. head_id es None) (sym c.requires.document.whole) ∙ head_forest (forest_of (entries_of c.args.chain.now))
