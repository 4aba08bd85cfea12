use Rattle.fizz_cli.specs.Trees.{settled_page}
use Rattle.fizz_cli.proofs.TreesLemmas.{forest_sound, prints_page}
use Rattle.fizz_cli.proofs.commands.tree.document_of.Goals as goal

pub final_of-requires : goal.final_of-requires
final_of-requires c =
    let page = settled_page c.args.sources.now c.args.prefix.now in
    forest_sound page _ c.in-Ok.ensures.expanded.nodes_are (c.laws_of_forests.ensures.failures page) c.in-Ok.ensures.shown

pub returns-in_ok-print_doc-in-Ok : goal.returns-in_ok-print_doc-in-Ok
returns-in_ok-print_doc-in-Ok c =
    let page = settled_page c.args.sources.now c.args.prefix.now in
    prints_page page _ c.in-Ok.ensures.expanded.nodes_are (c.laws_of_forests.ensures.failures page) c.in-Ok.ensures.shown
    (c.laws_of_forests.ensures.document page) _ _ c.in_ok-final_of-in-Ok.ensures c.in_ok-print_doc-in-Ok.ensures
