use Rattle.fizz_cli.specs.Trees.{settled_page}
use Rattle.fizz_cli.proofs.RenderingLemmas.{may_come_late, prints_still, tested}
use Rattle.fizz_cli.proofs.StillLemmas.{most_open_is}
use Rattle.fizz_cli.proofs.TreesLemmas.{forest_sound}
use Rattle.fizz_cli.proofs.commands.render.still_bytes.Goals as goal

pub returns-then-not-are_still : goal.returns-then-not-are_still
returns-then-not-are_still c =
    let sources = c.args.sources.now in
    let prefix = c.args.prefix.now in
    let forest = c.in-Ok.forest in
    record {
      shown = c.in-Ok.ensures.shown;
      still = may_come_late sources prefix forest c.in-Ok.ensures.expanded 512 most_open_is
          (tested prefix forest.nodes c.as_slice.result.now 512 c.are_still.result _ c.as_slice.ensures c.are_still.ensures
          c.if-not-are_still.true);
    }

pub final_of-requires : goal.final_of-requires
final_of-requires c =
    let page = settled_page c.args.sources.now c.args.prefix.now in
    forest_sound page _ c.in-Ok.ensures.expanded.nodes_are (c.laws_of_forests.ensures.failures page) c.in-Ok.ensures.shown

pub returns : goal.returns
returns c =
    let sources = c.args.sources.now in
    let prefix = c.args.prefix.now in
    let forest = c.in-Ok.forest in
    let page = settled_page sources prefix in
    record {
      shown = c.in-Ok.ensures.shown;
      still = prints_still sources prefix forest c.in-Ok.ensures.expanded 512 most_open_is
          (λ p more. (c.laws_of_names.ensures.own_ids p more).1) c.laws_of_printed_documents.ensures.document
          (c.laws_of_forests.ensures.document page)
          (tested prefix forest.nodes c.as_slice.result.now 512 c.are_still.result _ c.as_slice.ensures c.are_still.ensures
          c.if-not-are_still.false) _ _ c.in_ok-final_of.ensures c.in_ok-print_doc.ensures;
    }
