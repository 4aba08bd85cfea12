use Rattle.fizz_cli.specs.Trees.{settled_page}
use Rattle.fizz_cli.proofs.TreesLemmas.{first_failure, shown_by}
use Rattle.fizz_cli.proofs.steps.page_forest.shown_page.Goals as goal

pub returns-in_ok-copy-in-Some : goal.returns-in_ok-copy-in-Some
returns-in_ok-copy-in-Some c =
    let page = settled_page c.args.sources.now c.args.prefix.now in
    first_failure page _ c.in-Ok.ensures.nodes_are (c.laws_of_forests.ensures.failures page) _ c.in_ok-failures.ensures
    c.in-Ok.ensures.light c.args.app.now c.in-Some.digest.now c.in_ok-copy-in-Some.field-0
    (rw c.as_slice.ensures at c.in-Some.ensures.value) c.in_ok-copy-in-Some.ensures

pub returns-in-None : goal.returns-in-None
returns-in-None c =
    let page = settled_page c.args.sources.now c.args.prefix.now in
    record {
      expanded = c.in-Ok.ensures;
      shown = shown_by page _ c.in-Ok.ensures.nodes_are (c.laws_of_forests.ensures.failures page) _ c.in_ok-failures.ensures
          c.in-Ok.ensures.light (rw c.as_slice.ensures at c.in-None.ensures.value);
    }
