use Rattle.std.proofs.Common.{◌∙◌}
use Rattle.dom_forest.specs.Documents.{nodes_in}
use Rattle.document_machine.specs.Shown.{view_of_parts}
use Rattle.fizz_cli.proofs.GeneratingLemmas.{if_ok_more, is_summary, says_all}
use Rattle.fizz_cli.proofs.summary.summary_of.Goals as goal

pub returns : goal.returns
returns c =
    let view = c.in-Ok.view in
    let document = nodes_in c.in-Ok-settled_doc.doc.parts in
    if_ok_more c.line_of.result c.line_of.ensures (λ line says.
    is_summary c.args.page.now view document line.items (rw c.fixed.ensures at c.in-Ok.ensures) c.in-Ok-settled_doc.ensures
    (says_all (view_of_parts view.parts) document c.counts.result c.texts_in.result c.len.result
    c.in_ok-printed.printed.items line.items c.counts.ensures c.texts_in.ensures c.in_ok-printed.ensures (c.len.ensures ∙ c.in_ok-printed.printed.ok.0) says))
