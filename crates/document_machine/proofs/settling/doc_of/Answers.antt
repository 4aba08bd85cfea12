use Rattle.std.proofs.Common.{ap, ◌∙◌}
use Rattle.dom_forest.specs.Documents.{nodes_in}
use Rattle.document_machine.specs.Shown.{view_of_parts}
use Rattle.document_machine.proofs.SeenLemmas.{nodes_in-doc_parts}
use Rattle.document_machine.proofs.settling.doc_of.Goals as goal

pub returns : goal.returns
returns c = ap nodes_in c.in_ok-parts.ensures ∙ nodes_in-doc_parts (view_of_parts c.args.parts.now) c.args.parts.now c.requires
