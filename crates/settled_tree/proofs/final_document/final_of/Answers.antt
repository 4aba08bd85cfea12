use Rattle.std.proofs.Common.{◌∙◌, ◌++◌, ap}
use Rattle.dom_forest.specs.Documents.{nodes_in}
use Rattle.settled_tree.specs.Final.{final_document, settled_nodes}
use Rattle.settled_tree.specs.Layers.{parts_of}
use Rattle.settled_tree.proofs.PartsLemmas.{nodes_in-parts}
use Rattle.settled_tree.proofs.final_document.final_of.Goals as goal

pub returns : goal.returns
returns c =
    ap nodes_in c.in_ok-push_nodes.ensures
    ∙ ap (λ ps. nodes_in (ps ++ parts_of (final_document (settled_nodes c.as_slice.result.now)))) c.new-parts.ensures
    ∙ nodes_in-parts (final_document (settled_nodes c.as_slice.result.now))
    ∙ ap (λ ns. final_document (settled_nodes ns)) c.as_slice.ensures
