use Rattle.std.proofs.Common.{◌≡◌, [], ◌∷◌, codes}
use Rattle.dom_forest.specs.declared.node.NewNode.TheVariants.{Element, Text}
use Rattle.page_laws.specs.NodeReveals.{IsPrefixOf, below, cuts}
use Rattle.page_laws.specs.Nodes.{node, none}
use Rattle.page_laws.proofs.tests.seen.what_a_cut_leaves.Goals as goal

pub returns : goal.returns
returns c =
    below (Element (codes "p") []) (node (Text (codes "a")) none none) (node (Text (codes "ab")) none (node (Element (codes "br") []) none none)) none
    (cuts (codes "a") (codes "ab") (node (Element (codes "br") []) none none))
