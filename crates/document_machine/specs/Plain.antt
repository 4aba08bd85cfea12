-- A document without boundaries, which is its own view and its own settled document.
use Rattle.std.specs.Prelude.{◌≡◌, ℕ, Bool, false, List, [], ◌∷◌}
use Rattle.dom_forest.specs.Forest.{Forest, empty, tree}
use Rattle.dom_forest.specs.declared.document.DocNode.{DocNode}
use Rattle.dom_forest.specs.declared.document.DocNode.TheVariants as doc
use Rattle.dom_forest.specs.declared.node.Mark.TheVariants.{Complete, Pending, Client, End, Space}
use Rattle.dom_forest.specs.declared.node.NewNode.TheVariants.{Element, Text, Comment}
use Rattle.document_machine.specs.Views.{View, end, text, element, is_left_out}

-- No marker of a boundary, and no element that a view leaves out.
abbrev pub IsPlain : List ℕ → Bool → Forest → Type 0
IsPlain prefix at_top empty = Unit {0}
IsPlain prefix at_top (tree i (Element name attributes) kids later) =
    (is_left_out prefix at_top name attributes ≡ false) × IsPlain prefix false kids × IsPlain prefix at_top later
IsPlain prefix at_top (tree i (Text t) kids later) = IsPlain prefix at_top later
IsPlain prefix at_top (tree i (Comment Complete) kids later) = ⊥
IsPlain prefix at_top (tree i (Comment Pending) kids later) = ⊥
IsPlain prefix at_top (tree i (Comment Client) kids later) = ⊥
IsPlain prefix at_top (tree i (Comment End) kids later) = ⊥
IsPlain prefix at_top (tree i (Comment Space) kids later) = IsPlain prefix at_top later

-- its elements and texts, as a view
abbrev pub plain_view : Forest → View
plain_view empty = end
plain_view (tree i (Element name attributes) kids later) = element name attributes (plain_view kids) (plain_view later)
plain_view (tree i (Text t) kids later) = text t (plain_view later)
plain_view (tree i (Comment mark) kids later) = plain_view later

-- and as a document
abbrev pub plain_nodes : Forest → List DocNode
plain_nodes empty = []
plain_nodes (tree i (Element name attributes) kids later) = doc.Element name attributes (plain_nodes kids) ∷ plain_nodes later
plain_nodes (tree i (Text t) kids later) = doc.Text t ∷ plain_nodes later
plain_nodes (tree i (Comment mark) kids later) = plain_nodes later
