-- Content that is shown whole, said of nodes without ids.
use Rattle.std.specs.Prelude.{◌≡◌, ℕ, Bool, false, ◌||◌, List, [], ◌∷◌}
use Rattle.dom_forest.specs.declared.node.Mark.TheVariants.{Complete, Pending, Client, End, Space}
use Rattle.dom_forest.specs.declared.node.NewNode.{NewNode}
use Rattle.dom_forest.specs.declared.node.NewNode.TheVariants.{Element, Text, Comment}
use Rattle.document_machine.specs.Reveals.{is_placeholder}
use Rattle.page_laws.specs.Nodes.{Nodes, none, node, joined_nodes}
use Rattle.page_laws.specs.Balance.{IsBalanced}
use Rattle.page_laws.specs.Documents.{Container, StreamedDocument}
use Rattle.page_laws.specs.Pages.{RevealsWholePage}

-- Whether a placeholder stands among nodes, at any depth.
abbrev pub has_placeholder : List ℕ → Nodes → Bool
has_placeholder prefix none = false
has_placeholder prefix (node content kids later) =
    is_placeholder prefix content || (has_placeholder prefix kids || has_placeholder prefix later)

-- Where the later siblings of a marker hold its `/$`, no placeholder stands before that.
abbrev pub IsWholeUpToEnd : List ℕ → Nodes → Type 0
IsWholeUpToEnd prefix later = (inside below after : Nodes) → later ≡ joined_nodes inside (node (Comment End) below after) →
    IsBalanced inside → has_placeholder prefix inside ≡ false

abbrev pub IsWholeAfter : List ℕ → NewNode → Nodes → Type 0
IsWholeAfter prefix (Element name attributes) later = Unit {0}
IsWholeAfter prefix (Text text) later = Unit {0}
IsWholeAfter prefix (Comment Complete) later = IsWholeUpToEnd prefix later
IsWholeAfter prefix (Comment Pending) later = Unit {0}
IsWholeAfter prefix (Comment Client) later = Unit {0}
IsWholeAfter prefix (Comment End) later = Unit {0}
IsWholeAfter prefix (Comment Space) later = Unit {0}

-- Between each `$` and its `/$`, wherever they stand, is no placeholder.
abbrev pub RevealsWholeNodes : List ℕ → Nodes → Type 0
RevealsWholeNodes prefix none = Unit {0}
RevealsWholeNodes prefix (node content kids later) =
    IsWholeAfter prefix content later × RevealsWholeNodes prefix kids × RevealsWholeNodes prefix later

abbrev pub EachRevealsWhole : List Container → Type 0
EachRevealsWhole [] = Unit {0}
EachRevealsWhole (c ∷ cs) = RevealsWholePage c.content × EachRevealsWhole cs

-- Each page of the document shows its boundaries whole.
abbrev pub RevealsWholeDocument : StreamedDocument → Type 0
RevealsWholeDocument d = RevealsWholePage d.shown × EachRevealsWhole d.containers

-- The first nodes of a document, in its order: what stands before some place. Of the elements around that place the first
-- children stand, and nothing after them. A text may be cut there.
pub data IsPrefixOf : Nodes → Nodes → Type 0 where
  stops : (nodes : Nodes) → IsPrefixOf none nodes
  cuts : (front text : List ℕ) (later : Nodes) → IsPrefixOf (node (Text front) none none) (node (Text text) none later)
  below : (content : NewNode) (front kids later : Nodes) → IsPrefixOf front kids → IsPrefixOf (node content front none) (node content kids later)
  past : (content : NewNode) (kids front later : Nodes) → IsPrefixOf front later → IsPrefixOf (node content kids front) (node content kids later)
