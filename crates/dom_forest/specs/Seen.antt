-- What a call shows of a document.
use Rattle.std.specs.Prelude.{ℕ, Option, Some, None}
use Rattle.dom_forest.specs.declared.node.DomNode.{DomNode}
use Rattle.dom_forest.specs.declared.node.DomNode.TheVariants.{Element as element_seen, Text as text_seen, Comment as comment_seen}
use Rattle.dom_forest.specs.declared.node.NewNode.{NewNode}
use Rattle.dom_forest.specs.declared.node.NewNode.TheVariants.{Element, Text, Comment}
use Rattle.dom_forest.specs.declared.node.NodeId.{NodeId}

-- The number of a node, if there is one.
abbrev pub number : Option NodeId → Option ℕ
number None = None
number (Some id) = Some id.0

-- The content that a borrowed node shows.
abbrev pub shown_node : DomNode → NewNode
shown_node (element_seen name attributes) = Element name.now attributes.now
shown_node (text_seen text) = Text text.now
shown_node (comment_seen mark) = Comment mark

abbrev pub shown_option : Option DomNode → Option NewNode
shown_option None = None
shown_option (Some node) = Some (shown_node node)
