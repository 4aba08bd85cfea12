-- The nodes of a document without their ids.
use Rattle.std.specs.Prelude.{ℕ, ◌+◌, if◌then◌else◌, List}
use Rattle.dom_forest.specs.Forest.{Forest, empty, tree}
use Rattle.dom_forest.specs.Ids.{has_id}
use Rattle.dom_forest.specs.declared.node.NewNode.{NewNode}

-- Siblings: none, or a first node over its children, with the later siblings.
pub data Nodes : Type 0 where
  none : Nodes
  node : NewNode → Nodes → Nodes → Nodes

-- The nodes of a forest.
abbrev pub nodes_of : Forest → Nodes
nodes_of empty = none
nodes_of (tree i content kids later) = node content (nodes_of kids) (nodes_of later)

-- The nodes as a forest in which each id is 0, for what is defined on forests and says nothing of ids.
abbrev pub forest_of_nodes : Nodes → Forest
forest_of_nodes none = empty
forest_of_nodes (node content kids later) = tree 0 content (forest_of_nodes kids) (forest_of_nodes later)

-- The one and then the other, as siblings.
abbrev pub joined_nodes : Nodes → Nodes → Nodes
joined_nodes none after = after
joined_nodes (node content kids later) after = node content kids (joined_nodes later after)

-- How many elements have an id.
abbrev pub id_count : List ℕ → Nodes → ℕ
id_count id none = 0
id_count id (node content kids later) = (if has_id id content then 1 else 0) + id_count id kids + id_count id later
