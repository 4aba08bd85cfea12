-- The nodes of a document as a forest, and what stands where in it.
use Rattle.std.specs.Prelude.{ℕ, ◌+◌, ◌<◌, ◌==◌, if◌then◌else◌, Option, Some, None}
use Rattle.dom_forest.specs.declared.node.NewNode.{NewNode}
use Rattle.dom_forest.specs.declared.node.NewNode.TheVariants.{Element, Text, Comment}
use Rattle.dom_forest.specs.declared.node.NodeId.{NodeId}

-- A forest is empty, or it is a first tree and the later ones, which are its later siblings. A tree is a node, by its
-- id and its content, over the forest of its children.
pub data Forest : Type 0 where
  empty : Forest
  tree : ℕ → NewNode → Forest → Forest → Forest

-- How often an id stands in the forest.
abbrev pub times : ℕ → Forest → ℕ
times id empty = 0
times id (tree i content kids later) = (if i == id then 1 else 0) + times id kids + times id later

-- How many nodes there are.
abbrev pub count : Forest → ℕ
count empty = 0
count (tree i content kids later) = 1 + count kids + count later

-- One forest and then the other, as siblings.
abbrev pub joined_forests : Forest → Forest → Forest
joined_forests empty after = after
joined_forests (tree i content kids later) after = tree i content kids (joined_forests later after)

-- The first forest that is not empty.
abbrev pub or_else : Forest → Forest → Forest
or_else empty other = other
or_else (tree i content kids later) other = tree i content kids later

-- The siblings from the node on, with all below them; empty where the node is not there.
abbrev pub from : ℕ → Forest → Forest
from id empty = empty
from id (tree i content kids later) =
    if i == id then tree i content kids later else or_else (from id kids) (from id later)

abbrev pub IsThere : ℕ → Forest → Type 0
IsThere id forest = 0 < times id forest

-- The id, the content, the children and the later siblings of the first node.
abbrev pub first_id : Forest → Option ℕ
first_id empty = None
first_id (tree i content kids later) = Some i

abbrev pub first_content : Forest → Option NewNode
first_content empty = None
first_content (tree i content kids later) = Some content

abbrev pub first_kids : Forest → Forest
first_kids empty = empty
first_kids (tree i content kids later) = kids

abbrev pub first_later : Forest → Forest
first_later empty = empty
first_later (tree i content kids later) = later

-- The first tree alone.
abbrev pub first_tree : Forest → Forest
first_tree empty = empty
first_tree (tree i content kids later) = tree i content kids empty

abbrev pub content_of : ℕ → Forest → Option NewNode
content_of id forest = first_content (from id forest)

-- The children of a node, or the nodes at the top for None.
abbrev pub kids_of : Option NodeId → Forest → Forest
kids_of None forest = forest
kids_of (Some parent) forest = first_kids (from parent.0 forest)

-- The later siblings of a node.
abbrev pub later_of : ℕ → Forest → Forest
later_of id forest = first_later (from id forest)

-- The first child of a node, or the first node at the top for None.
abbrev pub first_of : Option NodeId → Forest → Option ℕ
first_of parent forest = first_id (kids_of parent forest)

-- The next sibling.
abbrev pub next_of : ℕ → Forest → Option ℕ
next_of id forest = first_id (later_of id forest)

abbrev pub or_id : Option ℕ → Option ℕ → Option ℕ
or_id None other = other
or_id (Some id) other = Some id

-- The parent of a node in a forest that stands under `above`.
abbrev pub parent_under : Option ℕ → ℕ → Forest → Option ℕ
parent_under above id empty = None
parent_under above id (tree i content kids later) =
    if i == id then above else or_id (parent_under (Some i) id kids) (parent_under above id later)

-- The parent of a node; None for the nodes at the top.
abbrev pub parent_of : ℕ → Forest → Option ℕ
parent_of = parent_under None

-- The previous sibling of a node in a forest that stands after `before`.
abbrev pub previous_after : Option ℕ → ℕ → Forest → Option ℕ
previous_after before id empty = None
previous_after before id (tree i content kids later) =
    if i == id then before else or_id (previous_after None id kids) (previous_after (Some i) id later)

-- The previous sibling of a node; None for the first of siblings.
abbrev pub previous_of : ℕ → Forest → Option ℕ
previous_of = previous_after None

abbrev pub IsElement : Option NewNode → Type 0
IsElement (Some (Element name attributes)) = Unit {0}
IsElement (Some (Text text)) = ⊥
IsElement (Some (Comment mark)) = ⊥
IsElement None = ⊥

abbrev pub IsComment : Option NewNode → Type 0
IsComment (Some (Element name attributes)) = ⊥
IsComment (Some (Text text)) = ⊥
IsComment (Some (Comment mark)) = Unit {0}
IsComment None = ⊥

-- Children go under an element that is there, or to the top for None.
abbrev pub MayHaveChildren : Option NodeId → Forest → Type 0
MayHaveChildren None forest = Unit {0}
MayHaveChildren (Some parent) forest = IsElement (content_of parent.0 forest)

-- One node at the top, an element.
abbrev pub IsOneElement : Forest → Type 0
IsOneElement empty = ⊥
IsOneElement (tree i content kids empty) = IsElement (Some content)
IsOneElement (tree i content kids (tree j other below later)) = ⊥
