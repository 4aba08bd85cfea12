-- The elements that have an attribute `id`.
use Rattle.std.specs.Prelude.{ℕ, Bool, false, ◌&&◌, if◌then◌else◌, List, Option, Some, None, codes}
use Rattle.std.specs.List.{list_any}
use Rattle.std.specs.Str.{bytes_eq}
use Rattle.fizz_text.specs.declared.attribute.Attr.{Attr}
use Rattle.dom_forest.specs.declared.node.NewNode.{NewNode}
use Rattle.dom_forest.specs.declared.node.NewNode.TheVariants.{Element, Text, Comment}
use Rattle.dom_forest.specs.Forest.{Forest, empty, tree, or_id}

abbrev pub is_value : List ℕ → Option (List ℕ) → Bool
is_value bytes None = false
is_value bytes (Some value) = bytes_eq value bytes

abbrev pub gives_id : List ℕ → Attr → Bool
gives_id id attribute = bytes_eq attribute.name (codes "id") && is_value id attribute.value

-- An element has each id that one of its attributes gives.
abbrev pub has_id : List ℕ → NewNode → Bool
has_id id (Element name attributes) = list_any (gives_id id) attributes
has_id id (Text text) = false
has_id id (Comment mark) = false

-- The first element in document order that has the id: a node comes before its children, and they before its later
-- siblings.
abbrev pub element_with : List ℕ → Forest → Option ℕ
element_with id empty = None
element_with id (tree i content kids later) =
    if has_id id content then Some i else or_id (element_with id kids) (element_with id later)
