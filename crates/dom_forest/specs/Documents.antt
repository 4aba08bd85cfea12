-- The nodes of a document, by its parts.
use Rattle.std.specs.Prelude.{List, [], ◌∷◌, ◌++◌}
use Rattle.dom_forest.specs.declared.document.DocNode.{DocNode}
use Rattle.dom_forest.specs.declared.document.DocNode.TheVariants as doc
use Rattle.dom_forest.specs.declared.document.DocPart.{DocPart}
use Rattle.dom_forest.specs.declared.document.DocPart.TheVariants.{Element, Text, End}

-- Siblings up to the first end of what was begun before them, then those up to the next one, and so on.
pub record NodeLevels : Type 0 where
  pub first : List DocNode
  pub rest : List (List DocNode)

-- What follows an end; nothing where none comes.
abbrev pub levels_after : List (List DocNode) → NodeLevels
levels_after [] = record { first = []; rest = [] }
levels_after (next ∷ rest) = record { first = next; rest = rest }

abbrev pub with_node : DocNode → NodeLevels → NodeLevels
with_node node levels = record levels { first = node ∷ levels.first }

abbrev pub levels_of : List DocPart → NodeLevels
levels_of [] = record { first = []; rest = [] }
levels_of (Element name attributes ∷ parts) =
    let inner = levels_of parts in with_node (doc.Element name attributes inner.first) (levels_after inner.rest)
levels_of (Text text ∷ parts) = with_node (doc.Text text) (levels_of parts)
levels_of (End ∷ parts) = let later = levels_of parts in record { first = []; rest = later.first ∷ later.rest }

abbrev pub all_levels : List DocNode → List (List DocNode) → List DocNode
all_levels first [] = first
all_levels first (next ∷ rest) = first ++ all_levels next rest

-- An element that is not ended runs to the end, and an end of nothing is left out.
abbrev pub nodes_in : List DocPart → List DocNode
nodes_in parts = let levels = levels_of parts in all_levels levels.first levels.rest
