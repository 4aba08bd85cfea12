-- The comments that enclose a boundary among its siblings.
use Rattle.std.specs.Prelude.{ℕ, ◌+◌, ◌-◌, ◌==◌, if◌then◌else◌, Option, Some, None}
use Rattle.dom_forest.specs.declared.boundary.Turn.{Turn}
use Rattle.dom_forest.specs.declared.boundary.Turn.TheVariants.{Opens, Closes, Stays}
use Rattle.dom_forest.specs.declared.node.Mark.TheVariants.{Complete, Pending, Client, End, Space}
use Rattle.dom_forest.specs.declared.node.NewNode.{NewNode}
use Rattle.dom_forest.specs.declared.node.NewNode.TheVariants.{Element, Text, Comment}
use Rattle.dom_forest.specs.Forest.{Forest, empty, tree, later_of}

-- What a node does to the number of open boundaries.
abbrev pub turn_of : NewNode → Turn
turn_of (Element name attributes) = Stays
turn_of (Text text) = Stays
turn_of (Comment Complete) = Opens
turn_of (Comment Pending) = Opens
turn_of (Comment Client) = Opens
turn_of (Comment End) = Closes
turn_of (Comment Space) = Stays

-- What a node does to the search for the end among its later siblings, in which `inner` boundaries more are open.
abbrev pub searched_past : Turn → ℕ → (ℕ → Option ℕ) → ℕ → Option ℕ
searched_past Opens id search_later inner = search_later (inner + 1)
searched_past Closes id search_later inner = if inner == 0 then Some id else search_later (inner - 1)
searched_past Stays id search_later inner = search_later inner

-- The `/$` among siblings that ends what was open before the `inner` boundaries that are open.
abbrev pub closing_mark : Forest → ℕ → Option ℕ
closing_mark empty inner = None
closing_mark (tree i content kids later) inner = searched_past (turn_of content) i (closing_mark later) inner

-- The matching `/$` among the later siblings of a boundary's template: `$`, `$?` and `$!` count up and `/$` down.
abbrev pub end_of_boundary : ℕ → Forest → Option ℕ
end_of_boundary template forest = closing_mark (later_of template forest) 0
