-- Markers that enclose, among siblings.
use Rattle.std.specs.Prelude.{◌≡◌, ℕ, ◌+◌, ◌-◌, ◌==◌, ◌&&◌, not, Bool, true}
use Rattle.dom_forest.specs.declared.node.Mark.TheVariants.{Complete, Pending, Client, End, Space}
use Rattle.dom_forest.specs.declared.node.NewNode.TheVariants.{Element, Text, Comment}
use Rattle.page_laws.specs.Nodes.{Nodes, none, node}

-- Whether the siblings end each boundary that they begin and `open_now` more, and no others: `$`, `$?` and `$!` begin
-- one, and `/$` ends the innermost one.
abbrev pub closes_all : Nodes → ℕ → Bool
closes_all none open_now = open_now == 0
closes_all (node (Element name attributes) kids later) open_now = closes_all later open_now
closes_all (node (Text t) kids later) open_now = closes_all later open_now
closes_all (node (Comment Complete) kids later) open_now = closes_all later (open_now + 1)
closes_all (node (Comment Pending) kids later) open_now = closes_all later (open_now + 1)
closes_all (node (Comment Client) kids later) open_now = closes_all later (open_now + 1)
closes_all (node (Comment End) kids later) open_now = not (open_now == 0) && closes_all later (open_now - 1)
closes_all (node (Comment Space) kids later) open_now = closes_all later open_now

-- Each `$`, `$?` and `$!` of the siblings has its `/$` among them, and each `/$` ends one of them.
abbrev pub IsBalanced : Nodes → Type 0
IsBalanced nodes = closes_all nodes 0 ≡ true
