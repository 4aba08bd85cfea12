-- The expansion of a page as nested nodes: elements, texts, boundaries, failures and waits. An array's positions stand
-- in its place, and what is nothing leaves none.
use Rattle.std.specs.Prelude.{ℕ, ◌+◌, List, [], ◌∷◌, ◌++◌, map}
use Rattle.jsx_value.specs.Positions.{Page}
use Rattle.jsx_value.specs.Expansions.{page_spots}
use Rattle.jsx_value.specs.Spots.{Label, nothing, text, element, array, boundary, wait, fail, Spots, none, spot, in_a_row}
use Rattle.settled_tree.specs.declared.forest.FNode.{FNode}
use Rattle.settled_tree.specs.declared.forest.FNode.TheVariants as f
use Rattle.settled_tree.specs.declared.forest.FNode.TheOpen.{FNode-F}
use Rattle.settled_tree.specs.declared.forest.FNode.TheFolds.{fold-FNode}

-- The nodes of a position at a path, given those of the positions inside it.
abbrev pub nodes_of : Label → List ℕ → List FNode → List FNode → List FNode
nodes_of nothing path kids other = []
nodes_of (text t) path kids other = f.Text t ∷ []
nodes_of (element name attributes) path kids other = f.Element name attributes kids ∷ []
nodes_of array path kids other = kids
nodes_of boundary path kids other = f.Boundary path kids other ∷ []
nodes_of (wait resource) path kids other = f.Wait resource path ∷ []
nodes_of (fail digest) path kids other = f.Fail digest ∷ []

-- The nodes of siblings inside the position at a path, the first of which has the number n. Kids are numbered from 0;
-- a boundary's content is 0, and its fallback is 1.
abbrev pub nodes_below : List ℕ → ℕ → Spots → List FNode
nodes_below above n none = []
nodes_below above n (spot label kids other later) =
    nodes_of label (above ++ n ∷ []) (nodes_below (above ++ n ∷ []) 0 kids) (nodes_below (above ++ n ∷ []) 1 other)
    ++ nodes_below above (n + 1) later

-- The nodes of one position, the first, at its path.
abbrev pub nodes_at : List ℕ → Spots → List FNode
nodes_at path none = []
nodes_at path (spot label kids other later) = nodes_of label path (nodes_below path 0 kids) (nodes_below path 1 other)

-- The forest of a page. Its root has the empty path.
abbrev pub forest_of : Page → List FNode
forest_of page = nodes_at [] (page_spots page)

-- Nodes as positions again, so that what is said of positions is said of them.
abbrev pub spots_step : FNode-F (Spots → Spots) → Spots → Spots
spots_step (FNode-F.Element name attributes kids) later = spot (element name attributes) (in_a_row kids) none later
spots_step (FNode-F.Text t) later = spot (text t) none none later
spots_step (FNode-F.Boundary path content fallback) later = spot boundary (in_a_row content) (in_a_row fallback) later
spots_step (FNode-F.Fail digest) later = spot (fail digest) none none later
spots_step (FNode-F.Wait resource path) later = spot (wait resource) none none later

abbrev pub node_spots : FNode → Spots → Spots
node_spots = fold-FNode (Spots → Spots) spots_step

abbrev pub spots_in : List FNode → Spots
spots_in nodes = in_a_row (map node_spots nodes)
