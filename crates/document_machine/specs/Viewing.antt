-- How far a walk over a document has come with its view, for private functions.
use Rattle.std.specs.Prelude.{ℕ, ◌+◌, ◌*◌, Bool, List, [], ◌∷◌, ◌++◌, Option, Some, None, reverse}
use Rattle.dom_forest.specs.Forest.{Forest, empty, from, count}
use Rattle.dom_forest.specs.declared.node.NodeId.{NodeId}
use Rattle.document_machine.specs.declared.view.ViewPart.{ViewPart}
use Rattle.document_machine.specs.declared.view.ViewPart.TheVariants.{EndOfElement, EndOfBoundary}
use Rattle.document_machine.specs.declared.viewing.Frame.{Frame}
use Rattle.document_machine.specs.declared.viewing.Frame.TheVariants.{Element, Boundary}
use Rattle.document_machine.specs.declared.viewing.Walk.{Walk}
use Rattle.document_machine.specs.Shown.{levels_after, view_parts}
use Rattle.document_machine.specs.Views.{end, Levels, levels_of, siblings_of}

-- The siblings from a node on; none for None.
abbrev pub nodes_from : Option NodeId → Forest → Forest
nodes_from None forest = empty
nodes_from (Some node) forest = from node.0 forest

-- The parts that are still to come where frames are open, the innermost first, and these siblings follow.
abbrev pub parts_to_end : List ℕ → Forest → List Frame → Levels → List ViewPart
parts_to_end prefix forest [] levels = view_parts (siblings_of levels) []
parts_to_end prefix forest (Element at_top later ∷ outer) levels =
    view_parts (siblings_of levels)
    (EndOfElement ∷ parts_to_end prefix forest outer (levels_of prefix at_top (nodes_from later forest)))
parts_to_end prefix forest (Boundary ∷ outer) levels =
    view_parts levels.first (EndOfBoundary ∷ parts_to_end prefix forest outer (levels_after levels.rest))

-- The parts of the whole view, of a walk that goes on with these siblings.
abbrev pub all_parts : List ℕ → Forest → Walk → Levels → List ViewPart
all_parts prefix forest walk levels = walk.parts ++ parts_to_end prefix forest (reverse walk.frames) levels

-- The same from a node on.
abbrev pub all_parts_from : List ℕ → Forest → Walk → Option NodeId → List ViewPart
all_parts_from prefix forest walk here = all_parts prefix forest walk (levels_of prefix walk.at_top (nodes_from here forest))

-- no siblings
abbrev pub no_levels : Levels
no_levels = record { first = end; rest = [] }

-- A walk with one frame more, and one inside a frame that a part begins.
abbrev pub with_frame : Frame → Walk → Walk
with_frame frame walk = record walk { frames = walk.frames ++ frame ∷ [] }

abbrev pub walk_inside : Frame → ViewPart → Bool → Walk → Walk
walk_inside frame part at_top walk =
    record { parts = walk.parts ++ part ∷ []; frames = walk.frames ++ frame ∷ []; at_top = at_top }

-- The turns that a walk takes at most: three for each node, and two for each frame.
abbrev pub frame_turns : Forest → Frame → ℕ
frame_turns forest (Element at_top later) = 3 * count (nodes_from later forest) + 2
frame_turns forest Boundary = 2

abbrev pub frames_turns : Forest → List Frame → ℕ
frames_turns forest [] = 0
frames_turns forest (frame ∷ inner) = frame_turns forest frame + frames_turns forest inner

abbrev pub turn_at : Option NodeId → ℕ
turn_at None = 0
turn_at (Some node) = 1

abbrev pub turns : Forest → Walk → Option NodeId → ℕ
turns forest walk here = 3 * count (nodes_from here forest) + frames_turns forest walk.frames + turn_at here
