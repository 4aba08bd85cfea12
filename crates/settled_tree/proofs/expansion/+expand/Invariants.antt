use Rattle.std.proofs.Common.{◌≡◌, ◌+◌, ◌*◌, ◌++◌, drop, map}
use Rattle.jsx_value.specs.SeenPlaces.{place_of}
use Rattle.settled_tree.specs.Layers.{page_of, kin_weight, kids_weight, nodes_in_row}
use Rattle.settled_tree.proofs.expansion.+expand.Given as goal

-- each place inside weighs less
abbrev pub decreases-push_position : goal.decreases-push_position
decreases-push_position l = kin_weight (page_of l.page.now) l.kin * 4

abbrev pub decreases-push_positions : goal.decreases-push_positions
decreases-push_positions l = kids_weight (page_of l.page.now) l.kids.now * 4 + 3

abbrev pub decreases-nodes_of_child : goal.decreases-nodes_of_child
decreases-nodes_of_child l = kin_weight (page_of l.page.now) l.kin.now * 4 + 2

abbrev pub decreases-push_child : goal.decreases-push_child
decreases-push_child l = kin_weight (page_of l.page.now) l.kin.now * 4 + 1

-- the nodes so far, before those of the positions that are left
abbrev pub invariant-push_positions-loop-kin : goal.invariant-push_positions-loop-kin
invariant-push_positions-loop-kin l = record {
  number : l.number ≡ l.kin-index;
  steps : l.steps ≡ l.fn.steps;
  nodes : l.nodes ++ nodes_in_row (page_of l.page) l.steps l.number (map place_of (drop l.kin-index l.kids))
      ≡ l.fn.nodes ++ nodes_in_row (page_of l.page) l.fn.steps 0 (map place_of l.kids);
}
