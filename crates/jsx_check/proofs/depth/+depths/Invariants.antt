use Rattle.std.proofs.Common.{◌≡◌, ℕ, List, map, take}
use Rattle.jsx_syntax.specs.Rules.{deepest, deepest_value}
use Rattle.jsx_check.specs.Checks.{told_as}
use Rattle.jsx_check.specs.Depths.{Tells, node_depth}
use Rattle.jsx_check.specs.SeenEvents.{of_entry}
use Rattle.jsx_check.proofs.depth.+depths.Given as goal

abbrev pub invariant-list_depth-loop-node : goal.invariant-list_depth-loop-node
invariant-list_depth-loop-node l =
    (called : List ℕ → ℕ) → Tells l.depths called → l.most ≡ told_as (deepest (map (node_depth called) (take l.node-index l.nodes)))

abbrev pub invariant-values_depth-loop-prop : goal.invariant-values_depth-loop-prop
invariant-values_depth-loop-prop l =
    (called : List ℕ → ℕ) → Tells l.depths called → l.most ≡ told_as (deepest_value (map (of_entry (node_depth called)) (take l.prop-index l.props)))
