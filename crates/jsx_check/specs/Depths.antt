-- The depths of components, by their names. This is for private functions.
use Rattle.std.specs.Prelude.{◌≡◌, ℕ, List}
use Rattle.std.specs.Option.{unwrap_or}
use Rattle.std.specs.Borrow.{Bor}
use Rattle.std.specs.BTreeMap.{BTreeMap}
use Rattle.jsx_syntax.specs.Rules.{depth_step}
use Rattle.jsx_syntax.specs.declared.node.Node.{Node}
use Rattle.jsx_syntax.specs.declared.node.Node.TheFolds.{fold-Node}
use Rattle.jsx_check.specs.Checks.{told_as}
use Rattle.jsx_check.specs.SeenNames.{value_at}

-- the depth of a node, given those of components
abbrev pub node_depth : (List ℕ → ℕ) → Node → ℕ
node_depth called = fold-Node ℕ (depth_step called)

-- The map tells the depths of components, 0 where it has none.
abbrev pub Tells : BTreeMap (Bor (List ℕ)) ℕ → (List ℕ → ℕ) → Type 0
Tells m called = (name : List ℕ) → unwrap_or (value_at m name) 0 ≡ told_as (called name)
