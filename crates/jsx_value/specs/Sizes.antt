-- Sizes of nodes and components, by which recursion ends.
use Rattle.std.specs.Prelude.{ℕ, ◌+◌, List, sum_by}
use Rattle.jsx_syntax.specs.declared.node.Node.{Node}
use Rattle.jsx_syntax.specs.declared.node.Node.TheViews.{size-Node}
use Rattle.jsx_syntax.specs.declared.file.Component.{Component}

abbrev pub node_size : Node → ℕ
node_size x = size-Node x

abbrev pub total_size : List Component → ℕ
total_size components = sum_by (λ component. node_size component.result + 2) components
