-- Trees without the places of their names. Two trees are the same, places aside, where these are equal.
use Rattle.std.specs.Prelude.{map, Option, Some, None}
use Rattle.jsx_syntax.specs.declared.name.Name.{Name}
use Rattle.jsx_syntax.specs.declared.name.Entry.{Entry}
use Rattle.jsx_syntax.specs.declared.expr.Expr.{Expr}
use Rattle.jsx_syntax.specs.declared.expr.Expr.TheVariants as e
use Rattle.jsx_syntax.specs.declared.expr.Expr.TheFolds.{fold-Expr}
use Rattle.jsx_syntax.specs.declared.expr.Expr.TheOpen.{Expr-F}
use Rattle.jsx_syntax.specs.declared.node.Node.{Node}
use Rattle.jsx_syntax.specs.declared.node.Node.TheVariants as n
use Rattle.jsx_syntax.specs.declared.node.Node.TheFolds.{fold-Node}
use Rattle.jsx_syntax.specs.declared.node.Node.TheOpen.{Node-F}
use Rattle.jsx_syntax.specs.declared.file.File.{File}
use Rattle.jsx_syntax.specs.declared.file.Component.{Component}
use Rattle.jsx_syntax.specs.declared.file.Stmt.{Stmt}
use Rattle.jsx_syntax.specs.declared.file.Stmt.TheVariants as s

abbrev pub bare_name : Name → Name
bare_name x = record { text = x.text; at = 0 }

abbrev pub bare_option : Option Name → Option Name
bare_option None = None
bare_option (Some x) = Some (bare_name x)

abbrev pub bare_step : Expr-F Expr → Expr
bare_step Expr-F.Null = e.Null
bare_step (Expr-F.Bool b) = e.Bool b
bare_step (Expr-F.Int z) = e.Int z
bare_step (Expr-F.Text text) = e.Text text
bare_step (Expr-F.Name x) = e.Name (bare_name x)
bare_step (Expr-F.Member of names) = e.Member of names
bare_step (Expr-F.Not x) = e.Not x
bare_step (Expr-F.Sum xs) = e.Sum xs
bare_step (Expr-F.Equal x y negated) = e.Equal x y negated
bare_step (Expr-F.And xs) = e.And xs
bare_step (Expr-F.Or xs) = e.Or xs
bare_step (Expr-F.Choose test one other) = e.Choose test one other

abbrev pub bare : Expr → Expr
bare = fold-Expr Expr bare_step

abbrev pub renamed_entry : Entry Node → Entry Node
renamed_entry entry = record { name = bare_name entry.name; value = entry.value }

abbrev pub bare_node_step : Node-F Node → Node
bare_node_step (Node-F.Value x) = n.Value (bare x)
bare_node_step (Node-F.Choose test one other) = n.Choose (bare test) one other
bare_node_step (Node-F.And left last) = n.And (map bare left) last
bare_node_step (Node-F.Or left last) = n.Or (map bare left) last
bare_node_step (Node-F.Array items) = n.Array items
bare_node_step (Node-F.Map list item number body) = n.Map (bare list) (bare_name item) (bare_option number) body
bare_node_step (Node-F.Host name props kids) = n.Host (bare_name name) (map renamed_entry props) kids
bare_node_step (Node-F.Call name props) = n.Call (bare_name name) (map renamed_entry props)
bare_node_step (Node-F.Fragment kids) = n.Fragment kids
bare_node_step (Node-F.Suspense name props kids) = n.Suspense (bare_name name) (map renamed_entry props) kids

abbrev pub bare_node : Node → Node
bare_node = fold-Node Node bare_node_step

abbrev pub bare_stmt : Stmt → Stmt
bare_stmt (s.Fetch name resource) = s.Fetch (bare_name name) (bare resource)
bare_stmt (s.Bind name value) = s.Bind (bare_name name) (bare value)
bare_stmt (s.Throw test digest) = s.Throw (bare test) (bare digest)

abbrev pub bare_component : Component → Component
bare_component c = record {
  name = bare_name c.name;
  properties = map bare_name c.properties;
  stmts = map bare_stmt c.stmts;
  result = bare_node c.result;
}

abbrev pub bare_file : File → File
bare_file file = record { components = map bare_component file.components }
