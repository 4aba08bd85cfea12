-- The expansion of a page, layer by layer.
use Rattle.std.specs.Prelude.{◌≡◌, ℕ, Bool, true, not, ◌&&◌, List, [], ◌∷◌, map}
use Rattle.std.specs.List.{list_all}
use Rattle.jsx_syntax.specs.declared.name.Entry as named
use Rattle.jsx_syntax.specs.declared.node.Node.{Node}
use Rattle.jsx_syntax.specs.declared.node.Node.TheOpen.{Node-F}
use Rattle.jsx_syntax.specs.declared.node.Node.TheFolds.{fold-Node}
use Rattle.jsx_syntax.specs.declared.file.Component.{Component}
use Rattle.jsx_syntax.specs.Rules.{has_name}
use Rattle.jsx_value.specs.declared.shape.Tree.{Tree, roll-Tree}
use Rattle.jsx_value.specs.declared.shape.Tree.TheFolds.{map-Tree}
use Rattle.jsx_value.specs.Positions.{Page, Place, expansion, root_place, shape_of}
use Rattle.jsx_value.specs.Spots.{Spots, none, spots_of}

abbrev pub names_of : List Component → List (List ℕ)
names_of components = map (λ component. component.name.text) components

abbrev pub all_true : List Bool → Bool
all_true tests = list_all (λ test. test) tests

abbrev pub all_values_true : List (named.Entry Bool) → Bool
all_values_true props = list_all (λ prop. prop.value) props

-- A node calls components of these names alone, and so does each node in it.
abbrev pub calls_step : List (List ℕ) → Node-F Bool → Bool
calls_step names (Node-F.Value expr) = true
calls_step names (Node-F.Choose test one other) = one && other
calls_step names (Node-F.And left last) = last
calls_step names (Node-F.Or left last) = last
calls_step names (Node-F.Array nodes) = all_true nodes
calls_step names (Node-F.Map list item number body) = body
calls_step names (Node-F.Host name props kids) = all_values_true props && all_true kids
calls_step names (Node-F.Call name props) = has_name name.text names && all_values_true props
calls_step names (Node-F.Fragment kids) = all_true kids
calls_step names (Node-F.Suspense name props kids) = all_values_true props && all_true kids

abbrev pub calls_only : List (List ℕ) → Node → Bool
calls_only names = fold-Node Bool (calls_step names)

-- Components in their order, the latest first: each calls those before it alone, and has another name than they.
abbrev pub is_ordered : List Component → Bool
is_ordered [] = true
is_ordered (component ∷ before) =
    (calls_only (names_of before) component.result && not (has_name component.name.text (names_of before))) && is_ordered before

-- To open a place is to open it to its shape, and then the places inside.
abbrev pub IsUnfolded : Page → Type 0
IsUnfolded page = (place : Place)
    → expansion page place ≡ roll-Tree (map-Tree Place Tree (expansion page) (shape_of page place))

-- the positions of a page, from the call of `App` down
abbrev pub page_spots : Page → Spots
page_spots page = spots_of (expansion page root_place) none
