-- The rules that a file must meet beside the grammar. Each is said of the names of the file, at the places where they
-- stand; a place is that of the name's token.
use Rattle.std.specs.Prelude.{◌≡◌, ℕ, ◌+◌, ◌<◌, ◌≤◌, ◌⊎◌, max, Bool, true, false, not, ◌&&◌, ◌||◌, if◌then◌else◌, List, [], ◌∷◌, ◌++◌, length, map, Contains, codes, Option, Some, None, is_none, is_some, reverse}
use Rattle.std.specs.List.{flat_map, list_any}
use Rattle.std.specs.Str.{bytes_eq}
use Rattle.html_names.specs.Attributes.{attribute_of}
use Rattle.html_names.specs.Elements.{is_element_name}
use Rattle.jsx_syntax.specs.declared.expr.Expr.{Expr}
use Rattle.jsx_syntax.specs.declared.expr.Expr.TheFolds.{fold-Expr}
use Rattle.jsx_syntax.specs.declared.expr.Expr.TheOpen as e
use Rattle.jsx_syntax.specs.declared.file.Component.{Component}
use Rattle.jsx_syntax.specs.declared.file.File.{File}
use Rattle.jsx_syntax.specs.declared.file.Stmt.{Stmt}
use Rattle.jsx_syntax.specs.declared.file.Stmt.TheVariants.{Fetch, Bind, Throw}
use Rattle.jsx_syntax.specs.declared.name.Entry.{Entry}
use Rattle.jsx_syntax.specs.declared.name.Name.{Name}
use Rattle.jsx_syntax.specs.declared.node.Node.{Node}
use Rattle.jsx_syntax.specs.declared.node.Node.TheFolds.{fold-Node}
use Rattle.jsx_syntax.specs.declared.node.Node.TheOpen as n
use Rattle.jsx_syntax.specs.declared.rule.Rule.{Rule}
use Rattle.jsx_syntax.specs.declared.rule.Rule.TheVariants.{UnknownName, UnknownElement, UnknownAttribute, TwiceDefined, UsedBeforeDefined, FallbackNotPlain}

-- whose attribute it is: an element of HTML, `Suspense`, or the element of the component of a name
pub data Owner : Type 0 where
  html : Owner
  suspense : Owner
  component : List ℕ → Owner

-- A name of the file, with what the rules ask of its place. `before` are the names of the components that stand before
-- the one around it, `scope` the names of properties, constants and map variables in scope.
pub data Site : Type 0 where
  -- the name of a component
  definition : (name : Name) (before : List (List ℕ)) → Site
  -- a name in an expression
  variable : (name : Name) (scope : List (List ℕ)) → Site
  -- a property, a constant or a variable of a map, where it is bound
  binding : (name : Name) (scope : List (List ℕ)) → Site
  -- an element of HTML
  element : (name : Name) → Site
  -- the element of a component, in a fallback or not
  call : (name : Name) (before : List (List ℕ)) (in_fallback : Bool) → Site
  -- `Suspense`, in a fallback or not
  boundary : (name : Name) (in_fallback : Bool) → Site
  -- an attribute, with the names of those before it on its element
  attribute : (name : Name) (owner : Owner) (earlier : List (List ℕ)) → Site

abbrev pub name_at : Site → Name
name_at (definition name before) = name
name_at (variable name scope) = name
name_at (binding name scope) = name
name_at (element name) = name
name_at (call name before in_fallback) = name
name_at (boundary name in_fallback) = name
name_at (attribute name owner earlier) = name

-- where a node stands
pub record Place : Type 0 where
  pub before : List (List ℕ)
  pub scope : List (List ℕ)
  pub in_fallback : Bool

-- the names in an expression, in order
abbrev pub names_step : e.Expr-F (List Name) → List Name
names_step e.Null = []
names_step (e.Bool b) = []
names_step (e.Int z) = []
names_step (e.Text text) = []
names_step (e.Name name) = name ∷ []
names_step (e.Member of names) = of
names_step (e.Not operand) = operand
names_step (e.Sum operands) = flat_map (λ names. names) operands
names_step (e.Equal left right negated) = left ++ right
names_step (e.And operands) = flat_map (λ names. names) operands
names_step (e.Or operands) = flat_map (λ names. names) operands
names_step (e.Choose test one other) = test ++ (one ++ other)

abbrev pub names_of : Expr → List Name
names_of = fold-Expr (List Name) names_step

abbrev pub expression_sites : List (List ℕ) → Expr → List Site
expression_sites scope expr = map (λ name. variable name scope) (names_of expr)

abbrev pub is_fallback_of : Owner → List ℕ → Bool
is_fallback_of html name = false
is_fallback_of suspense name = bytes_eq name (codes "fallback")
is_fallback_of (component of) name = false

-- An attribute's value stands where its element does. That of `fallback` of `Suspense` stands in a fallback.
abbrev pub value_place : Owner → List ℕ → Place → Place
value_place owner name place = if is_fallback_of owner name then record place { in_fallback = true } else place

-- What stands at the attributes of an element, given the sites of each value.
abbrev pub attribute_sites : Owner → List (List ℕ) → List (Entry (Place → List Site)) → Place → List Site
attribute_sites owner earlier [] place = []
attribute_sites owner earlier (entry ∷ later) place =
    attribute entry.name owner earlier
    ∷ (entry.value (value_place owner entry.name.text place) ++ attribute_sites owner (entry.name.text ∷ earlier) later place)

abbrev pub all_sites : List (Place → List Site) → Place → List Site
all_sites kids place = flat_map (λ kid. kid place) kids

abbrev pub with_names : List (List ℕ) → Place → Place
with_names names place = record place { scope = names ++ place.scope }

-- the variables of a map: the item, and its number
abbrev pub map_sites : Name → Option Name → Place → (Place → List Site) → List Site
map_sites item None place body = binding item place.scope ∷ body (with_names (item.text ∷ []) place)
map_sites item (Some number) place body =
    binding item place.scope ∷ (binding number (item.text ∷ place.scope) ∷ body (with_names (number.text ∷ item.text ∷ []) place))

-- The sites of a node, given those of the nodes in it.
abbrev pub node_step : n.Node-F (Place → List Site) → Place → List Site
node_step (n.Value expr) place = expression_sites place.scope expr
node_step (n.Choose test one other) place = expression_sites place.scope test ++ (one place ++ other place)
node_step (n.And left last) place = flat_map (expression_sites place.scope) left ++ last place
node_step (n.Or left last) place = flat_map (expression_sites place.scope) left ++ last place
node_step (n.Array items) place = all_sites items place
node_step (n.Map list item number body) place = expression_sites place.scope list ++ map_sites item number place body
node_step (n.Host name props kids) place = element name ∷ (attribute_sites html [] props place ++ all_sites kids place)
node_step (n.Call name props) place =
    call name place.before place.in_fallback ∷ attribute_sites (component name.text) [] props place
node_step (n.Fragment kids) place = all_sites kids place
node_step (n.Suspense name props kids) place =
    boundary name place.in_fallback ∷ (attribute_sites suspense [] props place ++ all_sites kids place)

abbrev pub node_sites : Node → Place → List Site
node_sites = fold-Node (Place → List Site) node_step

-- the properties of a component, each in scope of the later ones
abbrev pub property_sites : List (List ℕ) → List Name → List Site
property_sites scope [] = []
property_sites scope (name ∷ later) = binding name scope ∷ property_sites (name.text ∷ scope) later

abbrev pub statement_sites : List (List ℕ) → Stmt → List Site
statement_sites scope (Fetch name resource) = expression_sites scope resource ++ binding name scope ∷ []
statement_sites scope (Bind name value) = expression_sites scope value ++ binding name scope ∷ []
statement_sites scope (Throw test digest) = expression_sites scope test ++ expression_sites scope digest

-- the names in scope after a statement
abbrev pub scope_after : List (List ℕ) → Stmt → List (List ℕ)
scope_after scope (Fetch name resource) = name.text ∷ scope
scope_after scope (Bind name value) = name.text ∷ scope
scope_after scope (Throw test digest) = scope

-- the statements of a component, and then the node that it returns
abbrev pub body_sites : List (List ℕ) → List (List ℕ) → List Stmt → Node → List Site
body_sites before scope [] result = node_sites result (record { before = before; scope = scope; in_fallback = false })
body_sites before scope (stmt ∷ later) result =
    statement_sites scope stmt ++ body_sites before (scope_after scope stmt) later result

abbrev pub texts_of : List Name → List (List ℕ)
texts_of [] = []
texts_of (name ∷ later) = name.text ∷ texts_of later

abbrev pub component_sites : List (List ℕ) → Component → List Site
component_sites before c =
    definition c.name before ∷ (property_sites [] c.properties ++ body_sites before (reverse (texts_of c.properties)) c.stmts c.result)

abbrev pub components_sites : List (List ℕ) → List Component → List Site
components_sites before [] = []
components_sites before (c ∷ later) = component_sites before c ++ components_sites (c.name.text ∷ before) later

-- the names of the file, in order
abbrev pub sites_of : File → List Site
sites_of file = components_sites [] file.components

abbrev pub has_name : List ℕ → List (List ℕ) → Bool
has_name name names = list_any (bytes_eq name) names

-- the properties of the component of a name
abbrev pub properties_of : List ℕ → List Component → Option (List Name)
properties_of name [] = None
properties_of name (c ∷ later) = if bytes_eq name c.name.text then Some c.properties else properties_of name later

abbrev pub has_property : List ℕ → Option (List Name) → Bool
has_property name None = false
has_property name (Some properties) = has_name name (texts_of properties)

-- `key` may stand on a component's element and on `Suspense`.
abbrev pub is_key : List ℕ → Bool
is_key name = bytes_eq name (codes "key")

-- An attribute is known: of an element of HTML by the table, of a component it is one of its properties, of `Suspense` it
-- is `fallback`, and `key` is known of each.
abbrev pub is_known_attribute : List Component → Owner → List ℕ → Bool
is_known_attribute components html name = is_some (attribute_of name)
is_known_attribute components suspense name = is_fallback_of suspense name || is_key name
is_known_attribute components (component of) name = has_property name (properties_of of components) || is_key name

-- A name in an expression is no property, no earlier constant and no map variable of its place.
abbrev pub is_unknown_name : Site → Bool
is_unknown_name (variable name scope) = not (has_name name.text scope)
is_unknown_name _ = false

-- An element's name isn't in the table of HTML's elements, or a component's is none of the file's.
abbrev pub is_unknown_element : List Component → Site → Bool
is_unknown_element components (element name) = not (is_element_name name.text)
is_unknown_element components (call name before in_fallback) = is_none (properties_of name.text components)
is_unknown_element components _ = false

abbrev pub is_unknown_attribute : List Component → Site → Bool
is_unknown_attribute components (attribute name owner earlier) = not (is_known_attribute components owner name.text)
is_unknown_attribute components _ = false

-- A component has the name of an earlier one, or `Suspense`; a property, constant or map variable has a name that is in
-- scope; an attribute stands twice on one element.
abbrev pub is_twice_defined : Site → Bool
is_twice_defined (definition name before) = has_name name.text before || bytes_eq name.text (codes "Suspense")
is_twice_defined (binding name scope) = has_name name.text scope
is_twice_defined (attribute name owner earlier) = has_name name.text earlier
is_twice_defined _ = false

-- A component of the file isn't defined before the one in which its element stands.
abbrev pub is_used_before_defined : List Component → Site → Bool
is_used_before_defined components (call name before in_fallback) =
    is_some (properties_of name.text components) && not (has_name name.text before)
is_used_before_defined components _ = false

-- A component's element or `Suspense` stands in a fallback.
abbrev pub is_not_plain : Site → Bool
is_not_plain (call name before in_fallback) = in_fallback
is_not_plain (boundary name in_fallback) = in_fallback
is_not_plain _ = false

abbrev pub breaks : List Component → Rule → Site → Bool
breaks components UnknownName site = is_unknown_name site
breaks components UnknownElement site = is_unknown_element components site
breaks components UnknownAttribute site = is_unknown_attribute components site
breaks components TwiceDefined site = is_twice_defined site
breaks components UsedBeforeDefined site = is_used_before_defined components site
breaks components FallbackNotPlain site = is_not_plain site

-- A name at this place breaks the rule.
pub record Breaks (file : File) (rule : Rule) (at_ : ℕ) : Type 0 where
  pub site : Site
  pub stands : Contains (sites_of file) site
  pub broken : breaks file.components rule site ≡ true
  pub place : (name_at site).at ≡ at_

-- the most components that a file may have, and the greatest depth
unfoldable pub most_components : ℕ
most_components = 1000

unfoldable pub most_depth : ℕ
most_depth = 256

abbrev pub deepest : List ℕ → ℕ
deepest [] = 0
deepest (depth ∷ depths) = max depth (deepest depths)

abbrev pub deepest_value : List (Entry ℕ) → ℕ
deepest_value [] = 0
deepest_value (entry ∷ later) = max entry.value (deepest_value later)

-- How deep a node is when the components that it calls are opened: a value has 1, a call one more than what its component
-- returns, and all else one more than the deepest node in it, values of attributes too. `called` gives the depths of
-- components by their names.
abbrev pub depth_step : (List ℕ → ℕ) → n.Node-F ℕ → ℕ
depth_step called (n.Value expr) = 1
depth_step called (n.Choose test one other) = 1 + max one other
depth_step called (n.And left last) = 1 + last
depth_step called (n.Or left last) = 1 + last
depth_step called (n.Array items) = 1 + deepest items
depth_step called (n.Map list item number body) = 1 + body
depth_step called (n.Host name props kids) = 1 + max (deepest_value props) (deepest kids)
depth_step called (n.Call name props) = 1 + called name.text
depth_step called (n.Fragment kids) = 1 + deepest kids
depth_step called (n.Suspense name props kids) = 1 + max (deepest_value props) (deepest kids)

-- The depth of what the component of a name returns, the latest component first. It may call those before it.
abbrev pub depth_of : List Component → List ℕ → ℕ
depth_of [] name = 0
depth_of (c ∷ before) name =
    if bytes_eq name c.name.text then fold-Node ℕ (depth_step (depth_of before)) c.result else depth_of before name

abbrev pub app_depth : File → ℕ
app_depth file = depth_of (reverse file.components) (codes "App")

-- There is a component `App` without properties.
abbrev pub HasApp : File → Type 0
HasApp file = properties_of (codes "App") file.components ≡ Some []

-- The rules on names hold at each place.
abbrev pub IsSound : File → Type 0
IsSound file = (rule : Rule) (at_ : ℕ) → Breaks file rule at_ → ⊥

-- The file meets the rules.
pub record IsApp (file : File) : Type 0 where
  pub few : length file.components ≤ most_components
  pub sound : IsSound file
  pub app : HasApp file
  pub shallow : app_depth file ≤ most_depth
