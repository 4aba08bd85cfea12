-- A file as events in the order of its text, and the walk over them that finds the first broken rule. This is for private
-- functions.
use Rattle.std.specs.Prelude.{◌≡◌, ℕ, ◌+◌, ◌-◌, Bool, true, not, nat_lt, if◌then◌else◌, List, [], ◌∷◌, ◌++◌, map, drop, Option, Some, None, is_some}
use Rattle.std.specs.List.{flat_map}
use Rattle.jsx_syntax.specs.Rules.{Owner, html, suspense, component, definition, variable, binding, element, call, boundary, has_name, is_fallback_of, is_known_attribute, names_of, properties_of}
use Rattle.jsx_syntax.specs.declared.expr.Expr.{Expr}
use Rattle.jsx_syntax.specs.declared.file.Component.{Component}
use Rattle.jsx_syntax.specs.declared.file.File.{File}
use Rattle.jsx_syntax.specs.declared.file.Stmt.{Stmt}
use Rattle.jsx_syntax.specs.declared.file.Stmt.TheVariants.{Fetch, Bind, Throw}
use Rattle.jsx_syntax.specs.declared.name.Entry.{Entry}
use Rattle.jsx_syntax.specs.declared.name.Name.{Name}
use Rattle.jsx_syntax.specs.declared.node.Node.{Node}
use Rattle.jsx_syntax.specs.declared.node.Node.TheFolds.{fold-Node}
use Rattle.jsx_syntax.specs.declared.node.Node.TheOpen as n
use Rattle.jsx_syntax.specs.declared.rule.Rule.{Rule}
use Rattle.jsx_syntax.specs.declared.rule.Rule.TheVariants.{UnknownElement, UnknownAttribute, TwiceDefined, UsedBeforeDefined, FallbackNotPlain}
use Rattle.jsx_check.specs.Firsts.{earlier, found_at, found_by}
use Rattle.jsx_check.specs.declared.found.Found.{Found}
use Rattle.jsx_check.specs.declared.walk.Walk.{Walk}

-- what happens where a name stands, and where a scope or a fallback ends
pub data Event : Type 0 where
  defines : (name : Name) → Event
  ends : (name : Name) → Event
  uses : (name : Name) → Event
  binds : (name : Name) → Event
  unbinds : Event
  opens : (name : Name) → Event
  calls : (name : Name) → Event
  bounds : (name : Name) → Event
  gives : (name : Name) (owner : Owner) (twice : Bool) → Event
  enters : Event
  leaves : Event

abbrev pub expression_events : Expr → List Event
expression_events expr = map uses (names_of expr)

-- the value of an attribute: that of `fallback` stands in a fallback
abbrev pub value_events : Owner → List ℕ → List Event → List Event
value_events owner name value = if is_fallback_of owner name then enters ∷ (value ++ leaves ∷ []) else value

abbrev pub attribute_events : Owner → List (List ℕ) → List (Entry (List Event)) → List Event
attribute_events owner before [] = []
attribute_events owner before (entry ∷ later) =
    gives entry.name owner (has_name entry.name.text before)
    ∷ (value_events owner entry.name.text entry.value ++ attribute_events owner (entry.name.text ∷ before) later)

abbrev pub all_events : List (List Event) → List Event
all_events kids = flat_map (λ kid. kid) kids

abbrev pub map_events : Name → Option Name → List Event → List Event
map_events item None body = binds item ∷ (body ++ unbinds ∷ [])
map_events item (Some number) body = binds item ∷ (binds number ∷ (body ++ unbinds ∷ unbinds ∷ []))

abbrev pub node_events_step : n.Node-F (List Event) → List Event
node_events_step (n.Value expr) = expression_events expr
node_events_step (n.Choose test one other) = expression_events test ++ (one ++ other)
node_events_step (n.And left last) = flat_map expression_events left ++ last
node_events_step (n.Or left last) = flat_map expression_events left ++ last
node_events_step (n.Array items) = all_events items
node_events_step (n.Map list item number body) = expression_events list ++ map_events item number body
node_events_step (n.Host name props kids) = opens name ∷ (attribute_events html [] props ++ all_events kids)
node_events_step (n.Call name props) = calls name ∷ attribute_events (component name.text) [] props
node_events_step (n.Fragment kids) = all_events kids
node_events_step (n.Suspense name props kids) = bounds name ∷ (attribute_events suspense [] props ++ all_events kids)

abbrev pub node_events : Node → List Event
node_events = fold-Node (List Event) node_events_step

abbrev pub property_events : List Name → List Event
property_events properties = map binds properties

abbrev pub statement_events : Stmt → List Event
statement_events (Fetch name resource) = expression_events resource ++ binds name ∷ []
statement_events (Bind name value) = expression_events value ++ binds name ∷ []
statement_events (Throw test digest) = expression_events test ++ expression_events digest

abbrev pub component_events : Component → List Event
component_events c =
    defines c.name ∷ (property_events c.properties ++ (flat_map statement_events c.stmts ++ (node_events c.result ++ ends c.name ∷ [])))

abbrev pub file_events : File → List Event
file_events file = flat_map component_events file.components

-- the first rule that an attribute breaks
abbrev pub attribute_rule : Bool → Bool → Option Rule
attribute_rule known twice = if not known then Some UnknownAttribute else if twice then Some TwiceDefined else None

-- the first rule that a component's element breaks
abbrev pub call_rule : Bool → Bool → Bool → Option Rule
call_rule known defined in_fallback =
    if not known then Some UnknownElement else if not defined then Some UsedBeforeDefined else if in_fallback then Some FallbackNotPlain else None

abbrev pub with_found : Walk → Option Found → Walk
with_found walk found = record walk { found = earlier walk.found found }

abbrev pub in_fallback : Walk → Bool
in_fallback walk = nat_lt 0 walk.fallbacks

-- the names of the components that ended, and one more: those of the file
abbrev pub with_component : List Component → List ℕ → List (List ℕ) → List (List ℕ)
with_component components name before = if is_some (properties_of name components) then name ∷ before else before

-- They are names of the file.
abbrev pub AreKnown : List Component → List (List ℕ) → Type 0
AreKnown components before = (name : List ℕ) → has_name name before ≡ true → is_some (properties_of name components) ≡ true

-- before the first event
abbrev pub walk_start : Walk
walk_start = record { before = []; scope = []; fallbacks = 0; found = None }

-- what an event does
abbrev pub after_event : List Component → Walk → Event → Walk
after_event components walk (defines name) = with_found walk (found_at components (definition name walk.before))
after_event components walk (ends name) = record walk { before = with_component components name.text walk.before; scope = [] }
after_event components walk (uses name) = with_found walk (found_at components (variable name walk.scope))
after_event components walk (binds name) =
    record (with_found walk (found_at components (binding name walk.scope))) { scope = name.text ∷ walk.scope }
after_event components walk unbinds = record walk { scope = drop 1 walk.scope }
after_event components walk (opens name) = with_found walk (found_at components (element name))
after_event components walk (calls name) = with_found walk (found_at components (call name walk.before (in_fallback walk)))
after_event components walk (bounds name) = with_found walk (found_at components (boundary name (in_fallback walk)))
after_event components walk (gives name owner twice) =
    with_found walk (found_by name.at (attribute_rule (is_known_attribute components owner name.text) twice))
after_event components walk enters = record walk { fallbacks = walk.fallbacks + 1 }
after_event components walk leaves = record walk { fallbacks = walk.fallbacks - 1 }

abbrev pub after_events : List Component → Walk → List Event → Walk
after_events components walk [] = walk
after_events components walk (event ∷ events) = after_events components (after_event components walk event) events
