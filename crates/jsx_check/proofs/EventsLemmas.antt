-- The walk over the events of a node finds the earliest of what is found at its names, and leaves all else as it was.
use Rattle.std.proofs.Common.{◌≡◌, ℕ, ◌+◌, ◌-◌, nat_lt, Bool, true, if◌then◌else◌, Option, Some, None, List, [], ◌∷◌, ◌++◌, map, refl, sym, ◌∙◌, ap, subst, ⊎_elim, arith}
use Rattle.std.specs.List.{flat_map}
use Rattle.std.proofs.lemmas.Bool.{cases_Bool, lt-ltb}
use Rattle.jsx_syntax.specs.Rules.{Site, Owner, Place, html, suspense, component, variable, element, call, boundary, attribute, has_name, is_fallback_of, value_place, attribute_sites, all_sites, map_sites, names_of, expression_sites, node_sites, node_step}
use Rattle.jsx_syntax.specs.declared.expr.Expr.{Expr}
use Rattle.jsx_syntax.specs.declared.file.Component.{Component}
use Rattle.jsx_syntax.specs.declared.name.Entry.{Entry}
use Rattle.jsx_syntax.specs.declared.name.Name.{Name}
use Rattle.jsx_syntax.specs.declared.node.Node.{Node}
use Rattle.jsx_syntax.specs.declared.node.Node.TheFolds.{fold-roll-Node, ind-Node, map-Node}
use Rattle.jsx_syntax.specs.declared.node.Node.TheOpen as n
use Rattle.jsx_syntax.specs.declared.node.Node.TheOpen.{Node-F}
use Rattle.jsx_syntax.specs.declared.node.Node.TheViews.{roll-Node}
use Rattle.jsx_check.specs.Firsts.{earlier, earliest, found_at}
use Rattle.jsx_check.specs.Events.{Event, uses, binds, unbinds, opens, calls, bounds, gives, enters, leaves, after_event, after_events, in_fallback, expression_events, value_events, attribute_events, all_events, map_events, node_events, node_events_step}
use Rattle.jsx_check.specs.declared.found.Found.{Found}
use Rattle.jsx_check.specs.declared.walk.Walk.{Walk}

-- the place that a walk is at
abbrev pub place_of : Walk → Place
place_of walk = record { before = walk.before; scope = walk.scope; in_fallback = in_fallback walk }

abbrev pub found_in : Walk → Option Found → Walk
found_in walk found = record walk { found = found }

-- the events find what the names do
abbrev pub Finds : List Component → List Event → (Place → List Site) → Type 0
Finds components events sites =
    (walk : Walk) → after_events components walk events ≡ found_in walk (earliest components walk.found (sites (place_of walk)))

pub earliest-append : (components : List Component) (found : Option Found) (xs ys : List Site)
    → earliest components found (xs ++ ys) ≡ earliest components (earliest components found xs) ys
earliest-append components found [] ys = refl
earliest-append components found (x ∷ xs) ys = earliest-append components (earlier found (found_at components x)) xs ys

pub after_events-append : (components : List Component) (walk : Walk) (xs ys : List Event)
    → after_events components walk (xs ++ ys) ≡ after_events components (after_events components walk xs) ys
after_events-append components walk [] ys = refl
after_events-append components walk (x ∷ xs) ys = after_events-append components (after_event components walk x) xs ys

pub finds_nothing : (components : List Component) → Finds components [] (λ place. [])
finds_nothing components walk = refl

pub finds_both : (components : List Component) (d e : List Event) (s t : Place → List Site) → Finds components d s → Finds components e t
    → Finds components (d ++ e) (λ place. s place ++ t place)
finds_both components d e s t f g walk =
    after_events-append components walk d e
    ∙ (ap (λ (w : Walk). after_events components w e) (f walk)
    ∙ (g (found_in walk (earliest components walk.found (s (place_of walk))))
    ∙ ap (found_in walk) (sym (earliest-append components walk.found (s (place_of walk)) (t (place_of walk))))))

pub finds_first : (components : List Component) (event : Event) (site : Place → Site) (e : List Event) (t : Place → List Site)
    → Finds components (event ∷ []) (λ place. site place ∷ []) → Finds components e t → Finds components (event ∷ e) (λ place. site place ∷ t place)
finds_first components event site e t f g = finds_both components (event ∷ []) e (λ place. site place ∷ []) t f g

pub finds_names : (components : List Component) (names : List Name) → Finds components (map uses names) (λ place. map (λ name. variable name place.scope) names)
finds_names components [] walk = refl
finds_names components (name ∷ names) walk =
    finds_first components (uses name) (λ place. variable name place.scope) (map uses names) (λ place. map (λ name. variable name place.scope) names)
    (λ walk. refl) (finds_names components names) walk

pub finds_expression : (components : List Component) (expr : Expr) → Finds components (expression_events expr) (λ place. expression_sites place.scope expr)
finds_expression components expr = finds_names components (names_of expr)

pub finds_expressions : (components : List Component) (exprs : List Expr)
    → Finds components (flat_map expression_events exprs) (λ place. flat_map (expression_sites place.scope) exprs)
finds_expressions components [] walk = refl
finds_expressions components (expr ∷ exprs) walk =
    finds_both components (expression_events expr) (flat_map expression_events exprs) (λ place. expression_sites place.scope expr)
    (λ place. flat_map (expression_sites place.scope) exprs) (finds_expression components expr) (finds_expressions components exprs) walk

-- a value in a fallback
pub finds_fallback : (components : List Component) (e : List Event) (s : Place → List Site) → Finds components e s
    → Finds components (enters ∷ (e ++ leaves ∷ [])) (λ place. s (record place { in_fallback = true }))
finds_fallback components e s f walk =
    let inner : Walk = record walk { fallbacks = walk.fallbacks + 1 } in
    let flag : nat_lt 0 (walk.fallbacks + 1) ≡ true = lt-ltb 0 (walk.fallbacks + 1) (omega arith) in
    let back : walk.fallbacks + 1 - 1 ≡ walk.fallbacks = omega arith in
    let place : Bool → Place = λ b. record { before = walk.before; scope = walk.scope; in_fallback = b } in
    after_events-append components inner e (leaves ∷ [])
    ∙ (ap (λ (w : Walk). after_events components w (leaves ∷ [])) (f inner)
    ∙ (ap (λ (b : Bool). record walk { fallbacks = walk.fallbacks + 1 - 1; found = earliest components walk.found (s (place b)) }) flag
    ∙ ap (λ (k : ℕ). record walk { fallbacks = k; found = earliest components walk.found (s (place true)) }) back))

pub finds_value : (components : List Component) (owner : Owner) (name : List ℕ) (e : List Event) (s : Place → List Site) → Finds components e s
    → Finds components (value_events owner name e) (λ place. s (value_place owner name place))
finds_value components owner name e s f =
    ⊎_elim
    (λ t. subst (λ (b : Bool). Finds components (if b then enters ∷ (e ++ leaves ∷ []) else e) (λ place. s (if b then record place { in_fallback = true } else place)))
    (sym t) (finds_fallback components e s f))
    (λ n. subst (λ (b : Bool). Finds components (if b then enters ∷ (e ++ leaves ∷ []) else e) (λ place. s (if b then record place { in_fallback = true } else place)))
    (sym n) f)
    (cases_Bool (is_fallback_of owner name))

-- the variables of a map, which go out of scope after its body
pub finds_map : (components : List Component) (item : Name) (number : Option Name) (e : List Event) (s : Place → List Site) → Finds components e s
    → Finds components (map_events item number e) (λ place. map_sites item number place s)
finds_map components item None e s f walk =
    let inner : Walk = after_event components walk (binds item) in
    after_events-append components inner e (unbinds ∷ [])
    ∙ ap (λ (w : Walk). after_events components w (unbinds ∷ [])) (f inner)
finds_map components item (Some number) e s f walk =
    let inner : Walk = after_event components (after_event components walk (binds item)) (binds number) in
    after_events-append components inner e (unbinds ∷ (unbinds ∷ []))
    ∙ ap (λ (w : Walk). after_events components w (unbinds ∷ (unbinds ∷ []))) (f inner)

-- A node with what is known of it.
abbrev Known : List Component → Type 0
Known components = (node : Node) × Finds components (node_events node) (node_sites node)

pub finds_kids : (components : List Component) (kids : List (Known components))
    → Finds components (all_events (map node_events (map (λ k. k.0) kids))) (all_sites (map node_sites (map (λ k. k.0) kids)))
finds_kids components [] walk = refl
finds_kids components (k ∷ kids) walk =
    finds_both components (node_events k.0) (all_events (map node_events (map (λ k. k.0) kids))) (node_sites k.0)
    (all_sites (map node_sites (map (λ k. k.0) kids))) k.1 (finds_kids components kids) walk

abbrev of_entry : {X Y : Type 0} → (X → Y) → Entry X → Entry Y
of_entry f entry = record { name = entry.name; value = f entry.value }

pub finds_attributes : (components : List Component) (owner : Owner) (before : List (List ℕ)) (props : List (Entry (Known components)))
    → Finds components (attribute_events owner before (map (of_entry node_events) (map (of_entry (λ (k : Known components). k.0)) props)))
    (attribute_sites owner before (map (of_entry node_sites) (map (of_entry (λ (k : Known components). k.0)) props)))
finds_attributes components owner before [] walk = refl
finds_attributes components owner before (prop ∷ props) walk =
    let name : List ℕ = prop.name.text in
    let later : List (Entry Node) = map (of_entry (λ (k : Known components). k.0)) props in
    finds_first components (gives prop.name owner (has_name name before)) (λ place. attribute prop.name owner before)
    (value_events owner name (node_events prop.value.0) ++ attribute_events owner (name ∷ before) (map (of_entry node_events) later))
    (λ place. node_sites prop.value.0 (value_place owner name place) ++ attribute_sites owner (name ∷ before) (map (of_entry node_sites) later) place)
    (λ walk. refl)
    (finds_both components (value_events owner name (node_events prop.value.0)) (attribute_events owner (name ∷ before) (map (of_entry node_events) later))
    (λ place. node_sites prop.value.0 (value_place owner name place)) (attribute_sites owner (name ∷ before) (map (of_entry node_sites) later))
    (finds_value components owner name (node_events prop.value.0) (node_sites prop.value.0) prop.value.1)
    (finds_attributes components owner (name ∷ before) props)) walk

-- An element: its name, its attributes, and the nodes in it.
finds_element : (components : List Component) (event : Event) (site : Place → Site) (owner : Owner) (props : List (Entry (Known components))) (kids : List (Known components))
    → Finds components (event ∷ []) (λ place. site place ∷ [])
    → Finds components
    (event ∷ (attribute_events owner [] (map (of_entry node_events) (map (of_entry (λ (k : Known components). k.0)) props))
    ++ all_events (map node_events (map (λ k. k.0) kids))))
    (λ place. site place ∷ (attribute_sites owner [] (map (of_entry node_sites) (map (of_entry (λ (k : Known components). k.0)) props)) place
    ++ all_sites (map node_sites (map (λ k. k.0) kids)) place))
finds_element components event site owner props kids first =
    let attributes : List Event = attribute_events owner [] (map (of_entry node_events) (map (of_entry (λ (k : Known components). k.0)) props)) in
    let inner : List Event = all_events (map node_events (map (λ k. k.0) kids)) in
    let attribute_places : Place → List Site = attribute_sites owner [] (map (of_entry node_sites) (map (of_entry (λ (k : Known components). k.0)) props)) in
    let inner_places : Place → List Site = all_sites (map node_sites (map (λ k. k.0) kids)) in
    finds_first components event site (attributes ++ inner) (λ place. attribute_places place ++ inner_places place) first
    (finds_both components attributes inner attribute_places inner_places (finds_attributes components owner [] props) (finds_kids components kids))

layer : (components : List Component) (y : Node-F (Known components))
    → Finds components (node_events_step (map-Node Node (List Event) node_events (map-Node (Known components) Node (λ k. k.0) y)))
    (node_step (map-Node Node (Place → List Site) node_sites (map-Node (Known components) Node (λ k. k.0) y)))
layer components (n.Value expr) = finds_expression components expr
layer components (n.Choose test one other) =
    finds_both components (expression_events test) (node_events one.0 ++ node_events other.0) (λ place. expression_sites place.scope test)
    (λ place. node_sites one.0 place ++ node_sites other.0 place) (finds_expression components test)
    (finds_both components (node_events one.0) (node_events other.0) (node_sites one.0) (node_sites other.0) one.1 other.1)
layer components (n.And left last) =
    finds_both components (flat_map expression_events left) (node_events last.0) (λ place. flat_map (expression_sites place.scope) left)
    (node_sites last.0) (finds_expressions components left) last.1
layer components (n.Or left last) =
    finds_both components (flat_map expression_events left) (node_events last.0) (λ place. flat_map (expression_sites place.scope) left)
    (node_sites last.0) (finds_expressions components left) last.1
layer components (n.Array items) = finds_kids components items
layer components (n.Map list item number body) =
    finds_both components (expression_events list) (map_events item number (node_events body.0)) (λ place. expression_sites place.scope list)
    (λ place. map_sites item number place (node_sites body.0)) (finds_expression components list)
    (finds_map components item number (node_events body.0) (node_sites body.0) body.1)
layer components (n.Host name props kids) = finds_element components (opens name) (λ place. element name) html props kids (λ walk. refl)
layer components (n.Call name props) =
    finds_first components (calls name) (λ place. call name place.before place.in_fallback)
    (attribute_events (component name.text) [] (map (of_entry node_events) (map (of_entry (λ (k : Known components). k.0)) props)))
    (attribute_sites (component name.text) [] (map (of_entry node_sites) (map (of_entry (λ (k : Known components). k.0)) props)))
    (λ walk. refl)
    (finds_attributes components (component name.text) [] props)
layer components (n.Fragment kids) = finds_kids components kids
layer components (n.Suspense name props kids) =
    finds_element components (bounds name) (λ place. boundary name place.in_fallback) suspense props kids (λ walk. refl)

rolled : (components : List Component) (y : Node-F (Known components))
    → Finds components (node_events (roll-Node (map-Node (Known components) Node (λ k. k.0) y))) (node_sites (roll-Node (map-Node (Known components) Node (λ k. k.0) y)))
rolled components y =
    let z : Node-F Node = map-Node (Known components) Node (λ k. k.0) y in
    subst (λ (e : List Event). Finds components e (node_sites (roll-Node z))) (sym (fold-roll-Node (List Event) node_events_step z))
    (subst (λ (s : Place → List Site). Finds components (node_events_step (map-Node Node (List Event) node_events z)) s)
    (sym (fold-roll-Node (Place → List Site) node_step z)) (layer components y))

-- What is found at the names of a node is what the walk over its events finds.
pub finds_node : (components : List Component) (node : Node) → Finds components (node_events node) (node_sites node)
finds_node components =
    ind-Node (λ (x : Node). Finds components (node_events x) (node_sites x))
    (λ x y is. subst (λ (z : Node-F Node). Finds components (node_events (roll-Node z)) (node_sites (roll-Node z))) is (rolled components y))
