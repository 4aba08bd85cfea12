-- The walk over the events of a file finds the earliest of what is found at its names.
use Rattle.std.proofs.Common.{◌≡◌, ◌⊎◌, inl, inr, ℕ, Bool, true, false, if◌then◌else◌, is_some, Option, Some, None, List, [], ◌∷◌, ◌++◌, reverse, refl, sym, ◌∙◌, ap, subst, append_assoc, append-nil}
use Rattle.std.specs.List.{flat_map}
use Rattle.std.proofs.lemmas.List.{reverse-append}
use Rattle.jsx_syntax.specs.Rules.{node_sites, properties_of, binding, definition, expression_sites, property_sites, statement_sites, scope_after, body_sites, texts_of, component_sites, components_sites, sites_of}
use Rattle.jsx_syntax.specs.declared.expr.Expr.{Expr}
use Rattle.jsx_syntax.specs.declared.file.Component.{Component}
use Rattle.jsx_syntax.specs.declared.file.File.{File}
use Rattle.jsx_syntax.specs.declared.file.Stmt.{Stmt}
use Rattle.jsx_syntax.specs.declared.file.Stmt.TheVariants.{Fetch, Bind, Throw}
use Rattle.jsx_syntax.specs.declared.name.Name.{Name}
use Rattle.jsx_syntax.specs.declared.node.Node.{Node}
use Rattle.jsx_check.specs.Firsts.{Decides, earlier, earliest, found_at}
use Rattle.jsx_check.specs.Events.{Event, ends, binds, after_events, walk_start, expression_events, property_events, statement_events, component_events, file_events, node_events}
use Rattle.jsx_check.specs.declared.found.Found.{Found}
use Rattle.jsx_check.specs.declared.walk.Walk.{Walk}
use Rattle.std.specs.Str.{bytes_eq}
use Rattle.jsx_check.proofs.CountsLemmas.{bytes_eq-refl}
use Rattle.jsx_check.proofs.FirstsLemmas.{earliest-IsSound, earliest-IsFirstBroken}
use Rattle.jsx_check.proofs.EventsLemmas.{finds_both, finds_expression, finds_node, earliest-append, after_events-append}

-- outside fallbacks
abbrev walk_at : List (List ℕ) → List (List ℕ) → Option Found → Walk
walk_at before scope found = record { before = before; scope = scope; fallbacks = 0; found = found }

-- names from a list, the last of them first, and then those of a scope
abbrev scope_with : List Name → List (List ℕ) → List (List ℕ)
scope_with [] scope = scope
scope_with (name ∷ names) scope = scope_with names (name.text ∷ scope)

scope_with-is : (names : List Name) (scope : List (List ℕ)) → scope_with names scope ≡ reverse (texts_of names) ++ scope
scope_with-is [] scope = refl
scope_with-is (name ∷ names) scope =
    scope_with-is names (name.text ∷ scope)
    ∙ (sym (append_assoc (reverse (texts_of names)) (name.text ∷ []) scope)
    ∙ ap (λ (xs : List (List ℕ)). xs ++ scope) (sym (reverse-append (name.text ∷ []) (texts_of names))))

properties_walk : (components : List Component) (before scope : List (List ℕ)) (found : Option Found) (names : List Name)
    → after_events components (walk_at before scope found) (property_events names)
    ≡ walk_at before (scope_with names scope) (earliest components found (property_sites scope names))
properties_walk components before scope found [] = refl
properties_walk components before scope found (name ∷ names) =
    properties_walk components before (name.text ∷ scope) (earlier found (found_at components (binding name scope))) names

-- an expression, and then a name that is bound
bound_walk : (components : List Component) (before scope : List (List ℕ)) (found : Option Found) (name : Name) (expr : Expr)
    → after_events components (walk_at before scope found) (expression_events expr ++ binds name ∷ [])
    ≡ walk_at before (name.text ∷ scope) (earliest components found (expression_sites scope expr ++ binding name scope ∷ []))
bound_walk components before scope found name expr =
    after_events-append components (walk_at before scope found) (expression_events expr) (binds name ∷ [])
    ∙ (ap (λ (w : Walk). after_events components w (binds name ∷ [])) (finds_expression components expr (walk_at before scope found))
    ∙ ap (walk_at before (name.text ∷ scope)) (sym (earliest-append components found (expression_sites scope expr) (binding name scope ∷ []))))

statement_walk : (components : List Component) (before scope : List (List ℕ)) (found : Option Found) (stmt : Stmt)
    → after_events components (walk_at before scope found) (statement_events stmt)
    ≡ walk_at before (scope_after scope stmt) (earliest components found (statement_sites scope stmt))
statement_walk components before scope found (Fetch name resource) = bound_walk components before scope found name resource
statement_walk components before scope found (Bind name value) = bound_walk components before scope found name value
statement_walk components before scope found (Throw test digest) =
    finds_both components (expression_events test) (expression_events digest) (λ place. expression_sites place.scope test)
    (λ place. expression_sites place.scope digest) (finds_expression components test) (finds_expression components digest)
    (walk_at before scope found)

body_walk : (components : List Component) (before scope : List (List ℕ)) (found : Option Found) (stmts : List Stmt) (result : Node) (name : Name)
    → is_some (properties_of name.text components) ≡ true → after_events components (walk_at before scope found) (flat_map statement_events stmts ++ (node_events result ++ ends name ∷ []))
    ≡ walk_at (name.text ∷ before) [] (earliest components found (body_sites before scope stmts result))
body_walk components before scope found [] result name known =
    after_events-append components (walk_at before scope found) (node_events result) (ends name ∷ [])
    ∙ (ap (λ (w : Walk). after_events components w (ends name ∷ [])) (finds_node components result (walk_at before scope found))
    ∙ ap (λ (b : Bool). walk_at (if b then name.text ∷ before else before) [] (earliest components found (node_sites result (record { before = before; scope = scope; in_fallback = false })))) known)
body_walk components before scope found (stmt ∷ stmts) result name known =
    let rest : List Event = flat_map statement_events stmts ++ (node_events result ++ ends name ∷ []) in
    ap (after_events components (walk_at before scope found)) (append_assoc (statement_events stmt) (flat_map statement_events stmts) (node_events result ++ ends name ∷ []))
    ∙ (after_events-append components (walk_at before scope found) (statement_events stmt) rest
    ∙ (ap (λ (w : Walk). after_events components w rest) (statement_walk components before scope found stmt)
    ∙ (body_walk components before (scope_after scope stmt) (earliest components found (statement_sites scope stmt)) stmts result name known
    ∙ ap (walk_at (name.text ∷ before) []) (sym (earliest-append components found (statement_sites scope stmt) (body_sites before (scope_after scope stmt) stmts result))))))

component_walk : (components : List Component) (before : List (List ℕ)) (found : Option Found) (c : Component)
    → is_some (properties_of c.name.text components) ≡ true → after_events components (walk_at before [] found) (component_events c)
    ≡ walk_at (c.name.text ∷ before) [] (earliest components found (component_sites before c))
component_walk components before found c known =
    let here : Option Found = earlier found (found_at components (definition c.name before)) in
    let rest : List Event = flat_map statement_events c.stmts ++ (node_events c.result ++ ends c.name ∷ []) in
    let scope : List (List ℕ) = reverse (texts_of c.properties) in
    let after : Option Found = earliest components here (property_sites [] c.properties) in
    after_events-append components (walk_at before [] here) (property_events c.properties) rest
    ∙ (ap (λ (w : Walk). after_events components w rest) (properties_walk components before [] here c.properties)
    ∙ (ap (λ (s : List (List ℕ)). after_events components (walk_at before s after) rest) (scope_with-is c.properties [] ∙ append-nil scope)
    ∙ (body_walk components before scope after c.stmts c.result c.name known
    ∙ ap (walk_at (c.name.text ∷ before) []) (sym (earliest-append components here (property_sites [] c.properties) (body_sites before scope c.stmts c.result))))))

abbrev last_name : List (List ℕ) → List Component → List (List ℕ)
last_name before [] = before
last_name before (c ∷ later) = last_name (c.name.text ∷ before) later

-- They are components of the file.
abbrev AllKnown : List Component → List Component → Type 0
AllKnown components [] = Unit {0}
AllKnown components (c ∷ later) = (is_some (properties_of c.name.text components) ≡ true) × AllKnown components later

known_here : (b : Bool) (p : List Name) (o : Option (List Name)) → (b ≡ true) ⊎ (is_some o ≡ true) → is_some (if b then Some p else o) ≡ true
known_here true p o h = refl
known_here false p o (inl e) = let t : false ≡ true = e in absurd (cc)
known_here false p o (inr e) = e

known_in : (c : Component) (xs later : List Component) → is_some (properties_of c.name.text (xs ++ c ∷ later)) ≡ true
known_in c [] later = known_here (bytes_eq c.name.text c.name.text) c.properties (properties_of c.name.text later) (inl (bytes_eq-refl c.name.text))
known_in c (x ∷ xs) later =
    known_here (bytes_eq c.name.text x.name.text) x.properties (properties_of c.name.text (xs ++ c ∷ later)) (inr (known_in c xs later))

all_known : (xs later : List Component) → AllKnown (xs ++ later) later
all_known xs [] = tt
all_known xs (c ∷ later) =
    (known_in c xs later, subst (λ (all : List Component). AllKnown all later) (append_assoc xs (c ∷ []) later) (all_known (xs ++ c ∷ []) later))

components_walk : (components : List Component) (before : List (List ℕ)) (found : Option Found) (later : List Component) → AllKnown components later
    → after_events components (walk_at before [] found) (flat_map component_events later)
    ≡ walk_at (last_name before later) [] (earliest components found (components_sites before later))
components_walk components before found [] known = refl
components_walk components before found (c ∷ later) known =
    after_events-append components (walk_at before [] found) (component_events c) (flat_map component_events later)
    ∙ (ap (λ (w : Walk). after_events components w (flat_map component_events later)) (component_walk components before found c known.0)
    ∙ (components_walk components (c.name.text ∷ before) (earliest components found (component_sites before c)) later known.1
    ∙ ap (walk_at (last_name before (c ∷ later)) []) (sym (earliest-append components found (component_sites before c) (components_sites (c.name.text ∷ before) later)))))

-- what the walk over a file finds
pub file_walk : (file : File) → (after_events file.components walk_start (file_events file)).found ≡ earliest file.components None (sites_of file)
file_walk file = ap (λ (w : Walk). w.found) (components_walk file.components [] None file.components (all_known [] file.components))

pub walk_decides : (file : File) → Decides file ((after_events file.components walk_start (file_events file)).found)
walk_decides file = record {
  sound = λ e. earliest-IsSound file (sym (file_walk file) ∙ e);
  broken = λ f e. earliest-IsFirstBroken file f (sym (file_walk file) ∙ e);
}
