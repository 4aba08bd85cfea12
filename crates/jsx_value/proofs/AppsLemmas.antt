-- The components of an app are ordered: its rules say so at each call and at each component.
use Rattle.std.proofs.Common.{◌≡◌, ℕ, Bool, true, false, not, ◌&&◌, ◌||◌, if◌then◌else◌, Option, Some, None, is_none, is_some, List, [], ◌∷◌, ◌++◌, map, reverse, get_or, Contains, refl, sym, ap, ◌∙◌, subst, append_assoc, append-nil, codes}
use Rattle.std.specs.List.{list_all, flat_map}
use Rattle.std.specs.Str.{bytes_eq}
use Rattle.std.proofs.lemmas.Bool.{and_from, and_parts}
use Rattle.std.proofs.lemmas.List.{reverse-append}
use Rattle.std.proofs.lemmas.List.Elements.{Contains-get_or}
use Rattle.std.proofs.lemmas.List.Folds.{list_all-append}
use Rattle.std.proofs.lemmas.List.Sums.{list_all-from_AllPass}
use Rattle.jsx_syntax.specs.declared.name.Name.{Name}
use Rattle.jsx_syntax.specs.declared.name.Entry as named
use Rattle.jsx_syntax.specs.declared.node.Node.{Node, roll-Node}
use Rattle.jsx_syntax.specs.declared.node.Node.TheOpen.{Node-F}
use Rattle.jsx_syntax.specs.declared.node.Node.TheFolds.{fold-roll-Node, ind-Node, map-Node}
use Rattle.jsx_syntax.specs.declared.file.Component.{Component}
use Rattle.jsx_syntax.specs.declared.file.File.{File}
use Rattle.jsx_syntax.specs.declared.file.Stmt.{Stmt}
use Rattle.jsx_syntax.specs.declared.rule.Rule.TheVariants.{UnknownElement, TwiceDefined, UsedBeforeDefined}
use Rattle.jsx_syntax.specs.Rules.{IsApp, Owner, html, suspense, component, Place, Site, definition, variable, binding, element, call, boundary, attribute, all_sites, attribute_sites, body_sites, component_sites, components_sites, expression_sites, has_name, is_fallback_of, map_sites, node_sites, node_step, property_sites, properties_of, scope_after, sites_of, statement_sites, texts_of, value_place, with_names}
use Rattle.jsx_value.specs.Expansions.{all_true, all_values_true, calls_only, calls_step, is_ordered, names_of}

-- A call is of an earlier component, and a component has another name than the earlier ones.
abbrev is_earlier : Site → Bool
is_earlier (definition name before) = not (has_name name.text before)
is_earlier (variable name scope) = true
is_earlier (binding name scope) = true
is_earlier (element name) = true
is_earlier (call name before in_fallback) = has_name name.text before
is_earlier (boundary name in_fallback) = true
is_earlier (attribute name owner earlier) = true

no_way : {X : Type 0} → ⊥ → X
no_way {X} e = elim e [ ]

defined : (b other : Bool) → ((b || other) ≡ true → ⊥) → not b ≡ true
defined true other not_so = no_way (not_so refl)
defined false other not_so = refl

earlier : {A : Type 0} (o : Option A) (b : Bool) → (is_none o ≡ true → ⊥) → ((is_some o && not b) ≡ true → ⊥) → b ≡ true
earlier None b not_none not_so = no_way (not_none refl)
earlier (Some x) true not_none not_so = refl
earlier (Some x) false not_none not_so = no_way (not_so refl)

site_earlier : (file : File) → IsApp file → (site : Site) → Contains (sites_of file) site → is_earlier site ≡ true
site_earlier file app (definition name before) is =
    defined (has_name name.text before) (bytes_eq name.text (codes "Suspense"))
    (λ broken. app.sound TwiceDefined name.at (record { site = definition name before; stands = is; broken = broken; place = refl }))
site_earlier file app (variable name scope) is = refl
site_earlier file app (binding name scope) is = refl
site_earlier file app (element name) is = refl
site_earlier file app (call name before in_fallback) is =
    earlier (properties_of name.text file.components) (has_name name.text before)
    (λ broken. app.sound UnknownElement name.at (record { site = call name before in_fallback; stands = is; broken = broken; place = refl }))
    (λ broken. app.sound UsedBeforeDefined name.at (record { site = call name before in_fallback; stands = is; broken = broken; place = refl }))
site_earlier file app (boundary name in_fallback) is = refl
site_earlier file app (attribute name owner before) is = refl

abbrev AllEarlier : List Site → Type 0
AllEarlier sites = list_all is_earlier sites ≡ true

parts : (xs ys : List Site) → AllEarlier (xs ++ ys) → AllEarlier xs × AllEarlier ys
parts xs ys h = and_parts (list_all is_earlier xs) (list_all is_earlier ys) (sym (list_all-append is_earlier xs ys) ∙ h)

-- Nodes
abbrev Ordered : Node → Type 0
Ordered n = (place : Place) → AllEarlier (node_sites n place) → calls_only place.before n ≡ true

abbrev Known : Type 0
Known = (n : Node) × Ordered n

abbrev bare : named.Entry Known → named.Entry Node
bare p = record { name = p.name; value = p.value.0 }

abbrev sites_at : named.Entry Node → named.Entry (Place → List Site)
sites_at p = record { name = p.name; value = node_sites p.value }

abbrev test_at : List (List ℕ) → named.Entry Node → named.Entry Bool
test_at names p = record { name = p.name; value = calls_only names p.value }

kids_ordered : (es : List Known) (place : Place) → AllEarlier (all_sites (map node_sites (map (λ e. e.0) es)) place)
    → all_true (map (calls_only place.before) (map (λ e. e.0) es)) ≡ true
kids_ordered [] place h = refl
kids_ordered (e ∷ es) place h =
    let both = parts (node_sites e.0 place) (all_sites (map node_sites (map (λ x. x.0) es)) place) h in
    and_from (calls_only place.before e.0) (all_true (map (calls_only place.before) (map (λ x. x.0) es))) (e.1 place both.0) (kids_ordered es place both.1)

same_before : (b : Bool) (place : Place) → (if b then record place { in_fallback = true } else place).before ≡ place.before
same_before true place = refl
same_before false place = refl

values_ordered : (owner : Owner) (seen : List (List ℕ)) (ps : List (named.Entry Known)) (place : Place)
    → AllEarlier (attribute_sites owner seen (map sites_at (map bare ps)) place)
    → all_values_true (map (test_at place.before) (map bare ps)) ≡ true
values_ordered owner seen [] place h = refl
values_ordered owner seen (p ∷ ps) place h =
    let here = value_place owner p.name.text place in
    let both = parts (node_sites p.value.0 here) (attribute_sites owner (p.name.text ∷ seen) (map sites_at (map bare ps)) place) h in
    and_from (calls_only place.before p.value.0) (all_values_true (map (test_at place.before) (map bare ps)))
    (ap (λ names. calls_only names p.value.0) (sym (same_before (is_fallback_of owner p.name.text) place)) ∙ p.value.1 here both.0)
    (values_ordered owner (p.name.text ∷ seen) ps place both.1)

map_ordered : (item : Name) (number_ : Option Name) (e : Known) (place : Place) → AllEarlier (map_sites item number_ place (node_sites e.0))
    → calls_only place.before e.0 ≡ true
map_ordered item None e place h = e.1 (with_names (item.text ∷ []) place) h
map_ordered item (Some number_) e place h = e.1 (with_names (number_.text ∷ item.text ∷ []) place) h

abbrev bare_layer : Node-F Known → Node-F Node
bare_layer y = map-Node Known Node (λ e. e.0) y

host_ordered : (owner : Owner) (ps : List (named.Entry Known)) (es : List Known) (place : Place)
    → AllEarlier (attribute_sites owner [] (map sites_at (map bare ps)) place ++ all_sites (map node_sites (map (λ e. e.0) es)) place)
    → (all_values_true (map (test_at place.before) (map bare ps)) && all_true (map (calls_only place.before) (map (λ e. e.0) es))) ≡ true
host_ordered owner ps es place h =
    let both = parts (attribute_sites owner [] (map sites_at (map bare ps)) place) (all_sites (map node_sites (map (λ e. e.0) es)) place) h in
    and_from (all_values_true (map (test_at place.before) (map bare ps))) (all_true (map (calls_only place.before) (map (λ e. e.0) es)))
    (values_ordered owner [] ps place both.0) (kids_ordered es place both.1)

cases : (y : Node-F Known) (place : Place) → AllEarlier (node_step (map-Node Node (Place → List Site) node_sites (bare_layer y)) place)
    → calls_step place.before (map-Node Node Bool (calls_only place.before) (bare_layer y)) ≡ true
cases (Node-F.Value expr) place h = refl
cases (Node-F.Choose test one other) place h =
    let both = parts (expression_sites place.scope test) (node_sites one.0 place ++ node_sites other.0 place) h in
    let branches = parts (node_sites one.0 place) (node_sites other.0 place) both.1 in
    and_from (calls_only place.before one.0) (calls_only place.before other.0) (one.1 place branches.0) (other.1 place branches.1)
cases (Node-F.And left last) place h =
    last.1 place (parts (flat_map (expression_sites place.scope) left) (node_sites last.0 place) h).1
cases (Node-F.Or left last) place h =
    last.1 place (parts (flat_map (expression_sites place.scope) left) (node_sites last.0 place) h).1
cases (Node-F.Array es) place h = kids_ordered es place h
cases (Node-F.Map list item number_ body) place h =
    map_ordered item number_ body place (parts (expression_sites place.scope list) (map_sites item number_ place (node_sites body.0)) h).1
cases (Node-F.Host name ps es) place h = host_ordered html ps es place h
cases (Node-F.Call name ps) place h =
    let both = and_parts (has_name name.text place.before) (list_all is_earlier (attribute_sites (component name.text) [] (map sites_at (map bare ps)) place)) h in
    and_from (has_name name.text place.before) (all_values_true (map (test_at place.before) (map bare ps)))
    both.0 (values_ordered (component name.text) [] ps place both.1)
cases (Node-F.Fragment es) place h = kids_ordered es place h
cases (Node-F.Suspense name ps es) place h = host_ordered suspense ps es place h

layer : (y : Node-F Known) → Ordered (roll-Node (bare_layer y))
layer y = λ place h.
    fold-roll-Node Bool (calls_step place.before) (bare_layer y)
    ∙ cases y place (ap (λ (f : Place → List Site). list_all is_earlier (f place)) (sym (fold-roll-Node (Place → List Site) node_step (bare_layer y))) ∙ h)

node_ordered : (x : Node) → Ordered x
node_ordered = ind-Node Ordered (λ x y is. subst (λ (z : Node-F Node). Ordered (roll-Node z)) is (layer y))

-- Components
body_ordered : (before scope : List (List ℕ)) (stmts : List Stmt) (result : Node) → AllEarlier (body_sites before scope stmts result) → calls_only before result ≡ true
body_ordered before scope [] result h = node_ordered result (record { before = before; scope = scope; in_fallback = false }) h
body_ordered before scope (stmt ∷ stmts) result h =
    body_ordered before (scope_after scope stmt) stmts result
    (parts (statement_sites scope stmt) (body_sites before (scope_after scope stmt) stmts result) h).1

component_ordered : (before : List (List ℕ)) (c : Component) → AllEarlier (component_sites before c)
    → (calls_only before c.result && not (has_name c.name.text before)) ≡ true
component_ordered before c h =
    let scope = reverse (texts_of c.properties) in
    let both = and_parts (not (has_name c.name.text before)) (list_all is_earlier (property_sites [] c.properties ++ body_sites before scope c.stmts c.result)) h in
    and_from (calls_only before c.result) (not (has_name c.name.text before))
    (body_ordered before scope c.stmts c.result (parts (property_sites [] c.properties) (body_sites before scope c.stmts c.result) both.1).1)
    both.0

components_ordered : (before later : List Component) → is_ordered before ≡ true → AllEarlier (components_sites (names_of before) later)
    → is_ordered (reverse later ++ before) ≡ true
components_ordered before [] ordered h = ordered
components_ordered before (c ∷ later) ordered h =
    let both = parts (component_sites (names_of before) c) (components_sites (names_of (c ∷ before)) later) h in
    ap (λ cs. is_ordered (cs ++ before)) (reverse-append (c ∷ []) later)
    ∙ ap is_ordered (append_assoc (reverse later) (c ∷ []) before)
    ∙ components_ordered (c ∷ before) later
    (and_from (calls_only (names_of before) c.result && not (has_name c.name.text (names_of before))) (is_ordered before)
    (component_ordered (names_of before) c both.0) ordered) both.1

pub app_ordered : (file : File) → IsApp file → is_ordered (reverse file.components) ≡ true
app_ordered file app =
    ap is_ordered (sym (append-nil (reverse file.components)))
    ∙ components_ordered [] file.components refl
    (list_all-from_AllPass is_earlier (sites_of file) (λ k d less. site_earlier file app (get_or (sites_of file) k d) (Contains-get_or (sites_of file) k d less)))
