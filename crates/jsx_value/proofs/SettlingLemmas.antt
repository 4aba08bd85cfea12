-- What stands at a place where more has settled.
use Rattle.std.proofs.Common.{◌≡◌, ℕ, zero, suc, ◌≤◌, Bool, true, false, ◌&&◌, if◌then◌else◌, Option, Some, None, List, [], ◌∷◌, map, take, refl, sym, ap, ap₂, ◌∙◌, subst, arith, codes}
use Rattle.std.specs.Prelude.{is_none, is_some}
use Rattle.std.specs.Str.{bytes_eq}
use Rattle.settle_script.specs.declared.value.Value.{Value}
use Rattle.settle_script.specs.declared.value.Entry.{Entry}
use Rattle.settle_script.specs.declared.outcome.Outcome.{Outcome}
use Rattle.settle_script.specs.declared.outcome.Outcome.TheVariants.{Resolved, Rejected}
use Rattle.settle_script.specs.Settlements.{entry_named, known}
use Rattle.jsx_syntax.specs.declared.file.File.{File}
use Rattle.jsx_syntax.specs.declared.file.Component.{Component}
use Rattle.jsx_syntax.specs.declared.file.Stmt.{Stmt}
use Rattle.jsx_syntax.specs.declared.file.Stmt.TheVariants.{Fetch, Bind, Throw}
use Rattle.jsx_syntax.specs.declared.node.Node.{Node, roll-Node}
use Rattle.jsx_syntax.specs.declared.node.Node.TheViews.{out-roll-Node}
use Rattle.jsx_syntax.specs.declared.node.Node.TheOpen.{Node-F}
use Rattle.jsx_syntax.specs.declared.node.Node.TheFolds.{ind-Node, map-Node}
use Rattle.jsx_value.specs.declared.shape.Shape.TheVariants as s
use Rattle.jsx_value.specs.Values.{is_true, text_of}
use Rattle.jsx_value.specs.Expressions.{Names, value_of, and_of, or_of, chain_of, with_name}
use Rattle.jsx_value.specs.Positions.{Calls, Opened, Page, Place, Standing, root, one_node, many_nodes, one_value, call_of, called, calls_of, fetch, frame_of, open_children, open_node, open_standing, opened, places, run, shape_of, values_in}
use Rattle.jsx_value.specs.SeenPlaces.{page_with}
use Rattle.jsx_value.specs.Settling.{Settles, settled_since, StaysOrOpens, it_stays, it_opens}
use Rattle.jsx_value.specs.Layers.{children_layer, node_layer, openable, value_layer}
use Rattle.jsx_value.proofs.LayersLemmas.{children-opens, node-opens}

module _ (old new : List ℕ → Option Outcome) (kept : (name : List ℕ) (outcome : Outcome) → old name ≡ Some outcome → new name ≡ Some outcome) where
  abbrev since : List ℕ → Bool
  since name = is_none (old name) && is_some (new name)

  abbrev Grown : Opened Place → Opened Place → Type 0
  Grown = StaysOrOpens since

  abbrev pub CallsGrow : Calls Place → Calls Place → Type 0
  CallsGrow calls more = (name : List ℕ) (args : Names) → Grown (calls name args) (more name args)

  called_grows : (x y : Opened Place) → Grown x y → Grown (called x) (called y)
  called_grows x y (it_stays e) = it_stays (ap called e)
  called_grows x y (it_opens resource e k) = it_opens resource e k

  either_grows : (b : Bool) (x y v w : Opened Place) → Grown x v → Grown y w → Grown (if b then x else y) (if b then v else w)
  either_grows true x y v w g h = g
  either_grows false x y v w g h = h

  fetch_grows : (resource : List ℕ) (x y : Option Outcome) (go more : Value → Opened Place) → ((v : Value) → Grown (go v) (more v))
      → ((o : Outcome) → x ≡ Some o → y ≡ Some o) → (x ≡ None → is_some y ≡ true → since resource ≡ true)
      → Grown (fetch resource x go) (fetch resource y more)
  fetch_grows resource None None go more g e k = it_stays refl
  fetch_grows resource None (Some o) go more g e k = it_opens resource refl (k refl refl)
  fetch_grows resource (Some o) y go more g e k =
      subst (λ (z : Option Outcome). Grown (fetch resource (Some o) go) (fetch resource z more)) (sym (e o refl)) (known_grows o)
    where
      known_grows : (p : Outcome) → Grown (fetch resource (Some p) go) (fetch resource (Some p) more)
      known_grows (Resolved value) = g value
      known_grows (Rejected digest) = it_stays refl

  both_true : (a b : Bool) → a ≡ true → b ≡ true → (a && b) ≡ true
  both_true true b e f = f
  both_true false b e f = e

  settled_now : (resource : List ℕ) → old resource ≡ None → is_some (new resource) ≡ true → since resource ≡ true
  settled_now resource e f = both_true (is_none (old resource)) (is_some (new resource)) (ap is_none e) f

  run_grows : (stmts : List Stmt) (go more : Names → Opened Place) → ((scope : Names) → Grown (go scope) (more scope)) → (scope : Names)
      → Grown (run old stmts go scope) (run new stmts more scope)
  run_grows [] go more g scope = g scope
  run_grows (Fetch name resource ∷ stmts) go more g scope =
      let asked : List ℕ = text_of (value_of resource scope) in
      fetch_grows asked (old asked) (new asked)
      (λ x. run old stmts go (with_name name x scope)) (λ x. run new stmts more (with_name name x scope))
      (λ x. run_grows stmts go more g (with_name name x scope)) (kept asked) (settled_now asked)
  run_grows (Bind name expr ∷ stmts) go more g scope = run_grows stmts go more g (with_name name (value_of expr scope) scope)
  run_grows (Throw test digest ∷ stmts) go more g scope =
      either_grows (is_true (value_of test scope)) _ (run old stmts go scope) _ (run new stmts more scope) (it_stays refl) (run_grows stmts go more g scope)

  module _ (prefix : List ℕ) (calls more : Calls Place) (grow : CallsGrow calls more) where
    abbrev NodeGrows : Node → Type 0
    NodeGrows x = (scope : Names) → Grown (open_node places prefix calls x scope) (open_node places prefix more x scope)

    abbrev Known : Type 0
    Known = (n : Node) × NodeGrows n

    children_cases : (es : List Known) (scope : Names)
        → Grown (children_layer prefix calls (map (λ e. e.0) es) scope) (children_layer prefix more (map (λ e. e.0) es) scope)
    children_cases [] scope = it_stays refl
    children_cases (e ∷ []) scope = e.1 scope
    children_cases (e ∷ f ∷ es) scope = it_stays refl

    cases : (y : Node-F Known) (scope : Names)
        → Grown (node_layer prefix calls (map-Node Known Node (λ e. e.0) y) scope) (node_layer prefix more (map-Node Known Node (λ e. e.0) y) scope)
    cases (Node-F.Value expr) scope = it_stays refl
    cases (Node-F.Choose test one other) scope =
        either_grows (is_true (value_of test scope)) (open_node places prefix calls one.0 scope) (open_node places prefix calls other.0 scope)
        (open_node places prefix more one.0 scope) (open_node places prefix more other.0 scope) (one.1 scope) (other.1 scope)
    cases (Node-F.And left last) scope =
        let value = chain_of and_of (values_in left scope) in
        either_grows (is_true value) (open_node places prefix calls last.0 scope) (value_layer value)
        (open_node places prefix more last.0 scope) (value_layer value) (last.1 scope) (it_stays refl)
    cases (Node-F.Or left last) scope =
        let value = chain_of or_of (values_in left scope) in
        either_grows (is_true value) (value_layer value) (open_node places prefix calls last.0 scope)
        (value_layer value) (open_node places prefix more last.0 scope) (it_stays refl) (last.1 scope)
    cases (Node-F.Array nodes) scope = it_stays refl
    cases (Node-F.Map list item number_ body) scope = it_stays refl
    cases (Node-F.Host name props kids) scope = it_stays refl
    cases (Node-F.Call name props) scope = grow name.text _
    cases (Node-F.Fragment kids) scope = children_cases kids scope
    cases (Node-F.Suspense name props kids) scope = it_stays refl

    opens_as : (table : Calls Place) (z : Node-F Node) (scope : Names) → node_layer prefix table z scope ≡ open_node places prefix table (roll-Node z) scope
    opens_as table z scope =
        sym (node-opens prefix table (roll-Node z) scope ∙ ap (λ (l : Node-F Node). node_layer prefix table l scope) (out-roll-Node z))

    layer : (y : Node-F Known) → NodeGrows (roll-Node (map-Node Known Node (λ e. e.0) y))
    layer y scope =
        subst (λ (w : Opened Place). Grown (open_node places prefix calls (roll-Node (map-Node Known Node (λ e. e.0) y)) scope) w)
        (opens_as more (map-Node Known Node (λ e. e.0) y) scope)
        (subst (λ (v : Opened Place). Grown v (node_layer prefix more (map-Node Known Node (λ e. e.0) y) scope))
        (opens_as calls (map-Node Known Node (λ e. e.0) y) scope) (cases y scope))

    pub node_grows : (x : Node) → NodeGrows x
    node_grows = ind-Node NodeGrows (λ x y is. subst (λ (z : Node-F Node). NodeGrows (roll-Node z)) is (layer y))

    children_grow : (xs : List Node) (scope : Names) → Grown (children_layer prefix calls xs scope) (children_layer prefix more xs scope)
    children_grow [] scope = it_stays refl
    children_grow (x ∷ []) scope = node_grows x scope
    children_grow (x ∷ y ∷ xs) scope = it_stays refl

    standing_grows : (stands : Standing) (scope : Names) → Grown (open_standing places prefix calls stands scope) (open_standing places prefix more stands scope)
    standing_grows root scope = grow (codes "App") []
    standing_grows (one_node x) scope = node_grows x scope
    standing_grows (many_nodes xs) scope =
        subst (λ (w : Opened Place). Grown (open_children places.node (map (openable prefix calls) xs) scope) w) (sym (children-opens prefix more xs scope))
        (subst (λ (v : Opened Place). Grown v (children_layer prefix more xs scope)) (sym (children-opens prefix calls xs scope)) (children_grow xs scope))
    standing_grows (one_value x) scope = it_stays refl

  calls_grow : (prefix : List ℕ) (components : List Component) → CallsGrow (calls_of places old prefix components) (calls_of places new prefix components)
  calls_grow prefix [] name args = it_stays refl
  calls_grow prefix (component ∷ before) name args =
      either_grows (bytes_eq name component.name.text)
      (call_of places old prefix component (calls_of places old prefix before) args) (calls_of places old prefix before name args)
      (call_of places new prefix component (calls_of places new prefix before) args) (calls_of places new prefix before name args)
      (call_grows component (calls_of places old prefix before) (calls_of places new prefix before) (calls_grow prefix before) args) (calls_grow prefix before name args)
    where
      call_grows : (c : Component) (calls more : Calls Place) → CallsGrow calls more → (as_ : Names)
          → Grown (call_of places old prefix c calls as_) (call_of places new prefix c more as_)
      call_grows c calls more g as_ =
          called_grows (run old c.stmts (open_node places prefix calls c.result) (frame_of c.properties as_))
          (run new c.stmts (open_node places prefix more c.result) (frame_of c.properties as_))
          (run_grows c.stmts (open_node places prefix calls c.result) (open_node places prefix more c.result)
          (node_grows prefix calls more g c.result) (frame_of c.properties as_))

  place_grows : (prefix : List ℕ) (components : List Component) (place : Place)
      → Grown (shape_of (record { known = old; components = components; prefix = prefix }) place)
      (shape_of (record { known = new; components = components; prefix = prefix }) place)
  place_grows prefix components place =
      standing_grows prefix (calls_of places old prefix components) (calls_of places new prefix components) (calls_grow prefix components) place.stands place.scope

pub stays_or_opens : (first second : Page) → Settles first second → (place : Place)
    → StaysOrOpens (settled_since first second) (shape_of first place) (shape_of second place)
stays_or_opens first second settles place =
    subst (λ (p : Page). StaysOrOpens (settled_since first second) (shape_of first place) (shape_of p place))
    (ap₂ (λ (components : List Component) (prefix : List ℕ). record { known = second.known; components = components; prefix = prefix }) settles.components settles.prefix)
    (place_grows first.known second.known settles.known first.prefix first.components place)

-- The first settlements stay known.
never_named : (o : Outcome) → None ≡ Some o → ⊥
never_named o e = cc

choose_named : (b : Bool) (x y z : Option Outcome) (o : Outcome) → (y ≡ Some o → z ≡ Some o) → (if b then x else y) ≡ Some o → (if b then x else z) ≡ Some o
choose_named true x y z o go e = e
choose_named false x y z o go e = go e

more_named : (name : List ℕ) (o : Outcome) (outcomes : List (Entry Outcome)) (m n : ℕ) → m ≤ n
    → entry_named name (take m outcomes) ≡ Some o → entry_named name (take n outcomes) ≡ Some o
more_named name o [] zero n le e = absurd (never_named o e)
more_named name o [] (suc m) zero le e = e
more_named name o [] (suc m) (suc n) le e = e
more_named name o (x ∷ xs) zero n le e = absurd (never_named o e)
more_named name o (x ∷ xs) (suc m) zero le e = absurd (omega arith)
more_named name o (x ∷ xs) (suc m) (suc n) le e =
    choose_named (bytes_eq name x.name) (Some x.value) (entry_named name (take m xs)) (entry_named name (take n xs)) o
    (more_named name o xs m n (omega arith)) e

pub more_settled : (file : File) (outcomes : List (Entry Outcome)) (m n : ℕ) (prefix : List ℕ) → m ≤ n
    → Settles (page_with file outcomes m prefix) (page_with file outcomes n prefix)
more_settled file outcomes m n prefix le = record {
  components = refl;
  prefix = refl;
  known = λ name o e. more_named name o outcomes m n le e;
}
