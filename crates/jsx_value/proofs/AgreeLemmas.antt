-- Two tables of calls that agree on what a node calls open it alike.
use Rattle.std.proofs.Common.{◌≡◌, ℕ, Bool, true, List, [], ◌∷◌, map, refl, sym, ap, ap₂, ◌∙◌, subst}
use Rattle.std.proofs.Math.Path.{fun_ext}
use Rattle.std.proofs.lemmas.Bool.{and_parts}
use Rattle.jsx_syntax.specs.declared.name.Entry as named
use Rattle.jsx_syntax.specs.declared.node.Node.{Node, roll-Node}
use Rattle.jsx_syntax.specs.declared.node.Node.TheOpen.{Node-F}
use Rattle.jsx_syntax.specs.declared.node.Node.TheFolds.{fold-roll-Node, para-roll-Node, ind-Node, map-Node}
use Rattle.jsx_syntax.specs.Rules.{has_name}
use Rattle.jsx_value.specs.declared.shape.Tree.{Tree}
use Rattle.jsx_value.specs.Expressions.{Names}
use Rattle.jsx_value.specs.Positions.{Calls, Opened, Openable, args_of, node_step, open_node, prop_node, trees}
use Rattle.jsx_value.specs.Expansions.{all_true, all_values_true, calls_only, calls_step}

pub record Tables : Type 0 where
  pub prefix : List ℕ
  pub names : List (List ℕ)
  pub first : Calls Tree
  pub second : Calls Tree
  pub same : (name : List ℕ) → has_name name names ≡ true → first name ≡ second name

abbrev Agrees : Tables → Node → Type 0
Agrees t n = calls_only t.names n ≡ true → open_node trees t.prefix t.first n ≡ open_node trees t.prefix t.second n

abbrev Known : Tables → Type 0
Known t = (n : Node) × Agrees t n

abbrev under : List ℕ → Calls Tree → Node → Openable Tree
under prefix calls n = (n, open_node trees prefix calls n)

abbrev prop_under : List ℕ → Calls Tree → named.Entry Node → named.Entry (Openable Tree)
prop_under prefix calls p = record { name = p.name; value = under prefix calls p.value }

abbrev bare : (t : Tables) → named.Entry (Known t) → named.Entry Node
bare t p = record { name = p.name; value = p.value.0 }

kid_same : (t : Tables) (e : Known t) → calls_only t.names e.0 ≡ true → under t.prefix t.first e.0 ≡ under t.prefix t.second e.0
kid_same t e h = ap (λ (f : Names → Opened Tree). (e.0, f)) (e.1 h)

kids_same : (t : Tables) (es : List (Known t)) → all_true (map (calls_only t.names) (map (λ e. e.0) es)) ≡ true
    → map (under t.prefix t.first) (map (λ e. e.0) es) ≡ map (under t.prefix t.second) (map (λ e. e.0) es)
kids_same t [] h = refl
kids_same t (e ∷ es) h =
    let both = and_parts (calls_only t.names e.0) (all_true (map (calls_only t.names) (map (λ e. e.0) es))) h in
    ap₂ (λ (k : Openable Tree) (ks : List (Openable Tree)). k ∷ ks) (kid_same t e both.0) (kids_same t es both.1)

values_same : (t : Tables) (ps : List (named.Entry (Known t)))
    → all_values_true (map (λ (p : named.Entry Node). record { name = p.name; value = calls_only t.names p.value }) (map (bare t) ps)) ≡ true
    → map (prop_under t.prefix t.first) (map (bare t) ps) ≡ map (prop_under t.prefix t.second) (map (bare t) ps)
values_same t [] h = refl
values_same t (p ∷ ps) h =
    let both = and_parts (calls_only t.names p.value.0)
    (all_values_true (map (λ (q : named.Entry Node). record { name = q.name; value = calls_only t.names q.value }) (map (bare t) ps))) h in
    ap₂ (λ (k : Openable Tree) (ks : List (named.Entry (Openable Tree))). record { name = p.name; value = k } ∷ ks)
    (kid_same t p.value both.0) (values_same t ps both.1)

-- a layer of nodes of which each is known to agree
abbrev bare_layer : (t : Tables) → Node-F (Known t) → Node-F Node
bare_layer t y = map-Node (Known t) Node (λ e. e.0) y

abbrev opened_by : Tables → Calls Tree → Node-F Node → Names → Opened Tree
opened_by t calls l = node_step trees t.prefix calls (map-Node Node (Openable Tree) (under t.prefix calls) l)

abbrev step : Tables → Node-F (Openable Tree) → Names → Opened Tree
step t = node_step trees t.prefix t.first

cases : (t : Tables) (y : Node-F (Known t)) → calls_step t.names (map-Node Node Bool (calls_only t.names) (bare_layer t y)) ≡ true
    → opened_by t t.first (bare_layer t y) ≡ opened_by t t.second (bare_layer t y)
cases t (Node-F.Value expr) h = refl
cases t (Node-F.Choose test one other) h =
    let both = and_parts (calls_only t.names one.0) (calls_only t.names other.0) h in
    ap₂ (λ (k l : Openable Tree). step t (Node-F.Choose test k l)) (kid_same t one both.0) (kid_same t other both.1)
cases t (Node-F.And left last) h = ap (λ (k : Openable Tree). step t (Node-F.And left k)) (kid_same t last h)
cases t (Node-F.Or left last) h = ap (λ (k : Openable Tree). step t (Node-F.Or left k)) (kid_same t last h)
cases t (Node-F.Array es) h = ap (λ (ks : List (Openable Tree)). step t (Node-F.Array ks)) (kids_same t es h)
cases t (Node-F.Map list item number_ body) h = ap (λ (k : Openable Tree). step t (Node-F.Map list item number_ k)) (kid_same t body h)
cases t (Node-F.Host name ps es) h =
    let both = and_parts (all_values_true (map (λ (q : named.Entry Node). record { name = q.name; value = calls_only t.names q.value }) (map (bare t) ps)))
    (all_true (map (calls_only t.names) (map (λ e. e.0) es))) h in
    ap₂ (λ (qs : List (named.Entry (Openable Tree))) (ks : List (Openable Tree)). step t (Node-F.Host name qs ks))
    (values_same t ps both.0) (kids_same t es both.1)
cases t (Node-F.Call name ps) h =
    let both = and_parts (has_name name.text t.names)
    (all_values_true (map (λ (q : named.Entry Node). record { name = q.name; value = calls_only t.names q.value }) (map (bare t) ps))) h in
    ap (λ (qs : List (named.Entry (Openable Tree))). step t (Node-F.Call name qs)) (values_same t ps both.1)
    ∙ fun_ext (λ scope. ap (λ (f : Names → Opened Tree). f (args_of (map (prop_node {K = Tree}) (map (prop_under t.prefix t.second) (map (bare t) ps))) scope)) (t.same name.text both.0))
cases t (Node-F.Fragment es) h = ap (λ (ks : List (Openable Tree)). step t (Node-F.Fragment ks)) (kids_same t es h)
cases t (Node-F.Suspense name ps es) h =
    let both = and_parts (all_values_true (map (λ (q : named.Entry Node). record { name = q.name; value = calls_only t.names q.value }) (map (bare t) ps)))
    (all_true (map (calls_only t.names) (map (λ e. e.0) es))) h in
    ap₂ (λ (qs : List (named.Entry (Openable Tree))) (ks : List (Openable Tree)). step t (Node-F.Suspense name qs ks))
    (values_same t ps both.0) (kids_same t es both.1)

layer : (t : Tables) (y : Node-F (Known t)) → Agrees t (roll-Node (bare_layer t y))
layer t y = λ h.
    para-roll-Node (Names → Opened Tree) (node_step trees t.prefix t.first) (bare_layer t y)
    ∙ cases t y (sym (fold-roll-Node Bool (calls_step t.names) (bare_layer t y)) ∙ h)
    ∙ sym (para-roll-Node (Names → Opened Tree) (node_step trees t.prefix t.second) (bare_layer t y))

pub node-agrees : (t : Tables) (x : Node) → Agrees t x
node-agrees t = ind-Node (Agrees t) (λ x y is. subst (λ (z : Node-F Node). Agrees t (roll-Node z)) is (layer t y))
