-- A node that is opened as a tree is its shape, with the places inside opened as trees.
use Rattle.std.proofs.Common.{◌≡◌, ℕ, ◌+◌, Bool, true, false, ◌&&◌, ◌||◌, if◌then◌else◌, Option, Some, List, [], ◌∷◌, map, refl, sym, ap, ap₂, ◌∙◌, subst, codes}
use Rattle.std.proofs.lemmas.Simd.{map-map}
use Rattle.std.proofs.lemmas.List.{map-id}
use Rattle.std.specs.Str.{bytes_eq}
use Rattle.settle_script.specs.declared.value.Value.{Value, out-Value}
use Rattle.settle_script.specs.declared.value.Value.TheViews.{roll-out-Value}
use Rattle.settle_script.specs.declared.value.Value.TheOpen.{Value-F}
use Rattle.settle_script.specs.declared.value.Value.TheFolds.{para-roll-Value, map-Value}
use Rattle.jsx_syntax.specs.declared.name.Entry as named
use Rattle.jsx_syntax.specs.declared.node.Node.{Node, roll-Node}
use Rattle.jsx_syntax.specs.declared.node.Node.TheViews.{out-roll-Node}
use Rattle.jsx_syntax.specs.declared.node.Node.TheOpen.{Node-F}
use Rattle.jsx_syntax.specs.declared.node.Node.TheFolds.{fold-roll-Node, para-roll-Node, ind-Node, map-Node}
use Rattle.jsx_syntax.specs.Rules.{has_name}
use Rattle.jsx_value.specs.declared.shape.Shape.TheVariants as s
use Rattle.jsx_value.specs.declared.shape.Tree.{Tree, roll-Tree}
use Rattle.jsx_value.specs.declared.shape.Tree.TheFolds.{map-Tree}
use Rattle.jsx_value.specs.Values.{is_true}
use Rattle.jsx_value.specs.Expressions.{Names, value_of, and_of, or_of, chain_of}
use Rattle.jsx_value.specs.Positions.{Calls, Opened, Openable, Place, args_of, attributes_of, each_item, item_scope, keep_fallback, keep_tree, map_shape, node_step, open_children, open_node, open_standing, open_value, opened, places, prop_named, prop_node, text_shape, trees, value_shape, values_in}
use Rattle.jsx_value.specs.Layers.{children_layer, fallback_place, node_layer, node_place, nodes_place, value_layer, value_layer_shape, value_place}
use Rattle.jsx_value.specs.Expansions.{calls_only, calls_step}
use Rattle.jsx_value.proofs.LayersLemmas.{node-opens}

-- the tree at a place, where calls open so
abbrev pub tree_at : List ℕ → Calls Tree → Place → Tree
tree_at prefix calls place = roll-Tree (open_standing trees prefix calls place.stands place.scope)

-- a shape over places, with each place opened
abbrev pub grown : List ℕ → Calls Tree → Opened Place → Opened Tree
grown prefix calls layer = map-Tree Place Tree (tree_at prefix calls) layer

-- Values
text_grows : (prefix : List ℕ) (calls : Calls Tree) (t : List ℕ) → opened {K = Tree} (text_shape t) ≡ grown prefix calls (opened (text_shape t))
text_grows prefix calls [] = refl
text_grows prefix calls (b ∷ bs) = refl

value_cases : (prefix : List ℕ) (calls : Calls Tree) (layer : Value-F Value)
    → opened (value_shape trees (map-Value Value (Value × Opened Tree) (λ x. (x, open_value trees x)) layer)) ≡ grown prefix calls (opened (value_layer_shape layer))
value_cases prefix calls Value-F.Null = refl
value_cases prefix calls (Value-F.Bool b) = refl
value_cases prefix calls (Value-F.Int n) = refl
value_cases prefix calls (Value-F.Text t) = text_grows prefix calls t
value_cases prefix calls (Value-F.List items) =
    ap (λ (ks : List Tree). opened (s.Array ks))
    (map-map trees.value (λ x. (x, open_value trees x)) items ∙ sym (map-map (tree_at prefix calls) value_place items))
value_cases prefix calls (Value-F.Record members) = refl

pub value-grows : (prefix : List ℕ) (calls : Calls Tree) (x : Value) → open_value trees x ≡ grown prefix calls (value_layer x)
value-grows prefix calls x =
    ap (open_value trees) (sym (roll-out-Value x))
    ∙ para-roll-Value (Opened Tree) (λ layer. opened (value_shape trees layer)) (out-Value x)
    ∙ value_cases prefix calls (out-Value x)

-- Tables of calls, and the names whose calls are known to grow; all names where it is free.
pub record Growing : Type 0 where
  pub prefix : List ℕ
  pub free : Bool
  pub names : List (List ℕ)
  pub trees_of : Calls Tree
  pub places_of : Calls Place
  pub grows : (name : List ℕ) (args : Names) → (free || has_name name names) ≡ true → trees_of name args ≡ grown prefix trees_of (places_of name args)

abbrev Grows : Growing → Node → Type 0
Grows g x = (g.free || calls_only g.names x) ≡ true
    → (scope : Names) → open_node trees g.prefix g.trees_of x scope ≡ grown g.prefix g.trees_of (open_node places g.prefix g.places_of x scope)

abbrev Known : Growing → Type 0
Known g = (n : Node) × Grows g n

abbrev under : Growing → Node → Openable Tree
under g n = (n, open_node trees g.prefix g.trees_of n)

abbrev prop_under : Growing → named.Entry Node → named.Entry (Openable Tree)
prop_under g p = record { name = p.name; value = under g p.value }

abbrev grow : Growing → Opened Place → Opened Tree
grow g = grown g.prefix g.trees_of

or_and_left : (free a b : Bool) → (free || (a && b)) ≡ true → (free || a) ≡ true
or_and_left true a b h = refl
or_and_left false true b h = refl
or_and_left false false b h = h

or_and_right : (free a b : Bool) → (free || (a && b)) ≡ true → (free || b) ≡ true
or_and_right true a b h = refl
or_and_right false true b h = h
or_and_right false false true h = refl
or_and_right false false false h = h

if_grows : (g : Growing) (b : Bool) (x y : Opened Tree) (k l : Opened Place) → x ≡ grow g k → y ≡ grow g l
    → (if b then x else y) ≡ grow g (if b then k else l)
if_grows g true x y k l p q = p
if_grows g false x y k l p q = q

props_bare : (g : Growing) (props : List (named.Entry Node)) → map (prop_node {K = Tree}) (map (prop_under g) props) ≡ props
props_bare g props = map-map (prop_node {K = Tree}) (prop_under g) props ∙ map-id props

kids_grow : (g : Growing) (kids : List Node) (scope : Names)
    → map (λ (k : Openable Tree). keep_tree k scope) (map (under g) kids) ≡ map (tree_at g.prefix g.trees_of) (map (node_place scope) kids)
kids_grow g kids scope =
    map-map (λ (k : Openable Tree). keep_tree k scope) (under g) kids ∙ sym (map-map (tree_at g.prefix g.trees_of) (node_place scope) kids)

items_grow : (g : Growing) (keep : ℕ → Value → Place) (n : ℕ) (xs : List Value)
    → each_item (λ k x. tree_at g.prefix g.trees_of (keep k x)) n xs ≡ map (tree_at g.prefix g.trees_of) (each_item keep n xs)
items_grow g keep n [] = refl
items_grow g keep n (x ∷ xs) = ap (λ (ks : List Tree). tree_at g.prefix g.trees_of (keep n x) ∷ ks) (items_grow g keep (n + 1) xs)

map_grows : (g : Growing) (keep : ℕ → Value → Place) (list : Value-F Value)
    → opened (map_shape (λ k x. tree_at g.prefix g.trees_of (keep k x)) list) ≡ grow g (opened (map_shape keep list))
map_grows g keep Value-F.Null = refl
map_grows g keep (Value-F.Bool b) = refl
map_grows g keep (Value-F.Int n) = refl
map_grows g keep (Value-F.Text t) = refl
map_grows g keep (Value-F.List items) = ap (λ (ks : List Tree). opened (s.Array ks)) (items_grow g keep 0 items)
map_grows g keep (Value-F.Record members) = refl

fallback_head : (g : Growing) (scope : Names) (b : Bool) (x : Node) (o : Option (Openable Tree)) (p : Option Node)
    → keep_fallback trees o scope ≡ tree_at g.prefix g.trees_of (fallback_place scope p)
    → keep_fallback trees (if b then Some (under g x) else o) scope ≡ tree_at g.prefix g.trees_of (fallback_place scope (if b then Some x else p))
fallback_head g scope true x o p is = refl
fallback_head g scope false x o p is = is

fallback_grows : (g : Growing) (scope : Names) (name : List ℕ) (props : List (named.Entry Node))
    → keep_fallback trees (prop_named name (map (prop_under g) props)) scope ≡ tree_at g.prefix g.trees_of (fallback_place scope (prop_named name props))
fallback_grows g scope name [] = refl
fallback_grows g scope name (prop ∷ props) =
    fallback_head g scope (bytes_eq name prop.name.text) prop.value (prop_named name (map (prop_under g) props)) (prop_named name props)
    (fallback_grows g scope name props)

abbrev bare : (g : Growing) → named.Entry (Known g) → named.Entry Node
bare g p = record { name = p.name; value = p.value.0 }

abbrev bare_layer : (g : Growing) → Node-F (Known g) → Node-F Node
bare_layer g y = map-Node (Known g) Node (λ e. e.0) y

fragment_grows : (g : Growing) (es : List (Known g)) (scope : Names)
    → (g.free || calls_step g.names (Node-F.Fragment (map (calls_only g.names) (map (λ e. e.0) es)))) ≡ true
    → open_children keep_tree (map (under g) (map (λ e. e.0) es)) scope ≡ grow g (children_layer g.prefix g.places_of (map (λ e. e.0) es) scope)
fragment_grows g [] scope h = refl
fragment_grows g (e ∷ []) scope h = e.1 (or_and_left g.free (calls_only g.names e.0) true h) scope
fragment_grows g (e ∷ f ∷ es) scope h = ap (λ (ks : List Tree). opened (s.Array ks)) (kids_grow g (map (λ e. e.0) (e ∷ f ∷ es)) scope)

cases : (g : Growing) (y : Node-F (Known g)) (scope : Names)
    → (g.free || calls_step g.names (map-Node Node Bool (calls_only g.names) (bare_layer g y))) ≡ true
    → node_step trees g.prefix g.trees_of (map-Node Node (Openable Tree) (under g) (bare_layer g y)) scope
    ≡ grow g (node_layer g.prefix g.places_of (bare_layer g y) scope)
cases g (Node-F.Value expr) scope h = value-grows g.prefix g.trees_of (value_of expr scope)
cases g (Node-F.Choose test one other) scope h =
    if_grows g (is_true (value_of test scope)) (open_node trees g.prefix g.trees_of one.0 scope) (open_node trees g.prefix g.trees_of other.0 scope)
    (open_node places g.prefix g.places_of one.0 scope) (open_node places g.prefix g.places_of other.0 scope)
    (one.1 (or_and_left g.free (calls_only g.names one.0) (calls_only g.names other.0) h) scope)
    (other.1 (or_and_right g.free (calls_only g.names one.0) (calls_only g.names other.0) h) scope)
cases g (Node-F.And left last) scope h =
    let value = chain_of and_of (values_in left scope) in
    if_grows g (is_true value) (open_node trees g.prefix g.trees_of last.0 scope) (open_value trees value)
    (open_node places g.prefix g.places_of last.0 scope) (value_layer value)
    (last.1 h scope) (value-grows g.prefix g.trees_of value)
cases g (Node-F.Or left last) scope h =
    let value = chain_of or_of (values_in left scope) in
    if_grows g (is_true value) (open_value trees value) (open_node trees g.prefix g.trees_of last.0 scope)
    (value_layer value) (open_node places g.prefix g.places_of last.0 scope)
    (value-grows g.prefix g.trees_of value) (last.1 h scope)
cases g (Node-F.Array es) scope h = ap (λ (ks : List Tree). opened (s.Array ks)) (kids_grow g (map (λ e. e.0) es) scope)
cases g (Node-F.Map list item number_ body) scope h =
    map_grows g (λ n x. node_place (item_scope item number_ scope n x) body.0) (out-Value (value_of list scope))
cases g (Node-F.Host name ps es) scope h =
    ap₂ (λ (qs : List (named.Entry Node)) (ks : List Tree). opened (s.Element name.text (attributes_of g.prefix qs scope) ks))
    (props_bare g (map (bare g) ps)) (kids_grow g (map (λ e. e.0) es) scope)
cases g (Node-F.Call name ps) scope h =
    ap (λ (qs : List (named.Entry Node)). g.trees_of name.text (args_of qs scope)) (props_bare g (map (bare g) ps))
    ∙ g.grows name.text (args_of (map (bare g) ps) scope) (or_and_left g.free (has_name name.text g.names) _ h)
cases g (Node-F.Fragment es) scope h = fragment_grows g es scope h
cases g (Node-F.Suspense name ps es) scope h =
    ap (λ (f : Tree). opened (s.Boundary (tree_at g.prefix g.trees_of (nodes_place scope (map (λ e. e.0) es))) f))
    (fallback_grows g scope (codes "fallback") (map (bare g) ps))

layer : (g : Growing) (y : Node-F (Known g)) → Grows g (roll-Node (bare_layer g y))
layer g y = λ h scope.
    ap (λ (f : Names → Opened Tree). f scope) (para-roll-Node (Names → Opened Tree) (node_step trees g.prefix g.trees_of) (bare_layer g y))
    ∙ cases g y scope (ap (λ b. g.free || b) (sym (fold-roll-Node Bool (calls_step g.names) (bare_layer g y))) ∙ h)
    ∙ ap (grow g) (sym (node-opens g.prefix g.places_of (roll-Node (bare_layer g y)) scope
    ∙ ap (λ (z : Node-F Node). node_layer g.prefix g.places_of z scope) (out-roll-Node (bare_layer g y))))

pub node-grows : (g : Growing) (x : Node) → Grows g x
node-grows g = ind-Node (Grows g) (λ x y is. subst (λ (z : Node-F Node). Grows g (roll-Node z)) is (layer g y))

-- nodes beside each other
pub children-grow : (g : Growing) → g.free ≡ true → (xs : List Node) (scope : Names)
    → open_children keep_tree (map (under g) xs) scope ≡ grow g (children_layer g.prefix g.places_of xs scope)
children-grow g free [] scope = refl
children-grow g free (x ∷ []) scope = node-grows g x (ap (λ b. b || calls_only g.names x) free) scope
children-grow g free (x ∷ y ∷ xs) scope = ap (λ (ks : List Tree). opened (s.Array ks)) (kids_grow g (x ∷ y ∷ xs) scope)
