-- The depths of nodes.
use Rattle.std.proofs.Common.{◌≡◌, ℕ, ◌+◌, ◌<◌, max, Bool, true, false, cond, if◌then◌else◌, Option, Some, List, [], ◌∷◌, ◌++◌, length, map, take, reverse, get_or, Bor, sym, ◌∙◌, ap, arith}
use Rattle.std.specs.Option.{unwrap_or}
use Rattle.std.specs.Str.{bytes_eq}
use Rattle.std.specs.Ordering.{nat_cmp}
use Rattle.std.specs.Cmp.Lexicographic.{slice_cmp}
use Rattle.std.specs.BTreeMap.{BTreeMap, UpdatesBy}
use Rattle.std.proofs.lemmas.Map.Text.{btree_map_updates_str}
use Rattle.std.proofs.lemmas.List.{map-append, take_more, reverse-append}
use Rattle.jsx_syntax.specs.Rules.{deepest, deepest_value, depth_of, depth_step}
use Rattle.jsx_syntax.specs.declared.expr.Expr.{Expr}
use Rattle.jsx_syntax.specs.declared.file.Component.{Component}
use Rattle.jsx_syntax.specs.declared.name.Entry.{Entry}
use Rattle.jsx_syntax.specs.declared.name.Name.{Name}
use Rattle.jsx_syntax.specs.declared.node.Node.{Node}
use Rattle.jsx_syntax.specs.declared.node.Node.TheFolds.{fold-roll-Node}
use Rattle.jsx_syntax.specs.declared.node.Node.TheOpen as layer
use Rattle.jsx_syntax.specs.declared.node.Node.TheVariants as variant
use Rattle.jsx_check.specs.Checks.{told_as}
use Rattle.jsx_check.specs.Depths.{Tells, node_depth}
use Rattle.jsx_check.specs.SeenEvents.{of_entry}
use Rattle.jsx_check.specs.SeenNames.{value_at}
use Rattle.jsx_check.proofs.CountsLemmas.{bytes_eq-sym}

module _ (called : List ℕ → ℕ) where
  step_of : (x : layer.Node-F Node) → node_depth called (Rattle.jsx_syntax.specs.declared.node.Node.TheViews.roll-Node x)
      ≡ depth_step called (Rattle.jsx_syntax.specs.declared.node.Node.TheFolds.map-Node Node ℕ (node_depth called) x)
  step_of = fold-roll-Node ℕ (depth_step called)

  pub node_depth-Value : (x : Expr) → node_depth called (variant.Value x) ≡ 1
  node_depth-Value x = ap (node_depth called) (sym (variant.rolls-Value x)) ∙ step_of (layer.Value x)

  pub node_depth-Choose : (test : Expr) (one other : Node)
      → node_depth called (variant.Choose test one other) ≡ 1 + max (node_depth called one) (node_depth called other)
  node_depth-Choose test one other = ap (node_depth called) (sym (variant.rolls-Choose test one other)) ∙ step_of (layer.Choose test one other)

  pub node_depth-And : (left : List Expr) (last : Node) → node_depth called (variant.And left last) ≡ 1 + node_depth called last
  node_depth-And left last = ap (node_depth called) (sym (variant.rolls-And left last)) ∙ step_of (layer.And left last)

  pub node_depth-Or : (left : List Expr) (last : Node) → node_depth called (variant.Or left last) ≡ 1 + node_depth called last
  node_depth-Or left last = ap (node_depth called) (sym (variant.rolls-Or left last)) ∙ step_of (layer.Or left last)

  pub node_depth-Array : (items : List Node) → node_depth called (variant.Array items) ≡ 1 + deepest (map (node_depth called) items)
  node_depth-Array items = ap (node_depth called) (sym (variant.rolls-Array items)) ∙ step_of (layer.Array items)

  pub node_depth-Map : (list : Expr) (item : Name) (number : Option Name) (body : Node)
      → node_depth called (variant.Map list item number body) ≡ 1 + node_depth called body
  node_depth-Map list item number body = ap (node_depth called) (sym (variant.rolls-Map list item number body)) ∙ step_of (layer.Map list item number body)

  pub node_depth-Host : (name : Name) (props : List (Entry Node)) (kids : List Node) → node_depth called (variant.Host name props kids)
      ≡ 1 + max (deepest_value (map (of_entry (node_depth called)) props)) (deepest (map (node_depth called) kids))
  node_depth-Host name props kids = ap (node_depth called) (sym (variant.rolls-Host name props kids)) ∙ step_of (layer.Host name props kids)

  pub node_depth-Call : (name : Name) (props : List (Entry Node)) → node_depth called (variant.Call name props) ≡ 1 + called name.text
  node_depth-Call name props = ap (node_depth called) (sym (variant.rolls-Call name props)) ∙ step_of (layer.Call name props)

  pub node_depth-Fragment : (kids : List Node) → node_depth called (variant.Fragment kids) ≡ 1 + deepest (map (node_depth called) kids)
  node_depth-Fragment kids = ap (node_depth called) (sym (variant.rolls-Fragment kids)) ∙ step_of (layer.Fragment kids)

  pub node_depth-Suspense : (name : Name) (props : List (Entry Node)) (kids : List Node) → node_depth called (variant.Suspense name props kids)
      ≡ 1 + max (deepest_value (map (of_entry (node_depth called)) props)) (deepest (map (node_depth called) kids))
  node_depth-Suspense name props kids = ap (node_depth called) (sym (variant.rolls-Suspense name props kids)) ∙ step_of (layer.Suspense name props kids)

-- the deepest of one more
deepest-push : (ds : List ℕ) (d : ℕ) → deepest (ds ++ d ∷ []) ≡ max (deepest ds) d
deepest-push [] d = omega arith
deepest-push (x ∷ ds) d = ap (max x) (deepest-push ds d) ∙ omega arith

deepest_value-push : (es : List (Entry ℕ)) (e : Entry ℕ) → deepest_value (es ++ e ∷ []) ≡ max (deepest_value es) e.value
deepest_value-push [] e = omega arith
deepest_value-push (x ∷ es) e = ap (max x.value) (deepest_value-push es e) ∙ omega arith

pub nodes_on : (called : List ℕ → ℕ) (nodes : List Node) (i : ℕ) (node : Node) (most new depth : ℕ) → i < length nodes → get_or nodes i node ≡ node
    → most ≡ told_as (deepest (map (node_depth called) (take i nodes))) → depth ≡ told_as (node_depth called node)
    → ((m n : ℕ) → most ≡ told_as m → depth ≡ told_as n → new ≡ told_as (max m n))
    → new ≡ told_as (deepest (map (node_depth called) (take (i + 1) nodes)))
nodes_on called nodes i node most new depth l is m d g =
    g (deepest (map (node_depth called) (take i nodes))) (node_depth called node) m d
    ∙ ap told_as (sym (ap (λ (ns : List Node). deepest (map (node_depth called) ns)) (take_more nodes i node l ∙ ap (λ (n : Node). take i nodes ++ n ∷ []) is)
    ∙ (ap deepest (map-append (node_depth called) (take i nodes) (node ∷ [])) ∙ deepest-push (map (node_depth called) (take i nodes)) (node_depth called node))))

pub values_on : (called : List ℕ → ℕ) (props : List (Entry Node)) (i : ℕ) (prop : Entry Node) (most new depth : ℕ) → i < length props → get_or props i prop ≡ prop
    → most ≡ told_as (deepest_value (map (of_entry (node_depth called)) (take i props))) → depth ≡ told_as (node_depth called prop.value)
    → ((m n : ℕ) → most ≡ told_as m → depth ≡ told_as n → new ≡ told_as (max m n))
    → new ≡ told_as (deepest_value (map (of_entry (node_depth called)) (take (i + 1) props)))
values_on called props i prop most new depth l is m d g =
    let f : Entry Node → Entry ℕ = of_entry (node_depth called) in
    g (deepest_value (map f (take i props))) (node_depth called prop.value) m d
    ∙ ap told_as (sym (ap (λ (ns : List (Entry Node)). deepest_value (map f ns)) (take_more props i prop l ∙ ap (λ (n : Entry Node). take i props ++ n ∷ []) is)
    ∙ (ap deepest_value (map-append f (take i props) (prop ∷ [])) ∙ deepest_value-push (map f (take i props)) (f prop))))

-- a component more
chosen : (b : Bool) (n d k : ℕ) (o : Option ℕ) → n ≡ told_as d → unwrap_or o 0 ≡ told_as k → unwrap_or (cond b (Some n) o) 0 ≡ told_as (if b then d else k)
chosen true n d k o e f = e
chosen false n d k o e f = f

pub tells_added : (m new : BTreeMap (Bor (List ℕ)) ℕ) (bytes : List ℕ) (n : ℕ) (cs : List Component) (c : Component)
    → UpdatesBy (λ x y. slice_cmp nat_cmp x.now y.now) (λ k. slice_cmp nat_cmp bytes k.now) m new (Some n)
    → bytes ≡ c.name.text → n ≡ told_as (node_depth (depth_of cs) c.result) → Tells m (depth_of cs) → Tells new (depth_of (c ∷ cs))
tells_added m new bytes n cs c u is depth t name =
    ap (λ (o : Option ℕ). unwrap_or o 0) (btree_map_updates_str bytes m new (Some n) u name)
    ∙ (ap (λ (b : Bool). unwrap_or (cond b (Some n) (value_at m name)) 0) (bytes_eq-sym bytes name ∙ ap (bytes_eq name) is)
    ∙ chosen (bytes_eq name c.name.text) n (node_depth (depth_of cs) c.result) (depth_of cs name) (value_at m name) depth (t name))

pub reverse_more : (cs : List Component) (i : ℕ) (c : Component) → i < length cs → get_or cs i c ≡ c → reverse (take (i + 1) cs) ≡ c ∷ reverse (take i cs)
reverse_more cs i c l is = ap reverse (take_more cs i c l ∙ ap (λ (x : Component). take i cs ++ x ∷ []) is) ∙ reverse-append (take i cs) (c ∷ [])
