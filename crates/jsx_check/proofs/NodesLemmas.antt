-- The events of nodes, one after the other.
use Rattle.std.proofs.Common.{◌≡◌, ℕ, ◌+◌, ◌<◌, Bool, Option, Some, None, List, [], ◌∷◌, ◌++◌, length, map, take, drop, get_or, refl, sym, ◌∙◌, ap, append_assoc}
use Rattle.std.specs.List.{flat_map}
use Rattle.std.proofs.lemmas.List.{drop_more, map-append, take_more}
use Rattle.jsx_syntax.specs.Rules.{Owner, html, suspense, component, has_name, names_of}
use Rattle.jsx_syntax.specs.declared.expr.Expr.{Expr}
use Rattle.jsx_syntax.specs.declared.name.Entry.{Entry}
use Rattle.jsx_syntax.specs.declared.name.Name.{Name}
use Rattle.jsx_syntax.specs.declared.node.Node.{Node}
use Rattle.jsx_syntax.specs.declared.node.Node.TheFolds.{fold-roll-Node}
use Rattle.jsx_syntax.specs.declared.node.Node.TheOpen as layer
use Rattle.jsx_syntax.specs.declared.node.Node.TheVariants as variant
use Rattle.jsx_check.specs.Events.{Event, opens, calls, bounds, uses, expression_events, attribute_events, all_events, map_events, node_events, node_events_step}
use Rattle.jsx_check.specs.SeenEvents.{attribute_event, bind_events, names_onto, of_entry, unbind_events}

pub pushed : (old mid new d e all : List Event) → mid ≡ old ++ d → d ++ e ≡ all → new ≡ mid ++ e → new ≡ old ++ all
pushed old mid new d e all m is n = n ∙ (ap (λ x. x ++ e) m ∙ (append_assoc old d e ∙ ap (λ x. old ++ x) is))

step_of : (x : layer.Node-F Node) → node_events (Rattle.jsx_syntax.specs.declared.node.Node.TheViews.roll-Node x) ≡ node_events_step (Rattle.jsx_syntax.specs.declared.node.Node.TheFolds.map-Node Node (List Event) node_events x)
step_of = fold-roll-Node (List Event) node_events_step

pub node_events-Value : (x : Expr) → node_events (variant.Value x) ≡ expression_events x
node_events-Value x = ap node_events (sym (variant.rolls-Value x)) ∙ step_of (layer.Value x)

pub node_events-Choose : (test : Expr) (one other : Node) → node_events (variant.Choose test one other) ≡ expression_events test ++ (node_events one ++ node_events other)
node_events-Choose test one other = ap node_events (sym (variant.rolls-Choose test one other)) ∙ step_of (layer.Choose test one other)

pub node_events-And : (left : List Expr) (last : Node) → node_events (variant.And left last) ≡ flat_map expression_events left ++ node_events last
node_events-And left last = ap node_events (sym (variant.rolls-And left last)) ∙ step_of (layer.And left last)

pub node_events-Or : (left : List Expr) (last : Node) → node_events (variant.Or left last) ≡ flat_map expression_events left ++ node_events last
node_events-Or left last = ap node_events (sym (variant.rolls-Or left last)) ∙ step_of (layer.Or left last)

pub node_events-Array : (items : List Node) → node_events (variant.Array items) ≡ all_events (map node_events items)
node_events-Array items = ap node_events (sym (variant.rolls-Array items)) ∙ step_of (layer.Array items)

pub node_events-Fragment : (kids : List Node) → node_events (variant.Fragment kids) ≡ all_events (map node_events kids)
node_events-Fragment kids = ap node_events (sym (variant.rolls-Fragment kids)) ∙ step_of (layer.Fragment kids)

pub node_events-Map : (list : Expr) (item : Name) (number : Option Name) (body : Node)
    → node_events (variant.Map list item number body) ≡ expression_events list ++ map_events item number (node_events body)
node_events-Map list item number body = ap node_events (sym (variant.rolls-Map list item number body)) ∙ step_of (layer.Map list item number body)

pub node_events-Host : (name : Name) (props : List (Entry Node)) (kids : List Node)
    → node_events (variant.Host name props kids) ≡ opens name ∷ (attribute_events html [] (map (of_entry node_events) props) ++ all_events (map node_events kids))
node_events-Host name props kids = ap node_events (sym (variant.rolls-Host name props kids)) ∙ step_of (layer.Host name props kids)

pub node_events-Call : (name : Name) (props : List (Entry Node))
    → node_events (variant.Call name props) ≡ calls name ∷ attribute_events (component name.text) [] (map (of_entry node_events) props)
node_events-Call name props = ap node_events (sym (variant.rolls-Call name props)) ∙ step_of (layer.Call name props)

pub node_events-Suspense : (name : Name) (props : List (Entry Node)) (kids : List Node)
    → node_events (variant.Suspense name props kids) ≡ bounds name ∷ (attribute_events suspense [] (map (of_entry node_events) props) ++ all_events (map node_events kids))
node_events-Suspense name props kids = ap node_events (sym (variant.rolls-Suspense name props kids)) ∙ step_of (layer.Suspense name props kids)

pub map-uses : (exprs : List Expr) → map uses (flat_map names_of exprs) ≡ flat_map expression_events exprs
map-uses [] = refl
map-uses (x ∷ xs) = map-append uses (names_of x) (flat_map names_of xs) ∙ ap (λ (es : List Event). expression_events x ++ es) (map-uses xs)

pub map_events-is : (item : Name) (number : Option Name) (body : List Event) → bind_events item number ++ (body ++ unbind_events number) ≡ map_events item number body
map_events-is item None body = refl
map_events-is item (Some number) body = refl

names_onto-push : (before : List (List ℕ)) (es : List (Entry Node)) (e : Entry Node) → names_onto before (es ++ e ∷ []) ≡ e.name.text ∷ names_onto before es
names_onto-push before [] e = refl
names_onto-push before (x ∷ es) e = names_onto-push (x.name.text ∷ before) es e

pub names_onto-more : (props : List (Entry Node)) (i : ℕ) (prop : Entry Node) → i < length props → get_or props i prop ≡ prop
    → names_onto [] (take (i + 1) props) ≡ prop.name.text ∷ names_onto [] (take i props)
names_onto-more props i prop l is =
    ap (names_onto []) (take_more props i prop l ∙ ap (λ (p : Entry Node). take i props ++ p ∷ []) is) ∙ names_onto-push [] (take i props) prop

-- one attribute more
pub attributes_on : (owner : Owner) (props : List (Entry Node)) (i : ℕ) (prop : Entry Node) (twice : Bool) (old new all : List Event) → i < length props
    → get_or props i prop ≡ prop → twice ≡ has_name prop.name.text (names_onto [] (take i props))
    → new ≡ old ++ attribute_event owner twice prop.name prop.value
    → old ++ attribute_events owner (names_onto [] (take i props)) (map (of_entry node_events) (drop i props)) ≡ all
    → new ++ attribute_events owner (names_onto [] (take (i + 1) props)) (map (of_entry node_events) (drop (i + 1) props)) ≡ all
attributes_on owner props i prop twice old new all l is t n left =
    let rest : List (Entry (List Event)) = map (of_entry node_events) (drop (i + 1) props) in
    let before : List (List ℕ) = names_onto [] (take i props) in
    let here : drop i props ≡ prop ∷ drop (i + 1) props = drop_more props i prop l ∙ ap (λ (p : Entry Node). p ∷ drop (i + 1) props) is in
    let seen : names_onto [] (take (i + 1) props) ≡ prop.name.text ∷ before =
    names_onto-more props i prop l is in
    ap (λ (b : List (List ℕ)). new ++ attribute_events owner b rest) seen
    ∙ (ap (λ (x : List Event). x ++ attribute_events owner (prop.name.text ∷ before) rest) n
    ∙ (append_assoc old (attribute_event owner twice prop.name prop.value) (attribute_events owner (prop.name.text ∷ before) rest)
    ∙ (ap (λ (b : Bool). old ++ (attribute_event owner b prop.name prop.value ++ attribute_events owner (prop.name.text ∷ before) rest)) t
    ∙ (sym (ap (λ (ps : List (Entry Node)). old ++ attribute_events owner before (map (of_entry node_events) ps)) here) ∙ left))))
