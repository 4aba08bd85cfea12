-- Nodes without ids: joins, numbers and counts.
use Rattle.std.proofs.Common.{◌≡◌, ℕ, ◌+◌, Bool, true, false, if◌then◌else◌, Option, Some, None, List, refl, sym, ap, ◌∙◌, arith}
use Rattle.dom_forest.specs.Forest.{Forest, empty, tree, count, joined_forests, or_id}
use Rattle.dom_forest.specs.Edits.{numbered_from}
use Rattle.dom_forest.specs.Ids.{has_id, element_with}
use Rattle.page_laws.specs.Nodes.{Nodes, none, node, nodes_of, forest_of_nodes, joined_nodes, id_count}

pub joined_nodes-assoc : (a b c : Nodes) → joined_nodes (joined_nodes a b) c ≡ joined_nodes a (joined_nodes b c)
joined_nodes-assoc none b c = refl
joined_nodes-assoc (node x k l) b c = ap (node x k) (joined_nodes-assoc l b c)

pub joined_nodes-none : (a : Nodes) → joined_nodes a none ≡ a
joined_nodes-none none = refl
joined_nodes-none (node x k l) = ap (node x k) (joined_nodes-none l)

pub nodes_of-joined : (f g : Forest) → nodes_of (joined_forests f g) ≡ joined_nodes (nodes_of f) (nodes_of g)
nodes_of-joined empty g = refl
nodes_of-joined (tree i x k l) g = ap (node x (nodes_of k)) (nodes_of-joined l g)

pub nodes_of-numbered_from : (n : ℕ) (f : Forest) → nodes_of (numbered_from n f) ≡ nodes_of f
nodes_of-numbered_from n empty = refl
nodes_of-numbered_from n (tree i x k l) =
    ap (λ y. node x y (nodes_of (numbered_from (n + 1 + count k) l))) (nodes_of-numbered_from (n + 1) k)
    ∙ ap (node x (nodes_of k)) (nodes_of-numbered_from (n + 1 + count k) l)

pub nodes_of-forest_of_nodes : (n : Nodes) → nodes_of (forest_of_nodes n) ≡ n
nodes_of-forest_of_nodes none = refl
nodes_of-forest_of_nodes (node x k l) =
    ap (λ y. node x y (nodes_of (forest_of_nodes l))) (nodes_of-forest_of_nodes k) ∙ ap (node x k) (nodes_of-forest_of_nodes l)

count-forest_of_nodes : (f : Forest) → count (forest_of_nodes (nodes_of f)) ≡ count f
count-forest_of_nodes empty = refl
count-forest_of_nodes (tree i x k l) = omega (arith, count-forest_of_nodes k, count-forest_of_nodes l)

pub numbered_from-forest_of_nodes : (n : ℕ) (f : Forest) → numbered_from n (forest_of_nodes (nodes_of f)) ≡ numbered_from n f
numbered_from-forest_of_nodes n empty = refl
numbered_from-forest_of_nodes n (tree i x k l) =
    ap (λ y. tree n x y (numbered_from (n + 1 + count (forest_of_nodes (nodes_of k))) (forest_of_nodes (nodes_of l)))) (numbered_from-forest_of_nodes (n + 1) k)
    ∙ ap (λ m. tree n x (numbered_from (n + 1) k) (numbered_from (n + 1 + m) (forest_of_nodes (nodes_of l)))) (count-forest_of_nodes k)
    ∙ ap (tree n x (numbered_from (n + 1) k)) (numbered_from-forest_of_nodes (n + 1 + count k) l)

pub unnumbered-joined : (a b : Nodes) → forest_of_nodes (joined_nodes a b) ≡ joined_forests (forest_of_nodes a) (forest_of_nodes b)
unnumbered-joined none b = refl
unnumbered-joined (node x k l) b = ap (tree 0 x (forest_of_nodes k)) (unnumbered-joined l b)

pub id_count-joined : (id : List ℕ) (a b : Nodes) → id_count id (joined_nodes a b) ≡ id_count id a + id_count id b
id_count-joined id none b = omega arith
id_count-joined id (node x k l) b = omega (arith, id_count-joined id l b)

-- What is found by an id

pub or_id-none : (a : Option ℕ) → or_id a None ≡ a
or_id-none None = refl
or_id-none (Some n) = refl

pub or_id-assoc : (a b c : Option ℕ) → or_id (or_id a b) c ≡ or_id a (or_id b c)
or_id-assoc None b c = refl
or_id-assoc (Some n) b c = refl

none_tree : (b : Bool) (i k l : ℕ) (in_kids in_later : Option ℕ) → (if b then 1 else 0) + k + l ≡ 0
    → (k ≡ 0 → in_kids ≡ None) → (l ≡ 0 → in_later ≡ None) → (if b then Some i else or_id in_kids in_later) ≡ None
none_tree true i k l in_kids in_later z f g = absurd (omega arith)
none_tree false i k l in_kids in_later z f g = ap (λ x. or_id x in_later) (f (omega arith)) ∙ g (omega arith)

-- No element has the id.
pub element_with-none : (id : List ℕ) (forest : Forest) → id_count id (nodes_of forest) ≡ 0 → element_with id forest ≡ None
element_with-none id empty z = refl
element_with-none id (tree i x k l) z =
    none_tree (has_id id x) i (id_count id (nodes_of k)) (id_count id (nodes_of l)) (element_with id k) (element_with id l) z
    (element_with-none id k) (element_with-none id l)

zero_tree : (b : Bool) (i k l : ℕ) (in_kids in_later : Option ℕ) → (if b then Some i else or_id in_kids in_later) ≡ None
    → (in_kids ≡ None → k ≡ 0) → (in_later ≡ None → l ≡ 0) → (if b then 1 else 0) + k + l ≡ 0
zero_tree true i k l in_kids in_later e f g = absurd (let t : Some i ≡ None = e in cc)
zero_tree false i k l None in_later e f g = omega (arith, f refl, g e)
zero_tree false i k l (Some n) in_later e f g = absurd (let t : Some n ≡ None = e in cc)

pub id_count-zero : (id : List ℕ) (forest : Forest) → element_with id forest ≡ None → id_count id (nodes_of forest) ≡ 0
id_count-zero id empty e = refl
id_count-zero id (tree i x k l) e =
    zero_tree (has_id id x) i (id_count id (nodes_of k)) (id_count id (nodes_of l)) (element_with id k) (element_with id l) e
    (id_count-zero id k) (id_count-zero id l)

pub element_with-joined : (id : List ℕ) (a b : Forest) → element_with id (joined_forests a b) ≡ or_id (element_with id a) (element_with id b)
element_with-joined id empty b = refl
element_with-joined id (tree i x k l) b =
    ap (λ o. if has_id id x then Some i else or_id (element_with id k) o) (element_with-joined id l b)
    ∙ apart (has_id id x) i (element_with id k) (element_with id l) (element_with id b) where
      apart : (c : Bool) (i : ℕ) (k l b : Option ℕ) → (if c then Some i else or_id k (or_id l b)) ≡ or_id (if c then Some i else or_id k l) b
      apart true i k l b = refl
      apart false i k l b = sym (or_id-assoc k l b)
