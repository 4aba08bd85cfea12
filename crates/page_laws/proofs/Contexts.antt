-- A forest around a part of it: what is found, counted or changed in the part alone is so in the whole.
use Rattle.std.proofs.Common.{◌≡◌, ℕ, ◌+◌, ◌==◌, eqb, Bool, true, false, if◌then◌else◌, Option, Some, None, List, refl, ap, ◌∙◌, arith}
use Rattle.std.proofs.lemmas.Bool.{cond-false}
use Rattle.dom_forest.specs.Forest.{Forest, empty, tree, times, or_else, or_id, from, previous_after}
use Rattle.dom_forest.specs.Edits.{with_change}
use Rattle.dom_forest.specs.Ids.{has_id, element_with}
use Rattle.dom_forest.specs.declared.node.NewNode.{NewNode}
use Rattle.document_machine.proofs.Spots.{absent}
use Rattle.page_laws.specs.Nodes.{Nodes, node, nodes_of, id_count}
use Rattle.page_laws.proofs.NodesLemmas.{element_with-none, or_id-none}

-- A forest with a gap: here, among the children of a node, or among the later siblings of one.
pub data Context : Type 0 where
  here : Context
  under : ℕ → NewNode → Context → Forest → Context
  after : ℕ → NewNode → Forest → Context → Context

abbrev pub plug : Context → Forest → Forest
plug here f = f
plug (under i x c l) f = tree i x (plug c f) l
plug (after i x k c) f = tree i x k (plug c f)

abbrev pub plug_nodes : Context → Nodes → Nodes
plug_nodes here n = n
plug_nodes (under i x c l) n = node x (plug_nodes c n) (nodes_of l)
plug_nodes (after i x k c) n = node x (nodes_of k) (plug_nodes c n)

abbrev pub around : ℕ → Context → ℕ
around n here = 0
around n (under i x c l) = (if i == n then 1 else 0) + around n c + times n l
around n (after i x k c) = (if i == n then 1 else 0) + times n k + around n c

abbrev pub around_id : List ℕ → Context → ℕ
around_id id here = 0
around_id id (under i x c l) = (if has_id id x then 1 else 0) + around_id id c + id_count id (nodes_of l)
around_id id (after i x k c) = (if has_id id x then 1 else 0) + id_count id (nodes_of k) + around_id id c

pub nodes_of-plug : (c : Context) (f : Forest) → nodes_of (plug c f) ≡ plug_nodes c (nodes_of f)
nodes_of-plug here f = refl
nodes_of-plug (under i x c l) f = ap (λ k. node x k (nodes_of l)) (nodes_of-plug c f)
nodes_of-plug (after i x k c) f = ap (node x (nodes_of k)) (nodes_of-plug c f)

pub times-plug : (n : ℕ) (c : Context) (f : Forest) → times n (plug c f) ≡ around n c + times n f
times-plug n here f = omega arith
times-plug n (under i x c l) f = omega (arith, times-plug n c f)
times-plug n (after i x k c) f = omega (arith, times-plug n c f)

pub id_count-plug : (id : List ℕ) (c : Context) (f : Nodes) → id_count id (plug_nodes c f) ≡ around_id id c + id_count id f
id_count-plug id here f = omega arith
id_count-plug id (under i x c l) f = omega (arith, id_count-plug id c f)
id_count-plug id (after i x k c) f = omega (arith, id_count-plug id c f)

abbrev Change : Type 0
Change = NewNode → Forest → Forest → Forest

changed_under : (n i : ℕ) (g : Change) (x : NewNode) (kids kids' l : Forest) (a : ℕ) (b : Bool) → (i == n) ≡ b → (if b then 1 else 0) + a + times n l ≡ 0
    → (a ≡ 0 → with_change n g kids ≡ kids') → with_change n g (tree i x kids l) ≡ tree i x kids' l
changed_under n i g x kids kids' l a true e z h = absurd (omega arith)
changed_under n i g x kids kids' l a false e z h =
    cond-false (eqb i n) _ _ e ∙ ap (λ y. tree i x y (with_change n g l)) (h (omega arith)) ∙ ap (tree i x kids') ((absent n l (omega arith)).same g)

changed_after : (n i : ℕ) (g : Change) (x : NewNode) (k later later' : Forest) (a : ℕ) (b : Bool) → (i == n) ≡ b → (if b then 1 else 0) + times n k + a ≡ 0
    → (a ≡ 0 → with_change n g later ≡ later') → with_change n g (tree i x k later) ≡ tree i x k later'
changed_after n i g x k later later' a true e z h = absurd (omega arith)
changed_after n i g x k later later' a false e z h =
    cond-false (eqb i n) _ _ e ∙ ap (λ y. tree i x y (with_change n g later)) ((absent n k (omega arith)).same g) ∙ ap (tree i x k) (h (omega arith))

pub with_change-plug : (n : ℕ) (g : NewNode → Forest → Forest → Forest) (c : Context) (f : Forest) → around n c ≡ 0 → with_change n g (plug c f) ≡ plug c (with_change n g f)
with_change-plug n g here f z = refl
with_change-plug n g (under i x c l) f z = changed_under n i g x (plug c f) (plug c (with_change n g f)) l (around n c) (i == n) refl z (with_change-plug n g c f)
with_change-plug n g (after i x k c) f z = changed_after n i g x k (plug c f) (plug c (with_change n g f)) (around n c) (i == n) refl z (with_change-plug n g c f)

or_else-empty : (f : Forest) → or_else f empty ≡ f
or_else-empty empty = refl
or_else-empty (tree i x k l) = refl

from_under : (n i : ℕ) (x : NewNode) (kids part l : Forest) (a : ℕ) (b : Bool) → (i == n) ≡ b → (if b then 1 else 0) + a + times n l ≡ 0
    → (a ≡ 0 → from n kids ≡ part) → from n (tree i x kids l) ≡ part
from_under n i x kids part l a true e z h = absurd (omega arith)
from_under n i x kids part l a false e z h =
    cond-false (eqb i n) _ _ e ∙ ap (λ y. or_else y (from n l)) (h (omega arith)) ∙ ap (or_else part) ((absent n l (omega arith)).from_is) ∙ or_else-empty part

from_after : (n i : ℕ) (x : NewNode) (k later part : Forest) (a : ℕ) (b : Bool) → (i == n) ≡ b → (if b then 1 else 0) + times n k + a ≡ 0
    → (a ≡ 0 → from n later ≡ part) → from n (tree i x k later) ≡ part
from_after n i x k later part a true e z h = absurd (omega arith)
from_after n i x k later part a false e z h =
    cond-false (eqb i n) _ _ e ∙ ap (λ y. or_else y (from n later)) ((absent n k (omega arith)).from_is) ∙ h (omega arith)

pub from-plug : (n : ℕ) (c : Context) (f : Forest) → around n c ≡ 0 → from n (plug c f) ≡ from n f
from-plug n here f z = refl
from-plug n (under i x c l) f z = from_under n i x (plug c f) (from n f) l (around n c) (i == n) refl z (from-plug n c f)
from-plug n (after i x k c) f z = from_after n i x k (plug c f) (from n f) (around n c) (i == n) refl z (from-plug n c f)

-- no node with the number, no sibling before it
pub previous_after-none : (b : Option ℕ) (n : ℕ) (f : Forest) → times n f ≡ 0 → previous_after b n f ≡ None
previous_after-none b n empty z = refl
previous_after-none b n (tree i x k l) z = none_of (i == n) refl z (previous_after-none None n k) (previous_after-none (Some i) n l) where
  none_of : (t : Bool) → (i == n) ≡ t → (if t then 1 else 0) + times n k + times n l ≡ 0
      → (times n k ≡ 0 → previous_after None n k ≡ None) → (times n l ≡ 0 → previous_after (Some i) n l ≡ None)
      → (if t then b else or_id (previous_after None n k) (previous_after (Some i) n l)) ≡ None
  none_of true e z h g = absurd (omega arith)
  none_of false e z h g = ap (λ o. or_id o (previous_after (Some i) n l)) (h (omega arith)) ∙ g (omega arith)

previous_under : (b : Option ℕ) (n m i : ℕ) (x : NewNode) (kids l : Forest) (a : ℕ) (t : Bool) → (i == n) ≡ t → (if t then 1 else 0) + a + times n l ≡ 0
    → (a ≡ 0 → previous_after None n kids ≡ Some m) → previous_after b n (tree i x kids l) ≡ Some m
previous_under b n m i x kids l a true e z h = absurd (omega arith)
previous_under b n m i x kids l a false e z h =
    cond-false (eqb i n) _ _ e ∙ ap (λ o. or_id o (previous_after (Some i) n l)) (h (omega arith))

previous_past : (b : Option ℕ) (n m i : ℕ) (x : NewNode) (k later : Forest) (a : ℕ) (t : Bool) → (i == n) ≡ t → (if t then 1 else 0) + times n k + a ≡ 0
    → (a ≡ 0 → previous_after (Some i) n later ≡ Some m) → previous_after b n (tree i x k later) ≡ Some m
previous_past b n m i x k later a true e z h = absurd (omega arith)
previous_past b n m i x k later a false e z h =
    cond-false (eqb i n) _ _ e ∙ ap (λ o. or_id o (previous_after (Some i) n later)) (previous_after-none None n k (omega arith)) ∙ h (omega arith)

pub previous-plug : (n m : ℕ) (f : Forest) → ((b : Option ℕ) → previous_after b n f ≡ Some m) → (c : Context) (b : Option ℕ) → around n c ≡ 0
    → previous_after b n (plug c f) ≡ Some m
previous-plug n m f h here b z = h b
previous-plug n m f h (under i x c l) b z = previous_under b n m i x (plug c f) l (around n c) (i == n) refl z (previous-plug n m f h c None)
previous-plug n m f h (after i x k c) b z = previous_past b n m i x k (plug c f) (around n c) (i == n) refl z (previous-plug n m f h c (Some i))

found_under : (id : List ℕ) (i : ℕ) (x : NewNode) (kids l : Forest) (part : Option ℕ) (a : ℕ) (b : Bool) → (if b then 1 else 0) + a + id_count id (nodes_of l) ≡ 0
    → (a ≡ 0 → element_with id kids ≡ part) → (if b then Some i else or_id (element_with id kids) (element_with id l)) ≡ part
found_under id i x kids l part a true z h = absurd (omega arith)
found_under id i x kids l part a false z h =
    ap (λ o. or_id o (element_with id l)) (h (omega arith)) ∙ ap (or_id part) (element_with-none id l (omega arith)) ∙ or_id-none part

found_past : (id : List ℕ) (i : ℕ) (x : NewNode) (k later : Forest) (part : Option ℕ) (a : ℕ) (b : Bool) → (if b then 1 else 0) + id_count id (nodes_of k) + a ≡ 0
    → (a ≡ 0 → element_with id later ≡ part) → (if b then Some i else or_id (element_with id k) (element_with id later)) ≡ part
found_past id i x k later part a true z h = absurd (omega arith)
found_past id i x k later part a false z h =
    ap (λ o. or_id o (element_with id later)) (element_with-none id k (omega arith)) ∙ h (omega arith)

pub element_with-plug : (id : List ℕ) (c : Context) (f : Forest) → around_id id c ≡ 0 → element_with id (plug c f) ≡ element_with id f
element_with-plug id here f z = refl
element_with-plug id (under i x c l) f z = found_under id i x (plug c f) l (element_with id f) (around_id id c) (has_id id x) z (element_with-plug id c f)
element_with-plug id (after i x k c) f z = found_past id i x k (plug c f) (element_with id f) (around_id id c) (has_id id x) z (element_with-plug id c f)

-- parts in which the same is found
pub element_with-same : (id : List ℕ) (c : Context) (f g : Forest) → element_with id f ≡ element_with id g → element_with id (plug c f) ≡ element_with id (plug c g)
element_with-same id here f g e = e
element_with-same id (under i x c l) f g e = ap (λ o. if has_id id x then Some i else or_id o (element_with id l)) (element_with-same id c f g e)
element_with-same id (after i x k c) f g e = ap (λ o. if has_id id x then Some i else or_id (element_with id k) o) (element_with-same id c f g e)
