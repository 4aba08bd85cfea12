-- `$RS` over a forest around a container and around a placeholder.
use Rattle.std.proofs.Common.{◌≡◌, ℕ, ◌+◌, ◌<◌, ◌≤◌, ◌==◌, nat_lt, true, false, if◌then◌else◌, inl, inr, Some, Ok, List, [], sym, ap, ◌∙◌, subst, arith}
use Rattle.std.proofs.lemmas.Bool.{cond-false, cases_lt}
use Rattle.dom_forest.specs.Forest.{Forest, empty, tree, times, joined_forests, or_id, from, first_tree, first_kids}
use Rattle.dom_forest.specs.Edits.{DomState, IsNumbered, with_change, numbered_from, without_node}
use Rattle.dom_forest.specs.Ids.{has_id, element_with}
use Rattle.dom_forest.specs.declared.node.NewNode.{NewNode}
use Rattle.fizz_instructions.specs.Bodies.{placeholder_id, segment_id}
use Rattle.document_machine.specs.Edits.{Edited, fill_placeholder, fill_with, fill_from, with_children_before, unless_open}
use Rattle.page_laws.specs.Nodes.{Nodes, nodes_of, joined_nodes, id_count}
use Rattle.page_laws.specs.DocumentEdits.{LeavesNodes}
use Rattle.page_laws.proofs.NodesLemmas.{nodes_of-joined, nodes_of-numbered_from, element_with-none}
use Rattle.page_laws.proofs.Contexts.{Context, plug, plug_nodes, around, nodes_of-plug, times-plug, with_change-plug, element_with-same}
use Rattle.page_laws.proofs.PagesLemmas.{one}
use Rattle.page_laws.proofs.MachineEdits.{one_self, times-numbered_from, with_change-past, first_once, from_first, changed_first, found_first, fewer}

-- the children of the node that was taken out, as they are put in
abbrev pub put_nodes : ℕ → ℕ → Forest → Forest
put_nodes next c forest = numbered_from next (first_kids (numbered_from 0 (first_tree (from c forest))))

pub put_nodes-of : (next c : ℕ) (forest : Forest) (x : NewNode) (k l : Forest) → from c forest ≡ tree c x k l → nodes_of (put_nodes next c forest) ≡ nodes_of k
put_nodes-of next c forest x k l e =
    nodes_of-numbered_from next (first_kids (numbered_from 0 (first_tree (from c forest))))
    ∙ ap (λ f. nodes_of (first_kids (numbered_from 0 (first_tree f)))) e ∙ nodes_of-numbered_from (0 + 1) k

-- an element is not found in what has none with the id
pub not_in : (id : List ℕ) (c : ℕ) (x : NewNode) (k l : Forest) → has_id id x ≡ false → id_count id (nodes_of k) ≡ 0 → element_with id (tree c x k l) ≡ element_with id l
not_in id c x k l none_here none_below =
    cond-false (has_id id x) _ _ none_here ∙ ap (λ o. or_id o (element_with id l)) (element_with-none id k none_below)

pub given_below : (dom : DomState) (n : ℕ) → IsNumbered dom → 0 < times n dom.forest → n < dom.next
given_below dom n numbered there = elim (cases_lt n dom.next) [
  | inl h ↦ h
  | inr h ↦ absurd (omega (arith, numbered.given n h))
]

not_inside : (n : ℕ) (refused done : Edited) → n ≡ 0 → (if nat_lt 0 n then refused else done) ≡ done
not_inside n refused done e = ap (λ m. if nat_lt 0 m then refused else done) e

module _ (C D : Context) (next c p : ℕ) (x y : NewNode) (k l m r : Forest)
    (numbered : IsNumbered (record { forest = plug C (tree c x k l); next = next }))
    (is : plug C l ≡ plug D (tree p y m r)) where
  abbrev whole : DomState
  whole = record { forest = plug C (tree c x k l); next = next }

  abbrev left : Forest
  left = plug C l

  left_once : (j : ℕ) → times j (plug D (tree p y m r)) ≤ 1
  left_once j = subst (λ f. times j f ≤ 1) is (fewer C c x k l numbered.once j)

  -- the placeholder is not in the container
  apart : times p (tree c x k empty) ≡ 0
  apart =
      let all = times-plug p C (tree c x k l) in
      let rest = times-plug p C l in
      let there : times p left ≡ around p D + (one (p == p) + times p m + times p r) = ap (times p) is ∙ times-plug p D (tree p y m r) in
      omega (arith, all, rest, there, one_self p, numbered.once p)

  old_id : p < next
  old_id = given_below whole p numbered
      (let there : times p left ≡ around p D + (one (p == p) + times p m + times p r) = ap (times p) is ∙ times-plug p D (tree p y m r) in
      omega (arith, times-plug p C (tree c x k l), times-plug p C l, there, one_self p))

  abbrev put : Forest
  put = put_nodes next c whole.forest

  abbrev filled_forest : Forest
  filled_forest = plug D (joined_forests put r)

  filled_is : (without_node p (with_children_before p c whole (without_node c whole))).forest ≡ filled_forest
  filled_is =
      let insert : NewNode → Forest → Forest → Forest = λ content kids later. joined_forests put (tree p content kids later) in
      let delete : NewNode → Forest → Forest → Forest = λ content kids later. later in
      let once = first_once D p y m r left_once in
      ap (λ f. with_change p delete (with_change p insert f)) (changed_first C c x k l numbered.once delete ∙ is)
      ∙ ap (with_change p delete) (changed_first D p y m r left_once insert)
      ∙ (with_change-plug p delete D (joined_forests put (tree p y m r)) once.0
      ∙ ap (plug D) (with_change-past p delete put y m r (times-numbered_from p next (first_kids (numbered_from 0 (first_tree (from c whole.forest)))) old_id)))

  pub fills : (prefix : List ℕ) (h : ℕ) (new rest : Nodes) → has_id (segment_id prefix h) x ≡ true → has_id (placeholder_id prefix h) x ≡ false → has_id (placeholder_id prefix h) y ≡ true
      → id_count (segment_id prefix h) (nodes_of whole.forest) ≡ 1 → id_count (placeholder_id prefix h) (nodes_of k) ≡ 0 → id_count (placeholder_id prefix h) (nodes_of left) ≡ 1
      → nodes_of k ≡ new → nodes_of r ≡ rest → LeavesNodes (fill_placeholder prefix [] h whole) (plug_nodes D (joined_nodes new rest))
  fills prefix h new rest sx px py one_segment none_inside one_placeholder new_is rest_is =
      let segment = segment_id prefix h in
      let id = placeholder_id prefix h in
      let container_found : element_with segment whole.forest ≡ Some c = found_first C c x k l numbered.once segment sx one_segment in
      let found : element_with id left ≡ Some p =
      ap (element_with id) is ∙ found_first D p y m r left_once id py (ap (λ f. id_count id (nodes_of f)) (sym is) ∙ one_placeholder) in
      let placeholder_found : element_with id whole.forest ≡ Some p = element_with-same id C (tree c x k l) l (not_in id c x k l px none_inside) ∙ found in
      let inside : times p (first_tree (from c whole.forest)) ≡ 0 = ap (λ f. times p (first_tree f)) (from_first C c x k l numbered.once) ∙ apart in
      let done : Edited = Ok (without_node p (with_children_before p c whole (without_node c whole))) in
      record {
        after = without_node p (with_children_before p c whole (without_node c whole));
        is = ap (λ o. fill_with [] segment id whole (unless_open [] o)) container_found
            ∙ ap (λ o. fill_from id whole c (unless_open [] o)) placeholder_found
            ∙ not_inside _ _ done inside;
        are = ap nodes_of filled_is ∙ nodes_of-plug D (joined_forests put r) ∙ ap (plug_nodes D)
            (nodes_of-joined put r ∙ ap (λ n. joined_nodes n (nodes_of r)) (put_nodes-of next c whole.forest x k l (from_first C c x k l numbered.once) ∙ new_is)
            ∙ ap (joined_nodes new) rest_is);
      }
