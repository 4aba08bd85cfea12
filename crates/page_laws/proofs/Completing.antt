-- `$RC` and `$RX` over a forest around a pending boundary.
use Rattle.std.proofs.Common.{◌≡◌, ℕ, ◌+◌, ◌≤◌, ◌==◌, eqb, true, false, if◌then◌else◌, Option, Some, None, List, [], ◌∷◌, refl, sym, ap, ◌∙◌, subst, arith}
use Rattle.std.proofs.lemmas.Bool.{cond-true, cond-false, eq-eqb}
use Rattle.dom_forest.specs.Forest.{Forest, empty, tree, times, joined_forests, from, first_later, first_content, content_of, previous_after}
use Rattle.dom_forest.specs.Edits.{DomState, IsNumbered, with_change, without_node, with_content, digest_set}
use Rattle.dom_forest.specs.Boundary.{closing_mark, end_of_boundary}
use Rattle.dom_forest.specs.Ids.{has_id, element_with}
use Rattle.dom_forest.specs.declared.node.Mark.TheVariants.{Complete, Pending, Client, End}
use Rattle.dom_forest.specs.declared.node.NewNode.{NewNode}
use Rattle.dom_forest.specs.declared.node.NewNode.TheVariants.{Comment}
use Rattle.fizz_instructions.specs.Bodies.{boundary_id, segment_id}
use Rattle.document_machine.specs.Edits.{complete_boundary, complete_from, client_render, client_render_from, client_render_at, with_digest_unless_empty, reveal, reveal_at, with_content_revealed, marker_of, waiting, waits, from_sibling, unless_open}
use Rattle.page_laws.specs.Nodes.{Nodes, none, node, nodes_of, joined_nodes, id_count}
use Rattle.page_laws.specs.Pages.{nodes_to_end, client_template}
use Rattle.page_laws.specs.Balance.{IsBalanced}
use Rattle.page_laws.specs.DocumentEdits.{LeavesNodes}
use Rattle.page_laws.proofs.NodesLemmas.{nodes_of-joined}
use Rattle.page_laws.proofs.Contexts.{Context, plug, plug_nodes, around, around_id, nodes_of-plug, times-plug, id_count-plug, with_change-plug, from-plug, previous-plug, element_with-plug}
use Rattle.page_laws.proofs.PagesLemmas.{one, closing_mark-past}
use Rattle.page_laws.proofs.MachineEdits.{one_self, one_zero, times-joined, from_first, changed_first, found_first, fewer}
use Rattle.page_laws.proofs.Filling.{put_nodes, put_nodes-of}

-- A template with a digest that is not empty.
abbrev pub template_after : NewNode → List ℕ → NewNode
template_after x [] = x
template_after x (b ∷ bs) = digest_set (b ∷ bs) x

-- Around a marker `m` with its template `t` directly after it, and what follows.
module _ (C : Context) (m t : ℕ) (x : NewNode) (rest : Forest)
    (once : (j : ℕ) → times j (plug C (tree m (Comment Pending) empty (tree t x empty rest))) ≤ 1) where
  abbrev part : Forest
  part = tree m (Comment Pending) empty (tree t x empty rest)

  all_times : (j : ℕ) → times j (plug C part) ≡ around j C + (one (m == j) + (one (t == j) + times j rest))
  all_times j = times-plug j C part ∙ omega arith

  pub marker_apart : (m == t) ≡ false
  marker_apart = one_zero (m == t) (omega (arith, all_times t, once t, one_self t))

  pub no_marker_around : around m C ≡ 0
  no_marker_around = omega (arith, all_times m, once m, one_self m)

  pub no_template_around : around t C ≡ 0
  no_template_around = omega (arith, all_times t, once t, one_self t)

  pub template_from : from t (plug C part) ≡ tree t x empty rest
  template_from = from-plug t C part no_template_around ∙ cond-false (eqb m t) _ _ marker_apart ∙ cond-true (eqb t t) _ _ (eq-eqb t t refl)

  pub marker_content : content_of m (plug C part) ≡ Some (Comment Pending)
  marker_content = ap first_content (from-plug m C part no_marker_around ∙ cond-true (eqb m m) _ _ (eq-eqb m m refl))

  previous_here : (b : Option ℕ) → previous_after b t part ≡ Some m
  previous_here b = cond-false (eqb m t) _ _ marker_apart ∙ cond-true (eqb t t) _ _ (eq-eqb t t refl)

  pub marker_is : marker_of t (plug C part) ≡ Some m
  marker_is =
      ap (waiting (plug C part)) (previous-plug t m part previous_here C None no_template_around)
      ∙ ap (λ o. if waits o then Some m else None) marker_content

  pub template_found : (id : List ℕ) → has_id id x ≡ true → id_count id (nodes_of (plug C part)) ≡ 1 → element_with id (plug C part) ≡ Some t
  template_found id e c =
      let all : id_count id (plug_nodes C (nodes_of part)) ≡ around_id id C + id_count id (nodes_of part) = id_count-plug id C (nodes_of part) in
      let here : one (has_id id x) ≡ 1 = ap one e in
      element_with-plug id C part (omega (arith, all, here, c, ap (id_count id) (nodes_of-plug C part))) ∙ cond-true (has_id id x) _ _ e

  pub with_marker : (y : NewNode) → with_change m (λ content kids later. tree m y kids later) (plug C part) ≡ plug C (tree m y empty (tree t x empty rest))
  with_marker y = with_change-plug m _ C part no_marker_around ∙ ap (plug C) (cond-true (eqb m m) _ _ (eq-eqb m m refl))

  pub with_template : (y : NewNode) (g : NewNode → Forest → Forest → Forest) → with_change t g (plug C (tree m y empty (tree t x empty rest))) ≡ plug C (tree m y empty (g x empty rest))
  with_template y g =
      with_change-plug t g C (tree m y empty (tree t x empty rest)) no_template_around
      ∙ ap (plug C) (cond-false (eqb m t) _ _ marker_apart ∙ ap (tree m y empty) (cond-true (eqb t t) _ _ (eq-eqb t t refl)))

  -- `$RX`
  abbrev rendered : List ℕ → ℕ → DomState
  rendered digest next = with_digest_unless_empty t digest (with_content m (Comment Client) (record { forest = plug C part; next = next }))

  rendered_is : (digest : List ℕ) (next : ℕ) → (rendered digest next).forest ≡ plug C (tree m (Comment Client) empty (tree t (template_after x digest) empty rest))
  rendered_is [] next = with_marker (Comment Client)
  rendered_is (b ∷ bs) next =
      ap (with_change t (λ content kids later. tree t (digest_set (b ∷ bs) content) kids later)) (with_marker (Comment Client))
      ∙ with_template (Comment Client) (λ content kids later. tree t (digest_set (b ∷ bs) content) kids later)

  pub fails : (prefix : List ℕ) (h next : ℕ) (digest : List ℕ) (after : Nodes) → has_id (boundary_id prefix h) x ≡ true → id_count (boundary_id prefix h) (nodes_of (plug C part)) ≡ 1
      → template_after x digest ≡ client_template prefix (Some h) digest → nodes_of rest ≡ after
      → LeavesNodes (client_render prefix h digest (record { forest = plug C part; next = next })) (plug_nodes C (node (Comment Client) none (node (client_template prefix (Some h) digest) none after)))
  fails prefix h next digest after e c template_is rest_is =
      let dom : DomState = record { forest = plug C part; next = next } in
      record {
        after = rendered digest next;
        is = ap (client_render_from digest dom) (template_found (boundary_id prefix h) e c) ∙ ap (client_render_at t digest dom) marker_is;
        are = ap nodes_of (rendered_is digest next) ∙ nodes_of-plug C (tree m (Comment Client) empty (tree t (template_after x digest) empty rest))
            ∙ ap (λ y. plug_nodes C (node (Comment Client) none (node y none (nodes_of rest)))) template_is
            ∙ ap (λ n. plug_nodes C (node (Comment Client) none (node (client_template prefix (Some h) digest) none n))) rest_is;
      }

-- The end of the boundary, after its fallback.
from_sibling-past : (e : ℕ) (front : Forest) (x : NewNode) (k l : Forest) → times e front ≡ 0 → from_sibling e (joined_forests front (tree e x k l)) ≡ tree e x k l
from_sibling-past e empty x k l z = cond-true (eqb e e) _ _ (eq-eqb e e refl)
from_sibling-past e (tree i y kids later) x k l z =
    cond-false (eqb i e) _ _ (one_zero (i == e) (omega arith)) ∙ from_sibling-past e later x k l (omega arith)

module _ (C D : Context) (next c m t e : ℕ) (x y : NewNode) (k l front z r : Forest)
    (numbered : IsNumbered (record { forest = plug C (tree c x k l); next = next }))
    (is : plug C l ≡ plug D (tree m (Comment Pending) empty (tree t y empty (joined_forests front (tree e (Comment End) z r))))) where
  abbrev whole : DomState
  whole = record { forest = plug C (tree c x k l); next = next }

  abbrev rest : Forest
  rest = joined_forests front (tree e (Comment End) z r)

  abbrev waiting_part : Forest
  waiting_part = plug D (tree m (Comment Pending) empty (tree t y empty rest))

  left_once : (j : ℕ) → times j waiting_part ≤ 1
  left_once j = subst (λ f. times j f ≤ 1) is (fewer C c x k l numbered.once j)

  times_of : (j : ℕ) → times j waiting_part ≡ around j D + (one (m == j) + (one (t == j) + (times j front + (one (e == j) + times j z + times j r))))
  times_of j = times-plug j D (tree m (Comment Pending) empty (tree t y empty rest)) ∙ omega (arith, times-joined j front (tree e (Comment End) z r))

  marker_no_end : (m == e) ≡ false
  marker_no_end = one_zero (m == e) (omega (arith, times_of e, left_once e, one_self e))

  no_end_before : times e front ≡ 0
  no_end_before = omega (arith, times_of e, left_once e, one_self e)

  no_end_around : around e D ≡ 0
  no_end_around = omega (arith, times_of e, left_once e, one_self e)

  abbrev put : Forest
  put = put_nodes next c whole.forest

  abbrev completed_forest : Forest
  completed_forest = plug D (tree m (Comment Complete) empty (joined_forests put (tree e (Comment End) z r)))

  abbrev before : DomState
  before = without_node c whole

  before_is : before.forest ≡ waiting_part
  before_is = changed_first C c x k l numbered.once (λ content kids later. later) ∙ is

  completed_is : (with_content_revealed t m e c whole before).forest ≡ completed_forest
  completed_is =
      let dress : NewNode → Forest → Forest → Forest = λ content kids later. tree m (Comment Complete) kids later in
      let cut : NewNode → Forest → Forest → Forest = λ content kids later. from_sibling e later in
      let insert : NewNode → Forest → Forest → Forest = λ content kids later. joined_forests put (tree e content kids later) in
      let after_cut : Forest = plug D (tree m (Comment Complete) empty (tree e (Comment End) z r)) in
      ap (λ f. with_change e insert (with_change t cut (with_change m dress f))) before_is
      ∙ ap (λ f. with_change e insert (with_change t cut f)) (with_marker D m t y rest left_once (Comment Complete))
      ∙ ap (with_change e insert) (with_template D m t y rest left_once (Comment Complete) cut ∙ ap (λ f. plug D (tree m (Comment Complete) empty f)) (from_sibling-past e front (Comment End) z r no_end_before))
      ∙ (with_change-plug e insert D (tree m (Comment Complete) empty (tree e (Comment End) z r)) no_end_around
      ∙ ap (plug D) (cond-false (eqb m e) _ _ marker_no_end ∙ ap (tree m (Comment Complete) empty) (cond-true (eqb e e) _ _ (eq-eqb e e refl))))

  end_is : IsBalanced (nodes_of front) → end_of_boundary t before.forest ≡ Some e
  end_is balanced =
      ap (λ f. closing_mark (first_later (from t f)) 0) before_is ∙ ap (λ f. closing_mark (first_later f) 0) (template_from D m t y rest left_once)
      ∙ closing_mark-past front (tree e (Comment End) z r) 0 0 balanced

  pub completes : (prefix : List ℕ) (h : ℕ) (new after : Nodes) → IsBalanced (nodes_of front) → has_id (segment_id prefix h) x ≡ true → has_id (boundary_id prefix h) y ≡ true
      → id_count (segment_id prefix h) (nodes_of whole.forest) ≡ 1 → id_count (boundary_id prefix h) (nodes_of (plug C l)) ≡ 1
      → nodes_of k ≡ new → nodes_of z ≡ none → nodes_of r ≡ after
      → LeavesNodes (complete_boundary prefix [] h h whole) (plug_nodes D (node (Comment Complete) none (nodes_to_end new after)))
  completes prefix h new after balanced sx by one_segment one_boundary new_is none_below after_is =
      let segment = segment_id prefix h in
      let boundary = boundary_id prefix h in
      let container_found : element_with segment whole.forest ≡ Some c = found_first C c x k l numbered.once segment sx one_segment in
      let template : element_with boundary before.forest ≡ Some t =
      ap (element_with boundary) before_is ∙ template_found D m t y rest left_once boundary by (ap (λ f. id_count boundary (nodes_of f)) (sym is) ∙ one_boundary) in
      let marker : marker_of t before.forest ≡ Some m = ap (marker_of t) before_is ∙ marker_is D m t y rest left_once in
      record {
        after = with_content_revealed t m e c whole before;
        is = ap (λ o. complete_from segment boundary whole (unless_open [] o)) container_found
            ∙ ap (reveal c whole before) template
            ∙ ap (λ o. reveal_at t c whole before o (end_of_boundary t before.forest)) marker
            ∙ ap (λ o. reveal_at t c whole before (Some m) o) (end_is balanced);
        are = ap nodes_of completed_is ∙ nodes_of-plug D (tree m (Comment Complete) empty (joined_forests put (tree e (Comment End) z r)))
            ∙ ap (λ n. plug_nodes D (node (Comment Complete) none n))
            (nodes_of-joined put (tree e (Comment End) z r)
            ∙ ap (λ n. joined_nodes n (node (Comment End) (nodes_of z) (nodes_of r))) (put_nodes-of next c whole.forest x k l (from_first C c x k l numbered.once) ∙ new_is)
            ∙ ap (λ n. joined_nodes new (node (Comment End) n (nodes_of r))) none_below
            ∙ ap (nodes_to_end new) after_is);
      }
