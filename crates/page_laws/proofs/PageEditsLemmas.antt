-- The edits of pages as turns of their nodes at one place, and what pages without the id keep.
use Rattle.std.proofs.Common.{◌≡◌, ℕ, ◌+◌, ◌==◌, eqb, Bool, true, false, inl, inr, List, Option, Some, None, refl, sym, ap, ◌∙◌, subst, arith}
use Rattle.std.proofs.lemmas.Bool.{cond-true, cond-false, eqb-true, eq-eqb}
use Rattle.dom_forest.specs.declared.node.Mark.TheVariants.{Complete, Pending, Client, End, Space}
use Rattle.dom_forest.specs.declared.node.NewNode.TheVariants.{Element, Text, Comment}
use Rattle.page_laws.specs.Nodes.{Nodes, none, node, joined_nodes}
use Rattle.page_laws.specs.Pages.{Page, nothing, text, element, separator, placeholder, complete, pending, client, page_nodes, joined_pages, nodes_to_end, placeholder_template, boundary_template, client_template, one_at, zero_at, weight_of_ids, weight_or_none, placeholder_count, pending_count}
use Rattle.page_laws.specs.PageEdits.{with_replacements, filled_at, completed_at, failed_at, with_placeholder_filled, with_boundary_completed, with_boundary_failed}
use Rattle.page_laws.specs.Balance.{IsBalanced}
use Rattle.page_laws.proofs.NodesLemmas.{joined_nodes-assoc}
use Rattle.page_laws.proofs.PagesLemmas.{one, page_nodes-joined, page_balanced}
use Rattle.page_laws.proofs.Turned.{Turned, IsOpen, OneTurned, here, after, one_turned, split_one, turned_tree, turned_to_end}

-- a placeholder becomes these nodes
pub record Fills (prefix : List ℕ) (h : ℕ) (new from to : Nodes) : Type 0 where
  pub rest : Nodes
  pub from_is : from ≡ node (placeholder_template prefix h) none rest
  pub to_is : to ≡ joined_nodes new rest

-- a pending boundary shows these nodes
pub record Completes (prefix : List ℕ) (h : ℕ) (new from to : Nodes) : Type 0 where
  pub fallback : Nodes
  pub rest : Nodes
  pub balanced : IsBalanced fallback
  pub from_is : from ≡ node (Comment Pending) none (node (boundary_template prefix h) none (nodes_to_end fallback rest))
  pub to_is : to ≡ node (Comment Complete) none (nodes_to_end new rest)

-- a pending boundary is left to the client
pub record Fails (prefix : List ℕ) (h : ℕ) (error : List ℕ) (from to : Nodes) : Type 0 where
  pub rest : Nodes
  pub from_is : from ≡ node (Comment Pending) none (node (boundary_template prefix h) none rest)
  pub to_is : to ≡ node (Comment Client) none (node (client_template prefix (Some h) error) none rest)

pub fills_open : (prefix : List ℕ) (h : ℕ) (new : Nodes) → IsOpen (Fills prefix h new)
fills_open prefix h new a b more r = record {
  rest = joined_nodes r.rest more;
  from_is = ap (λ n. joined_nodes n more) r.from_is;
  to_is = ap (λ n. joined_nodes n more) r.to_is ∙ joined_nodes-assoc new r.rest more;
}

pub completes_open : (prefix : List ℕ) (h : ℕ) (new : Nodes) → IsOpen (Completes prefix h new)
completes_open prefix h new a b more r = record {
  fallback = r.fallback;
  rest = joined_nodes r.rest more;
  balanced = r.balanced;
  from_is = ap (λ n. joined_nodes n more) r.from_is
      ∙ ap (λ n. node (Comment Pending) none (node (boundary_template prefix h) none n)) (joined_nodes-assoc r.fallback (node (Comment End) none r.rest) more);
  to_is = ap (λ n. joined_nodes n more) r.to_is ∙ ap (node (Comment Complete) none) (joined_nodes-assoc new (node (Comment End) none r.rest) more);
}

pub fails_open : (prefix : List ℕ) (h : ℕ) (error : List ℕ) → IsOpen (Fails prefix h error)
fails_open prefix h error a b more r = record {
  rest = joined_nodes r.rest more;
  from_is = ap (λ n. joined_nodes n more) r.from_is;
  to_is = ap (λ n. joined_nodes n more) r.to_is;
}

-- Where no id has a weight, nothing is replaced.

pub zero_or_none : (i : Option ℕ) → weight_or_none zero_at i ≡ 0
zero_or_none None = refl
zero_or_none (Some i) = refl

module _ (p b : ℕ → ℕ) (f : ℕ → Page → Page) (g : ℕ → Page → Page → Page)
    (f_stays : (i : ℕ) (l : Page) → p i ≡ 0 → f i l ≡ placeholder i l)
    (g_stays : (i : ℕ) (k l : Page) → b i ≡ 0 → g i k l ≡ pending i k l) where
  abbrev new : Page → Page
  new = with_replacements f g

  abbrev weight : Page → ℕ
  weight = weight_of_ids p b zero_at

  pub with_replacements-none : (page : Page) → weight_of_ids p b zero_at page ≡ 0 → with_replacements f g page ≡ page
  with_replacements-none nothing z = refl
  with_replacements-none (text t l) z = ap (text t) (with_replacements-none l z)
  with_replacements-none (element n attrs k l) z =
      ap (λ k'. element n attrs k' (new l)) (with_replacements-none k (omega arith)) ∙ ap (element n attrs k) (with_replacements-none l (omega arith))
  with_replacements-none (separator l) z = ap separator (with_replacements-none l z)
  with_replacements-none (placeholder i l) z = f_stays i (new l) (omega arith) ∙ ap (placeholder i) (with_replacements-none l (omega arith))
  with_replacements-none (complete k l) z =
      ap (λ k'. complete k' (new l)) (with_replacements-none k (omega arith)) ∙ ap (complete k) (with_replacements-none l (omega arith))
  with_replacements-none (pending i k l) z =
      g_stays i (new k) (new l) (omega arith)
      ∙ ap (λ k'. pending i k' (new l)) (with_replacements-none k (omega arith)) ∙ ap (pending i k) (with_replacements-none l (omega arith))
  with_replacements-none (client i d k l) z =
      ap (λ k'. client i d k' (new l)) (with_replacements-none k (omega arith)) ∙ ap (client i d k) (with_replacements-none l (omega arith))

  module _ (prefix : List ℕ) (Rule : Nodes → Nodes → Type 0) (rule_open : IsOpen Rule)
      (f_turns : (i : ℕ) (l : Page) → p i ≡ 1 → Turned Rule (page_nodes prefix (placeholder i l)) (page_nodes prefix (f i l)))
      (g_turns : (i : ℕ) (k l : Page) → b i ≡ 1 → Turned Rule (page_nodes prefix (pending i k l)) (page_nodes prefix (g i k l))) where
    abbrev spelled : Page → Nodes
    spelled = page_nodes prefix

    abbrev Turns : Page → Type 0
    Turns page = weight page ≡ 1 → Turned Rule (spelled page) (spelled (new page))

    one_of_two : (k l : Page) → weight k + weight l ≡ 1 → Turns k → Turns l → OneTurned Rule (spelled k) (spelled (new k)) (spelled l) (spelled (new l))
    one_of_two k l h tk tl =
        one_turned Rule (weight k) (weight l) (spelled k) (spelled (new k)) (spelled l) (spelled (new l)) h
        tk (λ z. ap spelled (with_replacements-none k z)) tl (λ z. ap spelled (with_replacements-none l z))

    -- a placeholder, or what stands after it
    placeholder_turns : (i : ℕ) (l : Page) → p i + weight l ≡ 1 → Turns l → Turned Rule (spelled (placeholder i l)) (spelled (f i (new l)))
    placeholder_turns i l h tl = elim (split_one (p i) (weight l) h) [
      | inl e ↦ subst (λ m. Turned Rule (spelled (placeholder i l)) (spelled (f i m))) (sym (with_replacements-none l e.1)) (f_turns i l e.0)
      | inr e ↦ subst (λ m. Turned Rule (spelled (placeholder i l)) (spelled m)) (sym (f_stays i (new l) e.0)) (after (placeholder_template prefix i) none (spelled l) (spelled (new l)) (tl e.1))
    ]

    pending_turns : (i : ℕ) (k l : Page) → b i + weight k + weight l ≡ 1 → Turns k → Turns l → Turned Rule (spelled (pending i k l)) (spelled (g i (new k) (new l)))
    pending_turns i k l h tk tl = elim (split_one (b i) (weight k + weight l) (omega arith)) [
      | inl e ↦ subst (λ m. Turned Rule (spelled (pending i k l)) (spelled (g i m (new l)))) (sym (with_replacements-none k (omega (arith, e.1))))
          (subst (λ m. Turned Rule (spelled (pending i k l)) (spelled (g i k m))) (sym (with_replacements-none l (omega (arith, e.1)))) (g_turns i k l e.0))
      | inr e ↦ subst (λ m. Turned Rule (spelled (pending i k l)) (spelled m)) (sym (g_stays i (new k) (new l) e.0))
          (after (Comment Pending) none _ _ (after (boundary_template prefix i) none _ _
          (turned_to_end Rule rule_open (spelled k) (spelled (new k)) (spelled l) (spelled (new l)) (one_of_two k l e.1 tk tl))))
    ]

    pub with_replacements-turns : (page : Page) → weight_of_ids p b zero_at page ≡ 1 → Turned Rule (page_nodes prefix page) (page_nodes prefix (with_replacements f g page))
    with_replacements-turns nothing h = absurd (omega arith)
    with_replacements-turns (text t l) h = after (Text t) none (spelled l) (spelled (new l)) (with_replacements-turns l h)
    with_replacements-turns (element n attrs k l) h =
        turned_tree Rule (Element n attrs) (spelled k) (spelled (new k)) (spelled l) (spelled (new l))
        (one_of_two k l h (with_replacements-turns k) (with_replacements-turns l))
    with_replacements-turns (separator l) h = after (Comment Space) none (spelled l) (spelled (new l)) (with_replacements-turns l h)
    with_replacements-turns (placeholder i l) h = placeholder_turns i l h (with_replacements-turns l)
    with_replacements-turns (complete k l) h =
        after (Comment Complete) none _ _ (turned_to_end Rule rule_open (spelled k) (spelled (new k)) (spelled l) (spelled (new l))
        (one_of_two k l h (with_replacements-turns k) (with_replacements-turns l)))
    with_replacements-turns (pending i k l) h = pending_turns i k l h (with_replacements-turns k) (with_replacements-turns l)
    with_replacements-turns (client i d k l) h =
        let both : weight k + weight l ≡ 1 = omega (arith, zero_or_none i) in
        after (Comment Client) none _ _ (after (client_template prefix i d) none _ _
        (turned_to_end Rule rule_open (spelled k) (spelled (new k)) (spelled l) (spelled (new l))
        (one_of_two k l both (with_replacements-turns k) (with_replacements-turns l))))

-- The three edits

pub at_one : (h i : ℕ) (b : Bool) → (i == h) ≡ b → one b ≡ 1 → i ≡ h
at_one h i true e o = eqb-true i h e
at_one h i false e o = absurd (omega arith)

pub at_none : (h i : ℕ) (b : Bool) → (i == h) ≡ b → one b ≡ 0 → (i == h) ≡ false
at_none h i true e z = absurd (omega arith)
at_none h i false e z = e

fills_here : (prefix : List ℕ) (h i : ℕ) (new l : Page) → i ≡ h
    → Turned (Fills prefix h (page_nodes prefix new)) (page_nodes prefix (placeholder i l)) (page_nodes prefix (filled_at h new i l))
fills_here prefix h i new l e = here _ _ (record {
  rest = page_nodes prefix l;
  from_is = ap (λ j. node (placeholder_template prefix j) none (page_nodes prefix l)) e;
  to_is = ap (page_nodes prefix) (cond-true (eqb i h) (joined_pages new l) (placeholder i l) (eq-eqb i h e)) ∙ page_nodes-joined prefix new l;
})

completes_here : (prefix : List ℕ) (h i : ℕ) (new k l : Page) → i ≡ h
    → Turned (Completes prefix h (page_nodes prefix new)) (page_nodes prefix (pending i k l)) (page_nodes prefix (completed_at h new i k l))
completes_here prefix h i new k l e = here _ _ (record {
  fallback = page_nodes prefix k;
  rest = page_nodes prefix l;
  balanced = page_balanced prefix k;
  from_is = ap (λ j. page_nodes prefix (pending j k l)) e;
  to_is = ap (page_nodes prefix) (cond-true (eqb i h) (complete new l) (pending i k l) (eq-eqb i h e));
})

fails_here : (prefix : List ℕ) (h i : ℕ) (error : List ℕ) (k l : Page) → i ≡ h
    → Turned (Fails prefix h error) (page_nodes prefix (pending i k l)) (page_nodes prefix (failed_at h error i k l))
fails_here prefix h i error k l e = here _ _ (record {
  rest = nodes_to_end (page_nodes prefix k) (page_nodes prefix l);
  from_is = ap (λ j. page_nodes prefix (pending j k l)) e;
  to_is = ap (page_nodes prefix) (cond-true (eqb i h) (client (Some i) error k l) (pending i k l) (eq-eqb i h e))
      ∙ ap (λ j. page_nodes prefix (client (Some j) error k l)) e;
})

pub with_placeholder_filled-none : (h : ℕ) (new page : Page) → placeholder_count h page ≡ 0 → with_placeholder_filled h new page ≡ page
with_placeholder_filled-none h new page =
    with_replacements-none (one_at h) zero_at (filled_at h new) pending (λ i l z. cond-false (eqb i h) _ _ (at_none h i (i == h) refl z)) (λ i k l z. refl) page

pub with_placeholder_filled-turns : (prefix : List ℕ) (h : ℕ) (new page : Page) → placeholder_count h page ≡ 1
    → Turned (Fills prefix h (page_nodes prefix new)) (page_nodes prefix page) (page_nodes prefix (with_placeholder_filled h new page))
with_placeholder_filled-turns prefix h new page =
    with_replacements-turns (one_at h) zero_at (filled_at h new) pending (λ i l z. cond-false (eqb i h) _ _ (at_none h i (i == h) refl z)) (λ i k l z. refl)
    prefix (Fills prefix h (page_nodes prefix new)) (fills_open prefix h (page_nodes prefix new))
    (λ i l o. fills_here prefix h i new l (at_one h i (i == h) refl o)) (λ i k l o. absurd (omega arith)) page

pub with_boundary_completed-none : (h : ℕ) (new page : Page) → pending_count h page ≡ 0 → with_boundary_completed h new page ≡ page
with_boundary_completed-none h new page =
    with_replacements-none zero_at (one_at h) placeholder (completed_at h new) (λ i l z. refl) (λ i k l z. cond-false (eqb i h) _ _ (at_none h i (i == h) refl z)) page

pub with_boundary_completed-turns : (prefix : List ℕ) (h : ℕ) (new page : Page) → pending_count h page ≡ 1
    → Turned (Completes prefix h (page_nodes prefix new)) (page_nodes prefix page) (page_nodes prefix (with_boundary_completed h new page))
with_boundary_completed-turns prefix h new page =
    with_replacements-turns zero_at (one_at h) placeholder (completed_at h new) (λ i l z. refl) (λ i k l z. cond-false (eqb i h) _ _ (at_none h i (i == h) refl z))
    prefix (Completes prefix h (page_nodes prefix new)) (completes_open prefix h (page_nodes prefix new))
    (λ i l o. absurd (omega arith)) (λ i k l o. completes_here prefix h i new k l (at_one h i (i == h) refl o)) page

pub with_boundary_failed-none : (h : ℕ) (error : List ℕ) (page : Page) → pending_count h page ≡ 0 → with_boundary_failed h error page ≡ page
with_boundary_failed-none h error page =
    with_replacements-none zero_at (one_at h) placeholder (failed_at h error) (λ i l z. refl) (λ i k l z. cond-false (eqb i h) _ _ (at_none h i (i == h) refl z)) page

pub with_boundary_failed-turns : (prefix : List ℕ) (h : ℕ) (error : List ℕ) (page : Page) → pending_count h page ≡ 1
    → Turned (Fails prefix h error) (page_nodes prefix page) (page_nodes prefix (with_boundary_failed h error page))
with_boundary_failed-turns prefix h error page =
    with_replacements-turns zero_at (one_at h) placeholder (failed_at h error) (λ i l z. refl) (λ i k l z. cond-false (eqb i h) _ _ (at_none h i (i == h) refl z))
    prefix (Fails prefix h error) (fails_open prefix h error)
    (λ i l o. absurd (omega arith)) (λ i k l o. fails_here prefix h i error k l (at_one h i (i == h) refl o)) page
