-- Pages as nodes: joins, balance and ids.
use Rattle.std.proofs.Common.{◌≡◌, ℕ, zero, suc, ◌+◌, ◌-◌, ◌==◌, eqb, not, ◌&&◌, ◌||◌, Bool, true, false, if◌then◌else◌, Option, Some, None, List, [], ◌∷◌, refl, sym, ap, ◌∙◌, arith, codes}
use Rattle.std.specs.Str.{bytes_eq}
use Rattle.std.specs.List.{list_any}
use Rattle.std.proofs.lemmas.Bool.{cond-false, eqb-true, ne_eqb}
use Rattle.html_names.specs.Attributes.{is_reserved}
use Rattle.dom_forest.specs.Forest.{Forest, empty, tree, joined_forests}
use Rattle.dom_forest.specs.Boundary.{closing_mark}
use Rattle.dom_forest.specs.Ids.{gives_id, has_id}
use Rattle.dom_forest.specs.declared.node.Mark.TheVariants.{Complete, Pending, Client, End, Space}
use Rattle.dom_forest.specs.declared.node.NewNode.TheVariants.{Element, Text, Comment}
use Rattle.fizz_instructions.specs.Bodies.{boundary_id, placeholder_id, segment_id}
use Rattle.page_laws.specs.Nodes.{Nodes, none, node, nodes_of, joined_nodes, id_count}
use Rattle.page_laws.specs.Pages.{Page, nothing, text, element, separator, placeholder, complete, pending, client, page_nodes, joined_pages, nodes_to_end, placeholder_template, boundary_template, client_template, digest_attributes, weight_of_ids, weight_or_none, one_at, zero_at, placeholder_count, pending_count, client_count, IsCleanPage}
use Rattle.page_laws.specs.Balance.{IsBalanced, closes_all}
use Rattle.page_laws.proofs.NodesLemmas.{joined_nodes-assoc, joined_nodes-none, id_count-joined}
use Rattle.page_laws.proofs.IdsLemmas.{gives_no_id, same_kind, boundary_no_segment, placeholder_no_segment, boundary_no_placeholder, placeholder_no_boundary, boundary_reserved, segment_reserved, placeholder_reserved}

nodes_to_end-joined : (c l more : Nodes) → joined_nodes (nodes_to_end c l) more ≡ nodes_to_end c (joined_nodes l more)
nodes_to_end-joined c l more = joined_nodes-assoc c (node (Comment End) none l) more

pub joined_pages-assoc : (a b c : Page) → joined_pages (joined_pages a b) c ≡ joined_pages a (joined_pages b c)
joined_pages-assoc nothing b c = refl
joined_pages-assoc (text t l) b c = ap (text t) (joined_pages-assoc l b c)
joined_pages-assoc (element n attrs k l) b c = ap (element n attrs k) (joined_pages-assoc l b c)
joined_pages-assoc (separator l) b c = ap separator (joined_pages-assoc l b c)
joined_pages-assoc (placeholder i l) b c = ap (placeholder i) (joined_pages-assoc l b c)
joined_pages-assoc (complete k l) b c = ap (complete k) (joined_pages-assoc l b c)
joined_pages-assoc (pending i k l) b c = ap (pending i k) (joined_pages-assoc l b c)
joined_pages-assoc (client i d k l) b c = ap (client i d k) (joined_pages-assoc l b c)

pub page_nodes-joined : (prefix : List ℕ) (a b : Page) → page_nodes prefix (joined_pages a b) ≡ joined_nodes (page_nodes prefix a) (page_nodes prefix b)
page_nodes-joined prefix nothing b = refl
page_nodes-joined prefix (text t l) b = ap (node (Text t) none) (page_nodes-joined prefix l b)
page_nodes-joined prefix (element n attrs k l) b = ap (node (Element n attrs) (page_nodes prefix k)) (page_nodes-joined prefix l b)
page_nodes-joined prefix (separator l) b = ap (node (Comment Space) none) (page_nodes-joined prefix l b)
page_nodes-joined prefix (placeholder i l) b = ap (node (placeholder_template prefix i) none) (page_nodes-joined prefix l b)
page_nodes-joined prefix (complete k l) b =
    ap (λ m. node (Comment Complete) none (nodes_to_end (page_nodes prefix k) m)) (page_nodes-joined prefix l b)
    ∙ ap (node (Comment Complete) none) (sym (nodes_to_end-joined (page_nodes prefix k) (page_nodes prefix l) (page_nodes prefix b)))
page_nodes-joined prefix (pending i k l) b =
    ap (λ m. node (Comment Pending) none (node (boundary_template prefix i) none (nodes_to_end (page_nodes prefix k) m))) (page_nodes-joined prefix l b)
    ∙ ap (λ m. node (Comment Pending) none (node (boundary_template prefix i) none m)) (sym (nodes_to_end-joined (page_nodes prefix k) (page_nodes prefix l) (page_nodes prefix b)))
page_nodes-joined prefix (client i d k l) b =
    ap (λ m. node (Comment Client) none (node (client_template prefix i d) none (nodes_to_end (page_nodes prefix k) m))) (page_nodes-joined prefix l b)
    ∙ ap (λ m. node (Comment Client) none (node (client_template prefix i d) none m)) (sym (nodes_to_end-joined (page_nodes prefix k) (page_nodes prefix l) (page_nodes prefix b)))

-- Balance

closes_end : (more : Nodes) (n : ℕ) → closes_all (node (Comment End) none more) (n + 1) ≡ closes_all more n
closes_end more n =
    ap (λ b. not b && closes_all more (n + 1 - 1)) (ne_eqb (n + 1) 0 (λ e. omega arith)) ∙ ap (closes_all more) (omega arith)

closes_all-to_end : (prefix : List ℕ) (k l : Page) (more : Nodes) (n : ℕ)
    → ((m : Nodes) (j : ℕ) → closes_all (joined_nodes (page_nodes prefix k) m) j ≡ closes_all m j)
    → ((j : ℕ) → closes_all (joined_nodes (page_nodes prefix l) more) j ≡ closes_all more j)
    → closes_all (joined_nodes (nodes_to_end (page_nodes prefix k) (page_nodes prefix l)) more) (n + 1) ≡ closes_all more n
closes_all-to_end prefix k l more n inner rest =
    ap (λ m. closes_all m (n + 1)) (nodes_to_end-joined (page_nodes prefix k) (page_nodes prefix l) more)
    ∙ inner (node (Comment End) none (joined_nodes (page_nodes prefix l) more)) (n + 1)
    ∙ closes_end (joined_nodes (page_nodes prefix l) more) n ∙ rest n

pub closes_all-page : (prefix : List ℕ) (page : Page) (more : Nodes) (n : ℕ) → closes_all (joined_nodes (page_nodes prefix page) more) n ≡ closes_all more n
closes_all-page prefix nothing more n = refl
closes_all-page prefix (text t l) more n = closes_all-page prefix l more n
closes_all-page prefix (element x attrs k l) more n = closes_all-page prefix l more n
closes_all-page prefix (separator l) more n = closes_all-page prefix l more n
closes_all-page prefix (placeholder i l) more n = closes_all-page prefix l more n
closes_all-page prefix (complete k l) more n = closes_all-to_end prefix k l more n (closes_all-page prefix k) (closes_all-page prefix l more)
closes_all-page prefix (pending i k l) more n = closes_all-to_end prefix k l more n (closes_all-page prefix k) (closes_all-page prefix l more)
closes_all-page prefix (client i d k l) more n = closes_all-to_end prefix k l more n (closes_all-page prefix k) (closes_all-page prefix l more)

pub page_balanced : (prefix : List ℕ) (page : Page) → IsBalanced (page_nodes prefix page)
page_balanced prefix page = ap (λ n. closes_all n 0) (sym (joined_nodes-none (page_nodes prefix page))) ∙ closes_all-page prefix page none 0

pub both_true : (a b : Bool) → (a && b) ≡ true → (a ≡ true) × (b ≡ true)
both_true true b e = (refl, e)
both_true false b e = absurd (let z : false ≡ true = e in cc)

pub not_zero : (k : ℕ) → not (k == 0) ≡ true → (j : ℕ) × (k ≡ j + 1)
not_zero zero e = absurd (let z : false ≡ true = e in cc)
not_zero (suc j) e = (j, omega arith)

-- What ends after balanced siblings is what ends after them alone.
past_end : (i k n : ℕ) (later more : Forest) → not (k == 0) && closes_all (nodes_of later) (k - 1) ≡ true
    → ((j : ℕ) → closes_all (nodes_of later) j ≡ true → closing_mark (joined_forests later more) (j + n) ≡ closing_mark more n)
    → (if k + n == 0 then Some i else closing_mark (joined_forests later more) (k + n - 1)) ≡ closing_mark more n
past_end i k n later more e h =
    let both = both_true (not (k == 0)) (closes_all (nodes_of later) (k - 1)) e in
    let some = not_zero k both.0 in
    cond-false (eqb (k + n) 0) _ _ (ne_eqb (k + n) 0 (λ z. omega (arith, some.1)))
    ∙ ap (closing_mark (joined_forests later more)) (omega (arith, some.1)) ∙ h (k - 1) both.1

pub closing_mark-past : (front more : Forest) (k n : ℕ) → closes_all (nodes_of front) k ≡ true → closing_mark (joined_forests front more) (k + n) ≡ closing_mark more n
closing_mark-past empty more k n e = ap (λ j. closing_mark more (j + n)) (eqb-true k 0 e) ∙ ap (closing_mark more) (omega arith)
closing_mark-past (tree i (Element name attributes) kids later) more k n e = closing_mark-past later more k n e
closing_mark-past (tree i (Text t) kids later) more k n e = closing_mark-past later more k n e
closing_mark-past (tree i (Comment Complete) kids later) more k n e = ap (closing_mark (joined_forests later more)) (omega arith) ∙ closing_mark-past later more (k + 1) n e
closing_mark-past (tree i (Comment Pending) kids later) more k n e = ap (closing_mark (joined_forests later more)) (omega arith) ∙ closing_mark-past later more (k + 1) n e
closing_mark-past (tree i (Comment Client) kids later) more k n e = ap (closing_mark (joined_forests later more)) (omega arith) ∙ closing_mark-past later more (k + 1) n e
closing_mark-past (tree i (Comment End) kids later) more k n e = past_end i k n later more e (λ j h. closing_mark-past later more j n h)
closing_mark-past (tree i (Comment Space) kids later) more k n e = closing_mark-past later more k n e

-- Ids

abbrev pub one : Bool → ℕ
one b = if b then 1 else 0

pub or_false : (b : Bool) → (b || false) ≡ b
or_false true = refl
or_false false = refl

-- how a reserved id is counted among the ids of a page
abbrev pub placeholder_weight : List ℕ → List ℕ → ℕ → ℕ
placeholder_weight prefix id i = one (bytes_eq (placeholder_id prefix i) id)

abbrev pub boundary_weight : List ℕ → List ℕ → ℕ → ℕ
boundary_weight prefix id i = one (bytes_eq (boundary_id prefix i) id)

no_id_in_digest : (id digest : List ℕ) → list_any (gives_id id) (digest_attributes digest) ≡ false
no_id_in_digest id [] = refl
no_id_in_digest id (b ∷ bs) = refl

client_id : (prefix id : List ℕ) (i : Option ℕ) (digest : List ℕ) → one (has_id id (client_template prefix i digest)) ≡ weight_or_none (boundary_weight prefix id) i
client_id prefix id None digest = ap one (no_id_in_digest id digest)
client_id prefix id (Some i) digest = ap (λ b. one (bytes_eq (boundary_id prefix i) id || b)) (no_id_in_digest id digest) ∙ ap one (or_false (bytes_eq (boundary_id prefix i) id))

id_count-to_end : (id : List ℕ) (k l : Nodes) (a b : ℕ) → id_count id k ≡ a → id_count id l ≡ b → id_count id (nodes_to_end k l) ≡ a + b
id_count-to_end id k l a b x y = id_count-joined id k (node (Comment End) none l) ∙ omega (arith, x, y)

pub id_count-page : (prefix id : List ℕ) (page : Page) → is_reserved prefix id ≡ true → IsCleanPage prefix page
    → id_count id (page_nodes prefix page) ≡ weight_of_ids (placeholder_weight prefix id) (boundary_weight prefix id) (boundary_weight prefix id) page
id_count-page prefix id nothing r c = refl
id_count-page prefix id (text t l) r c = omega (arith, id_count-page prefix id l r c)
id_count-page prefix id (element n attrs k l) r c =
    let zero_here : one (has_id id (Element n attrs)) ≡ 0 = ap one (gives_no_id prefix id attrs r c.1) in
    omega (arith, id_count-page prefix id k r c.2, id_count-page prefix id l r c.3)
id_count-page prefix id (separator l) r c = omega (arith, id_count-page prefix id l r c)
id_count-page prefix id (placeholder i l) r c =
    let here : one (has_id id (placeholder_template prefix i)) ≡ placeholder_weight prefix id i = ap one (or_false (bytes_eq (placeholder_id prefix i) id)) in
    omega (arith, id_count-page prefix id l r c)
id_count-page prefix id (complete k l) r c =
    omega (arith, id_count-to_end id (page_nodes prefix k) (page_nodes prefix l) _ _ (id_count-page prefix id k r c.0) (id_count-page prefix id l r c.1))
id_count-page prefix id (pending i k l) r c =
    let here : one (has_id id (boundary_template prefix i)) ≡ boundary_weight prefix id i = ap one (or_false (bytes_eq (boundary_id prefix i) id)) in
    omega (arith, id_count-to_end id (page_nodes prefix k) (page_nodes prefix l) _ _ (id_count-page prefix id k r c.0) (id_count-page prefix id l r c.1))
id_count-page prefix id (client i d k l) r c =
    let here : one (has_id id (client_template prefix i d)) ≡ weight_or_none (boundary_weight prefix id) i = client_id prefix id i d in
    omega (arith, id_count-to_end id (page_nodes prefix k) (page_nodes prefix l) _ _ (id_count-page prefix id k r c.0) (id_count-page prefix id l r c.1))

-- Sums of weights

pub weight_or_none-same : (f g : ℕ → ℕ) (i : Option ℕ) → ((j : ℕ) → f j ≡ g j) → weight_or_none f i ≡ weight_or_none g i
weight_or_none-same f g None h = refl
weight_or_none-same f g (Some i) h = h i

pub weight_of_ids-same : (p b c p' b' c' : ℕ → ℕ) (page : Page) → ((j : ℕ) → p j ≡ p' j) → ((j : ℕ) → b j ≡ b' j) → ((j : ℕ) → c j ≡ c' j)
    → weight_of_ids p b c page ≡ weight_of_ids p' b' c' page
weight_of_ids-same p b c p' b' c' nothing hp hb hc = refl
weight_of_ids-same p b c p' b' c' (text t l) hp hb hc = weight_of_ids-same p b c p' b' c' l hp hb hc
weight_of_ids-same p b c p' b' c' (element n attrs k l) hp hb hc = omega (arith, weight_of_ids-same p b c p' b' c' k hp hb hc, weight_of_ids-same p b c p' b' c' l hp hb hc)
weight_of_ids-same p b c p' b' c' (separator l) hp hb hc = weight_of_ids-same p b c p' b' c' l hp hb hc
weight_of_ids-same p b c p' b' c' (placeholder i l) hp hb hc = omega (arith, hp i, weight_of_ids-same p b c p' b' c' l hp hb hc)
weight_of_ids-same p b c p' b' c' (complete k l) hp hb hc = omega (arith, weight_of_ids-same p b c p' b' c' k hp hb hc, weight_of_ids-same p b c p' b' c' l hp hb hc)
weight_of_ids-same p b c p' b' c' (pending i k l) hp hb hc = omega (arith, hb i, weight_of_ids-same p b c p' b' c' k hp hb hc, weight_of_ids-same p b c p' b' c' l hp hb hc)
weight_of_ids-same p b c p' b' c' (client i d k l) hp hb hc =
    omega (arith, weight_or_none-same c c' i hc, weight_of_ids-same p b c p' b' c' k hp hb hc, weight_of_ids-same p b c p' b' c' l hp hb hc)

zero_or_none : (i : Option ℕ) → weight_or_none zero_at i ≡ 0
zero_or_none None = refl
zero_or_none (Some i) = refl

pub weight_of_ids-zero : (page : Page) → weight_of_ids zero_at zero_at zero_at page ≡ 0
weight_of_ids-zero nothing = refl
weight_of_ids-zero (text t l) = weight_of_ids-zero l
weight_of_ids-zero (element n attrs k l) = omega (arith, weight_of_ids-zero k, weight_of_ids-zero l)
weight_of_ids-zero (separator l) = weight_of_ids-zero l
weight_of_ids-zero (placeholder i l) = omega (arith, weight_of_ids-zero l)
weight_of_ids-zero (complete k l) = omega (arith, weight_of_ids-zero k, weight_of_ids-zero l)
weight_of_ids-zero (pending i k l) = omega (arith, weight_of_ids-zero k, weight_of_ids-zero l)
weight_of_ids-zero (client i d k l) = omega (arith, zero_or_none i, weight_of_ids-zero k, weight_of_ids-zero l)

pub both_counts : (h : ℕ) (page : Page) → weight_of_ids zero_at (one_at h) (one_at h) page ≡ pending_count h page + client_count h page
both_counts h nothing = refl
both_counts h (text t l) = both_counts h l
both_counts h (element n attrs k l) = omega (arith, both_counts h k, both_counts h l)
both_counts h (separator l) = both_counts h l
both_counts h (placeholder i l) = omega (arith, both_counts h l)
both_counts h (complete k l) = omega (arith, both_counts h k, both_counts h l)
both_counts h (pending i k l) = omega (arith, both_counts h k, both_counts h l)
both_counts h (client i d k l) = omega (arith, zero_or_none i, both_counts h k, both_counts h l)

-- How often the id of a placeholder, a boundary or a segment stands in a page.
pub placeholder_ids : (prefix : List ℕ) (h : ℕ) (page : Page) → IsCleanPage prefix page → id_count (placeholder_id prefix h) (page_nodes prefix page) ≡ placeholder_count h page
placeholder_ids prefix h page c =
    id_count-page prefix (placeholder_id prefix h) page (placeholder_reserved prefix h) c
    ∙ weight_of_ids-same _ _ _ (one_at h) zero_at zero_at page
    (λ i. ap one (same_kind prefix (codes "P:") i h)) (λ i. ap one (boundary_no_placeholder prefix i h)) (λ i. ap one (boundary_no_placeholder prefix i h))

pub boundary_ids : (prefix : List ℕ) (h : ℕ) (page : Page) → IsCleanPage prefix page → id_count (boundary_id prefix h) (page_nodes prefix page) ≡ pending_count h page + client_count h page
boundary_ids prefix h page c =
    id_count-page prefix (boundary_id prefix h) page (boundary_reserved prefix h) c
    ∙ weight_of_ids-same _ _ _ zero_at (one_at h) (one_at h) page
    (λ i. ap one (placeholder_no_boundary prefix i h)) (λ i. ap one (same_kind prefix (codes "B:") i h)) (λ i. ap one (same_kind prefix (codes "B:") i h))
    ∙ both_counts h page

pub segment_ids : (prefix : List ℕ) (h : ℕ) (page : Page) → IsCleanPage prefix page → id_count (segment_id prefix h) (page_nodes prefix page) ≡ 0
segment_ids prefix h page c =
    id_count-page prefix (segment_id prefix h) page (segment_reserved prefix h) c
    ∙ weight_of_ids-same _ _ _ zero_at zero_at zero_at page
    (λ i. ap one (placeholder_no_segment prefix i h)) (λ i. ap one (boundary_no_segment prefix i h)) (λ i. ap one (boundary_no_segment prefix i h))
    ∙ weight_of_ids-zero page
