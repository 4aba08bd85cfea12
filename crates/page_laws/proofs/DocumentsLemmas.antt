-- Documents of a page and containers: their ids, and what an edit turns in them.
use Rattle.std.proofs.Common.{◌≡◌, ℕ, ◌+◌, List, [], ◌∷◌, ◌++◌, refl, sym, ap, ◌∙◌, subst, arith, codes}
use Rattle.std.specs.Str.{bytes_eq}
use Rattle.dom_forest.specs.Ids.{has_id}
use Rattle.fizz_instructions.specs.Bodies.{boundary_id, placeholder_id, segment_id}
use Rattle.page_laws.specs.Nodes.{Nodes, node, joined_nodes, id_count}
use Rattle.page_laws.specs.Pages.{Page, page_nodes, placeholder_count, pending_count, client_count, IsCleanPage}
use Rattle.page_laws.specs.Documents.{Container, StreamedDocument, container_element, container_nodes, document_nodes, edited_containers, edited_pages, sum_of_contents, sum_of_pages, container_count, AreClean}
use Rattle.page_laws.proofs.IdsLemmas.{same_kind, segment_no_boundary, segment_no_placeholder}
use Rattle.page_laws.proofs.PagesLemmas.{one, or_false, placeholder_ids, boundary_ids, segment_ids}
use Rattle.page_laws.proofs.Turned.{Turned, IsOpen, here, one_turned, turned_tree, turned_joins, turned-past}

-- a container of a segment is gone
pub record Leaves (prefix : List ℕ) (h : ℕ) (content from to : Nodes) : Type 0 where
  pub from_is : from ≡ node (container_element prefix h) content to

-- Ids

container_id : (prefix id : List ℕ) (i : ℕ) → one (has_id id (container_element prefix i)) ≡ one (bytes_eq (segment_id prefix i) id)
container_id prefix id i = ap one (or_false (bytes_eq (segment_id prefix i) id))

-- how often an id stands in containers, by how often it stands in pages and in the elements themselves
id_count-containers : (prefix id : List ℕ) (count : Page → ℕ) (own : List Container → ℕ) → own [] ≡ 0
    → ((c : Container) (cs : List Container) → own (c ∷ cs) ≡ one (bytes_eq (segment_id prefix c.id) id) + own cs)
    → ((page : Page) → IsCleanPage prefix page → id_count id (page_nodes prefix page) ≡ count page)
    → (cs : List Container) → AreClean prefix cs → id_count id (container_nodes prefix cs) ≡ own cs + sum_of_contents count cs
id_count-containers prefix id count own none_own more_own h [] clean = omega (arith, none_own)
id_count-containers prefix id count own none_own more_own h (c ∷ cs) clean =
    omega (arith, container_id prefix id c.id, more_own c cs, h c.content clean.0, id_count-containers prefix id count own none_own more_own h cs clean.1)

nowhere : List Container → ℕ
nowhere cs = 0

pub placeholder_ids_in : (prefix : List ℕ) (h : ℕ) (cs : List Container) → AreClean prefix cs → id_count (placeholder_id prefix h) (container_nodes prefix cs) ≡ sum_of_contents (placeholder_count h) cs
placeholder_ids_in prefix h cs clean =
    let all : id_count (placeholder_id prefix h) (container_nodes prefix cs) ≡ 0 + sum_of_contents (placeholder_count h) cs =
    id_count-containers prefix (placeholder_id prefix h) (placeholder_count h) (λ cs. 0) refl (λ c cs. let z = segment_no_placeholder prefix c.id h in sym (ap (λ b. one b + 0) z))
    (placeholder_ids prefix h) cs clean in
    omega (arith, all)

pub boundary_ids_in : (prefix : List ℕ) (h : ℕ) (cs : List Container) → AreClean prefix cs
    → id_count (boundary_id prefix h) (container_nodes prefix cs) ≡ sum_of_contents (λ p. pending_count h p + client_count h p) cs
boundary_ids_in prefix h cs clean =
    let all : id_count (boundary_id prefix h) (container_nodes prefix cs) ≡ 0 + sum_of_contents (λ p. pending_count h p + client_count h p) cs =
    id_count-containers prefix (boundary_id prefix h) (λ p. pending_count h p + client_count h p) (λ cs. 0) refl (λ c cs. let z = segment_no_boundary prefix c.id h in sym (ap (λ b. one b + 0) z))
    (boundary_ids prefix h) cs clean in
    omega (arith, all)

sum_of_zeros : (cs : List Container) → sum_of_contents (λ p. 0) cs ≡ 0
sum_of_zeros [] = refl
sum_of_zeros (c ∷ cs) = omega (arith, sum_of_zeros cs)

pub segment_ids_in : (prefix : List ℕ) (h : ℕ) (cs : List Container) → AreClean prefix cs → id_count (segment_id prefix h) (container_nodes prefix cs) ≡ container_count h cs
segment_ids_in prefix h cs clean =
    omega (
      arith,
      id_count-containers prefix (segment_id prefix h) (λ p. 0) (container_count h) refl (λ c cs. ap (λ b. one b + container_count h cs) (sym (same_kind prefix (codes "S:") c.id h)))
          (segment_ids prefix h) cs clean,
      sum_of_zeros cs,
    )

pub sum_of_both : (f g : Page → ℕ) (cs : List Container) → sum_of_contents (λ p. f p + g p) cs ≡ sum_of_contents f cs + sum_of_contents g cs
sum_of_both f g [] = refl
sum_of_both f g (c ∷ cs) = omega (arith, sum_of_both f g cs)

-- The containers before and after one.

pub container_nodes-append : (prefix : List ℕ) (front back : List Container) → container_nodes prefix (front ++ back) ≡ joined_nodes (container_nodes prefix front) (container_nodes prefix back)
container_nodes-append prefix [] back = refl
container_nodes-append prefix (c ∷ cs) back = ap (node (container_element prefix c.id) (page_nodes prefix c.content)) (container_nodes-append prefix cs back)

pub sum_of_contents-append : (count : Page → ℕ) (front back : List Container) → sum_of_contents count (front ++ back) ≡ sum_of_contents count front + sum_of_contents count back
sum_of_contents-append count [] back = omega arith
sum_of_contents-append count (c ∷ cs) back = omega (arith, sum_of_contents-append count cs back)

pub container_count-append : (h : ℕ) (front back : List Container) → container_count h (front ++ back) ≡ container_count h front + container_count h back
container_count-append h [] back = omega arith
container_count-append h (c ∷ cs) back = omega (arith, container_count-append h cs back)

pub clean_append : (prefix : List ℕ) (front back : List Container) → AreClean prefix (front ++ back) → AreClean prefix front × AreClean prefix back
clean_append prefix [] back clean = (tt, clean)
clean_append prefix (c ∷ cs) back clean = let rest = clean_append prefix cs back clean.1 in ((clean.0, rest.0), rest.1)

pub clean_joined : (prefix : List ℕ) (front back : List Container) → AreClean prefix front → AreClean prefix back → AreClean prefix (front ++ back)
clean_joined prefix [] back x y = y
clean_joined prefix (c ∷ cs) back x y = (x.0, clean_joined prefix cs back x.1 y)

pub leaves_turns : (prefix : List ℕ) (h : ℕ) (new shown : Page) (front back : List Container)
    → Turned (Leaves prefix h (page_nodes prefix new)) (document_nodes prefix (record { shown = shown; containers = front ++ record { id = h; content = new } ∷ back }))
    (document_nodes prefix (record { shown = shown; containers = front ++ back }))
leaves_turns prefix h new shown front back =
    let Rule : Nodes → Nodes → Type 0 = Leaves prefix h (page_nodes prefix new) in
    let one_container : Container = record { id = h; content = new } in
    let gone : Turned Rule (container_nodes prefix (one_container ∷ back)) (container_nodes prefix back) = here _ _ (record { from_is = refl }) in
    let past : Turned Rule (joined_nodes (container_nodes prefix front) (container_nodes prefix (one_container ∷ back))) (joined_nodes (container_nodes prefix front) (container_nodes prefix back)) =
    turned-past Rule (container_nodes prefix front) _ _ gone in
    turned-past Rule (page_nodes prefix shown) _ _
    (subst (λ n. Turned Rule n (container_nodes prefix (front ++ back))) (sym (container_nodes-append prefix front (one_container ∷ back)))
    (subst (λ n. Turned Rule (joined_nodes (container_nodes prefix front) (container_nodes prefix (one_container ∷ back))) n) (sym (container_nodes-append prefix front back)) past))

-- An edit that turns the one page with an id turns the document.
module _ (prefix : List ℕ) (Rule : Nodes → Nodes → Type 0) (rule_open : IsOpen Rule) (edit : Page → Page) (count : Page → ℕ)
    (stays : (page : Page) → count page ≡ 0 → edit page ≡ page)
    (turns : (page : Page) → count page ≡ 1 → Turned Rule (page_nodes prefix page) (page_nodes prefix (edit page))) where
  pub edited_containers-none : (cs : List Container) → sum_of_contents count cs ≡ 0 → edited_containers edit cs ≡ cs
  edited_containers-none [] z = refl
  edited_containers-none (c ∷ cs) z =
      ap (λ p. record c { content = p } ∷ edited_containers edit cs) (stays c.content (omega arith)) ∙ ap (λ l. c ∷ l) (edited_containers-none cs (omega arith))

  pub containers_turn : (cs : List Container) → sum_of_contents count cs ≡ 1 → Turned Rule (container_nodes prefix cs) (container_nodes prefix (edited_containers edit cs))
  containers_turn [] h = absurd (omega arith)
  containers_turn (c ∷ cs) h =
      turned_tree Rule (container_element prefix c.id) _ _ _ _
      (one_turned Rule (count c.content) (sum_of_contents count cs) (page_nodes prefix c.content) (page_nodes prefix (edit c.content)) (container_nodes prefix cs) (container_nodes prefix (edited_containers edit cs)) h
      (turns c.content) (λ z. ap (page_nodes prefix) (stays c.content z)) (containers_turn cs) (λ z. ap (container_nodes prefix) (edited_containers-none cs z)))

  pub document_turns : (d : StreamedDocument) → sum_of_pages count d ≡ 1 → Turned Rule (document_nodes prefix d) (document_nodes prefix (edited_pages edit d))
  document_turns d h =
      turned_joins Rule rule_open _ _ _ _
      (one_turned Rule (count d.shown) (sum_of_contents count d.containers) (page_nodes prefix d.shown) (page_nodes prefix (edit d.shown)) (container_nodes prefix d.containers)
      (container_nodes prefix (edited_containers edit d.containers)) h
      (turns d.shown) (λ z. ap (page_nodes prefix) (stays d.shown z)) (containers_turn d.containers) (λ z. ap (container_nodes prefix) (edited_containers-none d.containers z)))
