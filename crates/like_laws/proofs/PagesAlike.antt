-- Pages that are equal without separators and digests have alike nodes.
use Rattle.std.proofs.Common.{◌≡◌, ℕ, Bool, true, false, Option, Some, None, List, [], ◌∷◌, refl, sym, ap, ◌∙◌, subst}
use Rattle.fizz_text.specs.declared.attribute.Attr.{Attr}
use Rattle.dom_forest.specs.Edits.{DomState}
use Rattle.dom_forest.specs.Forest.{Forest, empty, joined_forests, tree}
use Rattle.dom_forest.specs.declared.node.Mark.TheVariants.{Complete, Pending, Client, End, Space}
use Rattle.dom_forest.specs.declared.node.NewNode.{NewNode}
use Rattle.dom_forest.specs.declared.node.NewNode.TheVariants.{Element, Text, Comment}
use Rattle.document_machine.specs.Edits.{waits}
use Rattle.page_laws.specs.DocumentEdits.{IsStreamed}
use Rattle.page_laws.specs.Documents.{Container, StreamedDocument, container_element, container_nodes, document_nodes, edited_containers, edited_pages}
use Rattle.page_laws.specs.Nodes.{Nodes, forest_of_nodes, node, nodes_of, none}
use Rattle.page_laws.specs.Pages as page
use Rattle.page_laws.specs.Pages.{Page, boundary_template, client_template, nodes_to_end, page_nodes, placeholder_template}
use Rattle.page_laws.proofs.NodesLemmas.{nodes_of-forest_of_nodes, unnumbered-joined}
use Rattle.like_laws.specs.Alike.{Alike, AreAlike, both, content_without_digest, ends, left, right}
use Rattle.like_laws.specs.PlainPages.{plain_page}
use Rattle.like_laws.proofs.AlikeContexts.{joined_alike}
use Rattle.like_laws.proofs.FoundLemmas.{flipped}
use Rattle.like_laws.proofs.StreamedApart.{forest, to_end_is}

-- One node before alike siblings.
same_node : (s : Bool) (c : NewNode) (kids others f g : Forest) → Alike false false kids others → Alike (waits (Some c)) (waits (Some c)) f g
    → Alike s s (tree 0 c kids f) (tree 0 c others g)
same_node s c kids others f g k l = both s s 0 0 c c kids others f g refl (λ id h. refl) k l

nothing_below : Alike false false empty empty
nothing_below = ends false

to_end_alike : (a b c d : Nodes) → Alike false false (forest_of_nodes a) (forest_of_nodes c) → Alike false false (forest_of_nodes b) (forest_of_nodes d)
    → Alike false false (forest_of_nodes (nodes_to_end a b)) (forest_of_nodes (nodes_to_end c d))
to_end_alike a b c d inner outer =
    subst (λ f. Alike false false f (forest_of_nodes (nodes_to_end c d))) (sym (to_end_is a b))
    (subst (Alike false false (joined_forests (forest_of_nodes a) (tree 0 (Comment End) empty (forest_of_nodes b)))) (sym (to_end_is c d))
    (joined_alike false false (forest_of_nodes a) (forest_of_nodes c) _ _ inner
    (λ s e. same_node s (Comment End) empty empty (forest_of_nodes b) (forest_of_nodes d) nothing_below outer)))

same_client : (prefix : List ℕ) (i : Option ℕ) (d e : List ℕ) → content_without_digest (client_template prefix i d) ≡ content_without_digest (client_template prefix i e)
same_client prefix None [] [] = refl
same_client prefix None [] (b ∷ bs) = refl
same_client prefix None (b ∷ bs) [] = refl
same_client prefix None (b ∷ bs) (a ∷ rest) = refl
same_client prefix (Some i) [] [] = refl
same_client prefix (Some i) [] (b ∷ bs) = refl
same_client prefix (Some i) (b ∷ bs) [] = refl
same_client prefix (Some i) (b ∷ bs) (a ∷ rest) = refl

-- What is alike to the siblings that a page has for its parts, whatever page it is.
abbrev LikeAll : List ℕ → Page → Type 0
LikeAll prefix a = (b : Page) → plain_page a ≡ plain_page b → Alike false false (forest prefix a) (forest prefix b)

-- A page with a separator before it.
past_separator : (prefix : List ℕ) (a b : Page) → Alike false false (forest prefix a) (forest prefix b) → Alike false false (forest prefix a) (forest prefix (page.separator b))
past_separator prefix a b r = right false false 0 (forest prefix a) (forest prefix b) r

nothing_alike : (prefix : List ℕ) → (b : Page) → page.nothing ≡ plain_page b → Alike false false (forest prefix (page.nothing)) (forest prefix b)
nothing_alike prefix page.nothing e = ends false
nothing_alike prefix (page.text t' l') e = absurd (let z : page.nothing ≡ page.text t' (plain_page l') = e in cc)
nothing_alike prefix (page.element n' w' k' l') e = absurd (let z : page.nothing ≡ page.element n' w' (plain_page k') (plain_page l') = e in cc)
nothing_alike prefix (page.placeholder i' l') e = absurd (let z : page.nothing ≡ page.placeholder i' (plain_page l') = e in cc)
nothing_alike prefix (page.complete k' l') e = absurd (let z : page.nothing ≡ page.complete (plain_page k') (plain_page l') = e in cc)
nothing_alike prefix (page.pending i' k' l') e = absurd (let z : page.nothing ≡ page.pending i' (plain_page k') (plain_page l') = e in cc)
nothing_alike prefix (page.client i' d' k' l') e = absurd (let z : page.nothing ≡ page.client i' [] (plain_page k') (plain_page l') = e in cc)
nothing_alike prefix (page.separator b) e = past_separator prefix (page.nothing) b (nothing_alike prefix b e)

text_alike : (prefix : List ℕ) (t : List ℕ) (l : Page) → LikeAll prefix l → (b : Page) → page.text t (plain_page l) ≡ plain_page b → Alike false false (forest prefix (page.text t l)) (forest prefix b)
text_alike prefix t l later page.nothing e = absurd (let z : page.text t (plain_page l) ≡ page.nothing = e in cc)
text_alike prefix t l later (page.text t' l') e =
    let z : page.text t (plain_page l) ≡ page.text t' (plain_page l') = e in
    let T : t ≡ t' = cc in
    let L : plain_page l ≡ plain_page l' = cc in
    subst (λ u. Alike false false (forest prefix (page.text t l)) (forest prefix (page.text u l'))) T (same_node false (Text t) empty empty (forest prefix l) (forest prefix l') nothing_below (later l' L))
text_alike prefix t l later (page.element n' w' k' l') e = absurd (let z : page.text t (plain_page l) ≡ page.element n' w' (plain_page k') (plain_page l') = e in cc)
text_alike prefix t l later (page.placeholder i' l') e = absurd (let z : page.text t (plain_page l) ≡ page.placeholder i' (plain_page l') = e in cc)
text_alike prefix t l later (page.complete k' l') e = absurd (let z : page.text t (plain_page l) ≡ page.complete (plain_page k') (plain_page l') = e in cc)
text_alike prefix t l later (page.pending i' k' l') e = absurd (let z : page.text t (plain_page l) ≡ page.pending i' (plain_page k') (plain_page l') = e in cc)
text_alike prefix t l later (page.client i' d' k' l') e = absurd (let z : page.text t (plain_page l) ≡ page.client i' [] (plain_page k') (plain_page l') = e in cc)
text_alike prefix t l later (page.separator b) e = past_separator prefix (page.text t l) b (text_alike prefix t l later b e)

element_alike : (prefix : List ℕ) (n : List ℕ) (w : List Attr) (k : Page) (l : Page) → LikeAll prefix k → LikeAll prefix l → (b : Page) → page.element n w (plain_page k) (plain_page l) ≡ plain_page b → Alike false false (forest prefix (page.element n w k l)) (forest prefix b)
element_alike prefix n w k l inner later page.nothing e = absurd (let z : page.element n w (plain_page k) (plain_page l) ≡ page.nothing = e in cc)
element_alike prefix n w k l inner later (page.text t' l') e = absurd (let z : page.element n w (plain_page k) (plain_page l) ≡ page.text t' (plain_page l') = e in cc)
element_alike prefix n w k l inner later (page.element n' w' k' l') e =
    let z : page.element n w (plain_page k) (plain_page l) ≡ page.element n' w' (plain_page k') (plain_page l') = e in
    let T : n ≡ n' = cc in
    let W : w ≡ w' = cc in
    let K : plain_page k ≡ plain_page k' = cc in
    let L : plain_page l ≡ plain_page l' = cc in
    subst (λ u. Alike false false (forest prefix (page.element n w k l)) (forest prefix (page.element u w' k' l'))) T
    (subst (λ u. Alike false false (forest prefix (page.element n w k l)) (forest prefix (page.element n u k' l'))) W
    (same_node false (Element n w) (forest prefix k) (forest prefix k') (forest prefix l) (forest prefix l') (inner k' K) (later l' L)))
element_alike prefix n w k l inner later (page.placeholder i' l') e = absurd (let z : page.element n w (plain_page k) (plain_page l) ≡ page.placeholder i' (plain_page l') = e in cc)
element_alike prefix n w k l inner later (page.complete k' l') e = absurd (let z : page.element n w (plain_page k) (plain_page l) ≡ page.complete (plain_page k') (plain_page l') = e in cc)
element_alike prefix n w k l inner later (page.pending i' k' l') e = absurd (let z : page.element n w (plain_page k) (plain_page l) ≡ page.pending i' (plain_page k') (plain_page l') = e in cc)
element_alike prefix n w k l inner later (page.client i' d' k' l') e = absurd (let z : page.element n w (plain_page k) (plain_page l) ≡ page.client i' [] (plain_page k') (plain_page l') = e in cc)
element_alike prefix n w k l inner later (page.separator b) e = past_separator prefix (page.element n w k l) b (element_alike prefix n w k l inner later b e)

placeholder_alike : (prefix : List ℕ) (i : ℕ) (l : Page) → LikeAll prefix l → (b : Page) → page.placeholder i (plain_page l) ≡ plain_page b → Alike false false (forest prefix (page.placeholder i l)) (forest prefix b)
placeholder_alike prefix i l later page.nothing e = absurd (let z : page.placeholder i (plain_page l) ≡ page.nothing = e in cc)
placeholder_alike prefix i l later (page.text t' l') e = absurd (let z : page.placeholder i (plain_page l) ≡ page.text t' (plain_page l') = e in cc)
placeholder_alike prefix i l later (page.element n' w' k' l') e = absurd (let z : page.placeholder i (plain_page l) ≡ page.element n' w' (plain_page k') (plain_page l') = e in cc)
placeholder_alike prefix i l later (page.placeholder i' l') e =
    let z : page.placeholder i (plain_page l) ≡ page.placeholder i' (plain_page l') = e in
    let T : i ≡ i' = cc in
    let L : plain_page l ≡ plain_page l' = cc in
    subst (λ u. Alike false false (forest prefix (page.placeholder i l)) (forest prefix (page.placeholder u l'))) T
    (same_node false (placeholder_template prefix i) empty empty (forest prefix l) (forest prefix l') nothing_below (later l' L))
placeholder_alike prefix i l later (page.complete k' l') e = absurd (let z : page.placeholder i (plain_page l) ≡ page.complete (plain_page k') (plain_page l') = e in cc)
placeholder_alike prefix i l later (page.pending i' k' l') e = absurd (let z : page.placeholder i (plain_page l) ≡ page.pending i' (plain_page k') (plain_page l') = e in cc)
placeholder_alike prefix i l later (page.client i' d' k' l') e = absurd (let z : page.placeholder i (plain_page l) ≡ page.client i' [] (plain_page k') (plain_page l') = e in cc)
placeholder_alike prefix i l later (page.separator b) e = past_separator prefix (page.placeholder i l) b (placeholder_alike prefix i l later b e)

complete_alike : (prefix : List ℕ) (k : Page) (l : Page) → LikeAll prefix k → LikeAll prefix l → (b : Page) → page.complete (plain_page k) (plain_page l) ≡ plain_page b → Alike false false (forest prefix (page.complete k l)) (forest prefix b)
complete_alike prefix k l inner later page.nothing e = absurd (let z : page.complete (plain_page k) (plain_page l) ≡ page.nothing = e in cc)
complete_alike prefix k l inner later (page.text t' l') e = absurd (let z : page.complete (plain_page k) (plain_page l) ≡ page.text t' (plain_page l') = e in cc)
complete_alike prefix k l inner later (page.element n' w' k' l') e = absurd (let z : page.complete (plain_page k) (plain_page l) ≡ page.element n' w' (plain_page k') (plain_page l') = e in cc)
complete_alike prefix k l inner later (page.placeholder i' l') e = absurd (let z : page.complete (plain_page k) (plain_page l) ≡ page.placeholder i' (plain_page l') = e in cc)
complete_alike prefix k l inner later (page.complete k' l') e =
    let z : page.complete (plain_page k) (plain_page l) ≡ page.complete (plain_page k') (plain_page l') = e in
    let K : plain_page k ≡ plain_page k' = cc in
    let L : plain_page l ≡ plain_page l' = cc in
    same_node false (Comment Complete) empty empty (forest_of_nodes (nodes_to_end (page_nodes prefix k) (page_nodes prefix l))) (forest_of_nodes (nodes_to_end (page_nodes prefix k') (page_nodes prefix l'))) nothing_below
    (to_end_alike (page_nodes prefix k) (page_nodes prefix l) (page_nodes prefix k') (page_nodes prefix l') (inner k' K) (later l' L))
complete_alike prefix k l inner later (page.pending i' k' l') e = absurd (let z : page.complete (plain_page k) (plain_page l) ≡ page.pending i' (plain_page k') (plain_page l') = e in cc)
complete_alike prefix k l inner later (page.client i' d' k' l') e = absurd (let z : page.complete (plain_page k) (plain_page l) ≡ page.client i' [] (plain_page k') (plain_page l') = e in cc)
complete_alike prefix k l inner later (page.separator b) e = past_separator prefix (page.complete k l) b (complete_alike prefix k l inner later b e)

pending_alike : (prefix : List ℕ) (i : ℕ) (k : Page) (l : Page) → LikeAll prefix k → LikeAll prefix l → (b : Page) → page.pending i (plain_page k) (plain_page l) ≡ plain_page b → Alike false false (forest prefix (page.pending i k l)) (forest prefix b)
pending_alike prefix i k l inner later page.nothing e = absurd (let z : page.pending i (plain_page k) (plain_page l) ≡ page.nothing = e in cc)
pending_alike prefix i k l inner later (page.text t' l') e = absurd (let z : page.pending i (plain_page k) (plain_page l) ≡ page.text t' (plain_page l') = e in cc)
pending_alike prefix i k l inner later (page.element n' w' k' l') e = absurd (let z : page.pending i (plain_page k) (plain_page l) ≡ page.element n' w' (plain_page k') (plain_page l') = e in cc)
pending_alike prefix i k l inner later (page.placeholder i' l') e = absurd (let z : page.pending i (plain_page k) (plain_page l) ≡ page.placeholder i' (plain_page l') = e in cc)
pending_alike prefix i k l inner later (page.complete k' l') e = absurd (let z : page.pending i (plain_page k) (plain_page l) ≡ page.complete (plain_page k') (plain_page l') = e in cc)
pending_alike prefix i k l inner later (page.pending i' k' l') e =
    let z : page.pending i (plain_page k) (plain_page l) ≡ page.pending i' (plain_page k') (plain_page l') = e in
    let T : i ≡ i' = cc in
    let K : plain_page k ≡ plain_page k' = cc in
    let L : plain_page l ≡ plain_page l' = cc in
    subst (λ u. Alike false false (forest prefix (page.pending i k l)) (forest prefix (page.pending u k' l'))) T
    (same_node false (Comment Pending) empty empty _ _ nothing_below (same_node true (boundary_template prefix i) empty empty _ _ nothing_below
    (to_end_alike (page_nodes prefix k) (page_nodes prefix l) (page_nodes prefix k') (page_nodes prefix l') (inner k' K) (later l' L))))
pending_alike prefix i k l inner later (page.client i' d' k' l') e = absurd (let z : page.pending i (plain_page k) (plain_page l) ≡ page.client i' [] (plain_page k') (plain_page l') = e in cc)
pending_alike prefix i k l inner later (page.separator b) e = past_separator prefix (page.pending i k l) b (pending_alike prefix i k l inner later b e)

client_alike : (prefix : List ℕ) (i : Option ℕ) (d : List ℕ) (k : Page) (l : Page) → LikeAll prefix k → LikeAll prefix l → (b : Page) → page.client i [] (plain_page k) (plain_page l) ≡ plain_page b → Alike false false (forest prefix (page.client i d k l)) (forest prefix b)
client_alike prefix i d k l inner later page.nothing e = absurd (let z : page.client i [] (plain_page k) (plain_page l) ≡ page.nothing = e in cc)
client_alike prefix i d k l inner later (page.text t' l') e = absurd (let z : page.client i [] (plain_page k) (plain_page l) ≡ page.text t' (plain_page l') = e in cc)
client_alike prefix i d k l inner later (page.element n' w' k' l') e = absurd (let z : page.client i [] (plain_page k) (plain_page l) ≡ page.element n' w' (plain_page k') (plain_page l') = e in cc)
client_alike prefix i d k l inner later (page.placeholder i' l') e = absurd (let z : page.client i [] (plain_page k) (plain_page l) ≡ page.placeholder i' (plain_page l') = e in cc)
client_alike prefix i d k l inner later (page.complete k' l') e = absurd (let z : page.client i [] (plain_page k) (plain_page l) ≡ page.complete (plain_page k') (plain_page l') = e in cc)
client_alike prefix i d k l inner later (page.pending i' k' l') e = absurd (let z : page.client i [] (plain_page k) (plain_page l) ≡ page.pending i' (plain_page k') (plain_page l') = e in cc)
client_alike prefix i d k l inner later (page.client i' d' k' l') e =
    let z : page.client i [] (plain_page k) (plain_page l) ≡ page.client i' [] (plain_page k') (plain_page l') = e in
    let T : i ≡ i' = cc in
    let K : plain_page k ≡ plain_page k' = cc in
    let L : plain_page l ≡ plain_page l' = cc in
    subst (λ u. Alike false false (forest prefix (page.client i d k l)) (forest prefix (page.client u d' k' l'))) T
    (same_node false (Comment Client) empty empty _ _ nothing_below
    (both true true 0 0 (client_template prefix i d) (client_template prefix i d') empty empty _ _ (same_client prefix i d d') (λ id h. refl) nothing_below
    (to_end_alike (page_nodes prefix k) (page_nodes prefix l) (page_nodes prefix k') (page_nodes prefix l') (inner k' K) (later l' L))))
client_alike prefix i d k l inner later (page.separator b) e = past_separator prefix (page.client i d k l) b (client_alike prefix i d k l inner later b e)

pub pages_alike : (prefix : List ℕ) (a : Page) → LikeAll prefix a
pages_alike prefix page.nothing b e = nothing_alike prefix b e
pages_alike prefix (page.text t l) b e = text_alike prefix t l (pages_alike prefix l) b e
pages_alike prefix (page.element n w k l) b e = element_alike prefix n w k l (pages_alike prefix k) (pages_alike prefix l) b e
pages_alike prefix (page.separator l) b e = left false false 0 (forest prefix l) (forest prefix b) (pages_alike prefix l b e)
pages_alike prefix (page.placeholder i l) b e = placeholder_alike prefix i l (pages_alike prefix l) b e
pages_alike prefix (page.complete k l) b e = complete_alike prefix k l (pages_alike prefix k) (pages_alike prefix l) b e
pages_alike prefix (page.pending i k l) b e = pending_alike prefix i k l (pages_alike prefix k) (pages_alike prefix l) b e
pages_alike prefix (page.client i d k l) b e = client_alike prefix i d k l (pages_alike prefix k) (pages_alike prefix l) b e

-- Containers and documents

containers_alike : (prefix : List ℕ) (s : Bool) (cs ds : List Container) → edited_containers plain_page cs ≡ edited_containers plain_page ds
    → Alike s s (forest_of_nodes (container_nodes prefix cs)) (forest_of_nodes (container_nodes prefix ds))
containers_alike prefix s [] [] e = ends s
containers_alike prefix s [] (d ∷ ds) e = absurd (let z : [] ≡ record d { content = plain_page d.content } ∷ edited_containers plain_page ds = e in cc)
containers_alike prefix s (c ∷ cs) [] e = absurd (let z : record c { content = plain_page c.content } ∷ edited_containers plain_page cs ≡ [] = e in cc)
containers_alike prefix s (c ∷ cs) (d ∷ ds) e =
    let z : record c { content = plain_page c.content } ∷ edited_containers plain_page cs ≡ record d { content = plain_page d.content } ∷ edited_containers plain_page ds = e in
    let first : record c { content = plain_page c.content } ≡ record d { content = plain_page d.content } = cc in
    let rest : edited_containers plain_page cs ≡ edited_containers plain_page ds = cc in
    let id : c.id ≡ d.id = ap (λ (x : Container). x.id) first in
    let content : plain_page c.content ≡ plain_page d.content = ap (λ (x : Container). x.content) first in
    subst (λ i. Alike s s (forest_of_nodes (container_nodes prefix (c ∷ cs))) (tree 0 (container_element prefix i) (forest prefix d.content) (forest_of_nodes (container_nodes prefix ds)))) id
    (same_node s (container_element prefix c.id) (forest prefix c.content) (forest prefix d.content) (forest_of_nodes (container_nodes prefix cs)) (forest_of_nodes (container_nodes prefix ds))
    (pages_alike prefix c.content d.content content) (containers_alike prefix false cs ds rest))

documents_alike : (prefix : List ℕ) (d e : StreamedDocument) → edited_pages plain_page d ≡ edited_pages plain_page e
    → AreAlike (forest_of_nodes (document_nodes prefix d)) (forest_of_nodes (document_nodes prefix e))
documents_alike prefix d e h =
    subst (λ f. AreAlike f (forest_of_nodes (document_nodes prefix e))) (sym (unnumbered-joined (page_nodes prefix d.shown) (container_nodes prefix d.containers)))
    (subst (AreAlike (joined_forests (forest prefix d.shown) (forest_of_nodes (container_nodes prefix d.containers)))) (sym (unnumbered-joined (page_nodes prefix e.shown) (container_nodes prefix e.containers)))
    (joined_alike false false (forest prefix d.shown) (forest prefix e.shown) _ _ (pages_alike prefix d.shown e.shown (ap (λ (x : StreamedDocument). x.shown) h))
    (λ s _. containers_alike prefix s d.containers e.containers (ap (λ (x : StreamedDocument). x.containers) h))))

-- Other ids of nodes

first_by_nodes : (m n : Bool) (f f' g : Forest) → Alike m n f g → nodes_of f ≡ nodes_of f' → Alike m n f' g
first_by_nodes _ _ _ f' _ (ends m) e = by f' e where
  by : (f' : Forest) → none ≡ nodes_of f' → Alike m m f' empty
  by empty e = ends m
  by (tree i c k l) e = absurd (let z : none ≡ node c (nodes_of k) (nodes_of l) = e in cc)
first_by_nodes _ _ _ f' _ (left m n i f g r) e = by f' e (λ h e'. first_by_nodes false n f h g r e') where
  by : (f' : Forest) → node (Comment Space) none (nodes_of f) ≡ nodes_of f' → ((h : Forest) → nodes_of f ≡ nodes_of h → Alike false n h g) → Alike m n f' g
  by empty e go = absurd (let z : node (Comment Space) none (nodes_of f) ≡ none = e in cc)
  by (tree j c (tree a b x y) l) e go = absurd (let z : node (Comment Space) none (nodes_of f) ≡ node c (node b (nodes_of x) (nodes_of y)) (nodes_of l) = e in cc)
  by (tree j c empty l) e go =
      let z : node (Comment Space) none (nodes_of f) ≡ node c none (nodes_of l) = e in
      let same : Comment Space ≡ c = cc in
      let rest : nodes_of f ≡ nodes_of l = cc in
      subst (λ x. Alike m n (tree j x empty l) g) same (left m n j l g (go l rest))
first_by_nodes _ _ _ f' _ (right m n j f g r) e = right m n j f' g (first_by_nodes m false f f' g r e)
first_by_nodes _ _ _ f' _ (both m n i j c d kids others f g s a k l) e =
    by f' e (λ h e'. first_by_nodes false false kids h others k e') (λ h e'. first_by_nodes (waits (Some c)) (waits (Some d)) f h g l e') where
      by : (f' : Forest) → node c (nodes_of kids) (nodes_of f) ≡ nodes_of f' → ((h : Forest) → nodes_of kids ≡ nodes_of h → Alike false false h others)
          → ((h : Forest) → nodes_of f ≡ nodes_of h → Alike (waits (Some c)) (waits (Some d)) h g) → Alike m n f' (tree j d others g)
      by empty e down on = absurd (let z : node c (nodes_of kids) (nodes_of f) ≡ none = e in cc)
      by (tree p x q l) e down on =
          let z : node c (nodes_of kids) (nodes_of f) ≡ node x (nodes_of q) (nodes_of l) = e in
          let same : c ≡ x = cc in
          let inner : nodes_of kids ≡ nodes_of q = cc in
          let outer : nodes_of f ≡ nodes_of l = cc in
          subst (λ y. Alike m n (tree p y q l) (tree j d others g)) same (both m n p j c d q others l g s a (down q inner) (on l outer))

pub streamed_alike : (prefix : List ℕ) (d e : StreamedDocument) (dom dom' : DomState) → IsStreamed prefix d dom → IsStreamed prefix e dom' → edited_pages plain_page d ≡ edited_pages plain_page e
    → AreAlike dom.forest dom'.forest
streamed_alike prefix d e dom dom' s t h =
    let first : AreAlike dom.forest (forest_of_nodes (document_nodes prefix e)) =
    first_by_nodes false false (forest_of_nodes (document_nodes prefix d)) dom.forest _ (documents_alike prefix d e h) (nodes_of-forest_of_nodes (document_nodes prefix d) ∙ sym s.are) in
    flipped false false dom'.forest dom.forest
    (first_by_nodes false false (forest_of_nodes (document_nodes prefix e)) dom'.forest dom.forest (flipped false false dom.forest (forest_of_nodes (document_nodes prefix e)) first)
    (nodes_of-forest_of_nodes (document_nodes prefix e) ∙ sym t.are))
