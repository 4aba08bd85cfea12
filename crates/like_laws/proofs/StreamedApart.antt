-- What instructions move stands apart from markers in a streamed document.
use Rattle.std.proofs.Common.{◌≡◌, ℕ, ◌||◌, Bool, true, false, Option, Some, None, List, [], ◌∷◌, refl, sym, ap, ◌∙◌, subst}
use Rattle.std.specs.Str.{bytes_eq}
use Rattle.dom_forest.specs.Edits.{DomState}
use Rattle.dom_forest.specs.Forest.{Forest, empty, joined_forests, tree}
use Rattle.dom_forest.specs.Ids.{has_id}
use Rattle.dom_forest.specs.declared.node.Mark.TheVariants.{Complete, Pending, Client, End, Space}
use Rattle.dom_forest.specs.declared.node.NewNode.{NewNode}
use Rattle.dom_forest.specs.declared.node.NewNode.TheVariants.{Element, Text, Comment}
use Rattle.fizz_instructions.specs.Bodies.{boundary_id, placeholder_id, segment_id}
use Rattle.document_machine.specs.Edits.{waits}
use Rattle.page_laws.specs.DocumentEdits.{IsStreamed}
use Rattle.page_laws.specs.Documents.{AreClean, Container, StreamedDocument, container_nodes, document_nodes}
use Rattle.page_laws.specs.Nodes.{Nodes, forest_of_nodes, node, nodes_of, none}
use Rattle.page_laws.specs.Pages as page
use Rattle.page_laws.specs.Pages.{IsCleanPage, Page, client_template, nodes_to_end, page_nodes, placeholder_template}
use Rattle.page_laws.proofs.IdsLemmas.{boundary_no_placeholder, boundary_no_segment, gives_no_id, placeholder_no_segment, placeholder_reserved, segment_reserved}
use Rattle.page_laws.proofs.NodesLemmas.{nodes_of-forest_of_nodes, unnumbered-joined}
use Rattle.like_laws.specs.Apart.{StandApart, ends_after}

-- The ids of nodes don't count.

ends_by_nodes : (m : Bool) (f g : Forest) → nodes_of f ≡ nodes_of g → ends_after m f ≡ ends_after m g
ends_by_nodes m empty empty e = refl
ends_by_nodes m empty (tree j d others g) e = absurd (let z : none ≡ node d (nodes_of others) (nodes_of g) = e in cc)
ends_by_nodes m (tree i c kids f) empty e = absurd (let z : node c (nodes_of kids) (nodes_of f) ≡ none = e in cc)
ends_by_nodes m (tree i c kids f) (tree j d others g) e =
    let z : node c (nodes_of kids) (nodes_of f) ≡ node d (nodes_of others) (nodes_of g) = e in
    let same : c ≡ d = cc in
    let later : nodes_of f ≡ nodes_of g = cc in
    ends_by_nodes (waits (Some c)) f g later ∙ ap (λ x. ends_after (waits (Some x)) g) same

apart_by_nodes : (prefix : List ℕ) (m : Bool) (f g : Forest) → nodes_of f ≡ nodes_of g → StandApart prefix m f → StandApart prefix m g
apart_by_nodes prefix m empty empty e a = tt
apart_by_nodes prefix m empty (tree j d others g) e a = absurd (let z : none ≡ node d (nodes_of others) (nodes_of g) = e in cc)
apart_by_nodes prefix m (tree i c kids f) empty e a = absurd (let z : node c (nodes_of kids) (nodes_of f) ≡ none = e in cc)
apart_by_nodes prefix m (tree i c kids f) (tree j d others g) e a =
    let z : node c (nodes_of kids) (nodes_of f) ≡ node d (nodes_of others) (nodes_of g) = e in
    let same : c ≡ d = cc in
    let inner : nodes_of kids ≡ nodes_of others = cc in
    let later : nodes_of f ≡ nodes_of g = cc in (
      (λ h is. let x = a.0 h (ap (has_id (segment_id prefix h)) same ∙ is) in (x.0, sym (ends_by_nodes false kids others inner) ∙ x.1)),
      (λ h is. a.1 h (ap (has_id (placeholder_id prefix h)) same ∙ is)),
      apart_by_nodes prefix false kids others inner a.2,
      subst (λ x. StandApart prefix (waits (Some x)) g) same (apart_by_nodes prefix (waits (Some c)) f g later a.3),
    )

-- Joined siblings

ends_after-joined : (m : Bool) (a b : Forest) → ends_after m (joined_forests a b) ≡ ends_after (ends_after m a) b
ends_after-joined m empty b = refl
ends_after-joined m (tree i c kids later) b = ends_after-joined (waits (Some c)) later b

apart-joined : (prefix : List ℕ) (m : Bool) (a b : Forest) → StandApart prefix m a → StandApart prefix (ends_after m a) b → StandApart prefix m (joined_forests a b)
apart-joined prefix m empty b p q = q
apart-joined prefix m (tree i c kids later) b p q = (p.0, p.1, p.2, apart-joined prefix (waits (Some c)) later b p.3 q)

-- A page

abbrev pub forest : List ℕ → Page → Forest
forest prefix p = forest_of_nodes (page_nodes prefix p)

pub to_end_is : (content later : Nodes) → forest_of_nodes (nodes_to_end content later) ≡ joined_forests (forest_of_nodes content) (tree 0 (Comment End) empty (forest_of_nodes later))
to_end_is content later = unnumbered-joined content (node (Comment End) none later)

ends_to_end : (m : Bool) (content later : Nodes) → ends_after m (forest_of_nodes (nodes_to_end content later)) ≡ ends_after false (forest_of_nodes later)
ends_to_end m content later =
    ap (ends_after m) (to_end_is content later) ∙ ends_after-joined m (forest_of_nodes content) (tree 0 (Comment End) empty (forest_of_nodes later))

page_ends : (prefix : List ℕ) (p : Page) → ends_after false (forest prefix p) ≡ false
page_ends prefix page.nothing = refl
page_ends prefix (page.text t l) = page_ends prefix l
page_ends prefix (page.element n attributes k l) = page_ends prefix l
page_ends prefix (page.separator l) = page_ends prefix l
page_ends prefix (page.placeholder i l) = page_ends prefix l
page_ends prefix (page.complete k l) = ends_to_end false (page_nodes prefix k) (page_nodes prefix l) ∙ page_ends prefix l
page_ends prefix (page.pending i k l) = ends_to_end false (page_nodes prefix k) (page_nodes prefix l) ∙ page_ends prefix l
page_ends prefix (page.client i d k l) = ends_to_end false (page_nodes prefix k) (page_nodes prefix l) ∙ page_ends prefix l

not_true : {A : Type 0} (b : Bool) → b ≡ false → b ≡ true → A
not_true b e f = absurd (let z : false ≡ true = sym e ∙ f in cc)

-- A node that has no id of a segment, wherever it stands.
apart_other : (prefix : List ℕ) (m : Bool) (i : ℕ) (c : NewNode) (kids later : Forest) → ((h : ℕ) → has_id (segment_id prefix h) c ≡ false) → ((h : ℕ) → has_id (placeholder_id prefix h) c ≡ false)
    → StandApart prefix false kids → StandApart prefix (waits (Some c)) later → StandApart prefix m (tree i c kids later)
apart_other prefix m i c kids later s p inner outer =
    ((λ h e. not_true (has_id (segment_id prefix h) c) (s h) e), (λ h e. not_true (has_id (placeholder_id prefix h) c) (p h) e), inner, outer)

client_has : (prefix target : List ℕ) (i : Option ℕ) (digest : List ℕ) → ((n : ℕ) → bytes_eq (boundary_id prefix n) target ≡ false) → has_id target (client_template prefix i digest) ≡ false
client_has prefix target None [] h = refl
client_has prefix target None (b ∷ bs) h = refl
client_has prefix target (Some n) [] h = ap (λ b. b || false) (h n)
client_has prefix target (Some n) (b ∷ bs) h = ap (λ b. b || (false || false)) (h n)

to_end_apart : (prefix : List ℕ) (m : Bool) (content later : Nodes) → StandApart prefix m (forest_of_nodes content) → StandApart prefix false (forest_of_nodes later)
    → StandApart prefix m (forest_of_nodes (nodes_to_end content later))
to_end_apart prefix m content later inner outer =
    subst (StandApart prefix m) (sym (to_end_is content later))
    (apart-joined prefix m (forest_of_nodes content) (tree 0 (Comment End) empty (forest_of_nodes later)) inner
    (apart_other prefix (ends_after m (forest_of_nodes content)) 0 (Comment End) empty (forest_of_nodes later) (λ h. refl) (λ h. refl) tt outer))

page_apart : (prefix : List ℕ) (p : Page) → IsCleanPage prefix p → StandApart prefix false (forest prefix p)
page_apart prefix page.nothing c = tt
page_apart prefix (page.text t l) c = apart_other prefix false 0 (Text t) empty (forest prefix l) (λ h. refl) (λ h. refl) tt (page_apart prefix l c)
page_apart prefix (page.element n attributes k l) c =
    apart_other prefix false 0 (Element n attributes) (forest prefix k) (forest prefix l)
    (λ h. gives_no_id prefix (segment_id prefix h) attributes (segment_reserved prefix h) c.1) (λ h. gives_no_id prefix (placeholder_id prefix h) attributes (placeholder_reserved prefix h) c.1)
    (page_apart prefix k c.2) (page_apart prefix l c.3)
page_apart prefix (page.separator l) c = apart_other prefix false 0 (Comment Space) empty (forest prefix l) (λ h. refl) (λ h. refl) tt (page_apart prefix l c)
page_apart prefix (page.placeholder i l) c = (
  (λ h e. not_true (has_id (segment_id prefix h) (placeholder_template prefix i)) (ap (λ b. b || false) (placeholder_no_segment prefix i h)) e),
  (λ h e. refl),
  tt,
  page_apart prefix l c,
)
page_apart prefix (page.complete k l) c =
    apart_other prefix false 0 (Comment Complete) empty (forest_of_nodes (nodes_to_end (page_nodes prefix k) (page_nodes prefix l))) (λ h. refl) (λ h. refl) tt
    (to_end_apart prefix false (page_nodes prefix k) (page_nodes prefix l) (page_apart prefix k c.0) (page_apart prefix l c.1))
page_apart prefix (page.pending i k l) c =
    apart_other prefix false 0 (Comment Pending) empty (tree 0 (page.boundary_template prefix i) empty (forest_of_nodes (nodes_to_end (page_nodes prefix k) (page_nodes prefix l)))) (λ h. refl) (λ h. refl) tt
    (apart_other prefix true 0 (page.boundary_template prefix i) empty (forest_of_nodes (nodes_to_end (page_nodes prefix k) (page_nodes prefix l)))
    (λ h. ap (λ b. b || false) (boundary_no_segment prefix i h)) (λ h. ap (λ b. b || false) (boundary_no_placeholder prefix i h)) tt
    (to_end_apart prefix false (page_nodes prefix k) (page_nodes prefix l) (page_apart prefix k c.0) (page_apart prefix l c.1)))
page_apart prefix (page.client i d k l) c =
    apart_other prefix false 0 (Comment Client) empty (tree 0 (client_template prefix i d) empty (forest_of_nodes (nodes_to_end (page_nodes prefix k) (page_nodes prefix l)))) (λ h. refl) (λ h. refl) tt
    (apart_other prefix true 0 (client_template prefix i d) empty (forest_of_nodes (nodes_to_end (page_nodes prefix k) (page_nodes prefix l)))
    (λ h. client_has prefix (segment_id prefix h) i d (λ n. boundary_no_segment prefix n h)) (λ h. client_has prefix (placeholder_id prefix h) i d (λ n. boundary_no_placeholder prefix n h)) tt
    (to_end_apart prefix false (page_nodes prefix k) (page_nodes prefix l) (page_apart prefix k c.0) (page_apart prefix l c.1)))

-- A document

containers_apart : (prefix : List ℕ) (cs : List Container) → AreClean prefix cs → StandApart prefix false (forest_of_nodes (container_nodes prefix cs))
containers_apart prefix [] c = tt
containers_apart prefix (container ∷ cs) c =
    ((λ h e. (refl, page_ends prefix container.content)), (λ h e. refl), page_apart prefix container.content c.0, containers_apart prefix cs c.1)

pub streamed_apart : (prefix : List ℕ) (d : StreamedDocument) (dom : DomState) → IsStreamed prefix d dom → StandApart prefix false dom.forest
streamed_apart prefix d dom s =
    apart_by_nodes prefix false (forest_of_nodes (document_nodes prefix d)) dom.forest (nodes_of-forest_of_nodes (document_nodes prefix d) ∙ sym s.are)
    (subst (StandApart prefix false) (sym (unnumbered-joined (page_nodes prefix d.shown) (container_nodes prefix d.containers)))
    (apart-joined prefix false (forest prefix d.shown) (forest_of_nodes (container_nodes prefix d.containers)) (page_apart prefix d.shown s.clean.0)
    (subst (λ m. StandApart prefix m (forest_of_nodes (container_nodes prefix d.containers))) (sym (page_ends prefix d.shown)) (containers_apart prefix d.containers s.clean.1))))
