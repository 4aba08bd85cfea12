-- Content that is shown whole, of forests, of nodes and of pages.
use Rattle.std.proofs.Common.{◌≡◌, ℕ, ◌+◌, ◌-◌, ◌<◌, ◌≤◌, ◌==◌, eqb, not, ◌&&◌, ◌||◌, Bool, true, false, inl, inr, Option, Some, None, List, [], ◌∷◌, ◌++◌, length, take, drop, get_or, refl, sym, ap, ◌∙◌, subst, arith, codes, append_assoc}
use Rattle.std.specs.List.{list_any}
use Rattle.std.specs.Str.{bytes_eq}
use Rattle.std.proofs.lemmas.Bool.{cond-true, cond-false, eq-eqb, eqb-true, cases_eq}
use Rattle.std.proofs.lemmas.List.{take-append-drop}
use Rattle.std.proofs.lemmas.Slice.Eq.{bytes_eq-Decides}
use Rattle.fizz_text.specs.Hexadecimal.{hexadecimal}
use Rattle.html_names.specs.Names.{begins_with}
use Rattle.dom_forest.specs.Boundary.{closing_mark}
use Rattle.dom_forest.specs.Edits.{DomState, IsNumbered}
use Rattle.dom_forest.specs.Forest.{Forest, empty, tree, times, joined_forests, from, first_content, first_later, content_of, later_of}
use Rattle.dom_forest.specs.declared.node.Mark.TheVariants.{Complete, Pending, Client, End, Space}
use Rattle.dom_forest.specs.declared.node.NewNode.{NewNode}
use Rattle.dom_forest.specs.declared.node.NewNode.TheVariants.{Element, Text, Comment}
use Rattle.fizz_instructions.specs.Bodies.{boundary_id}
use Rattle.std.proofs.lemmas.List.{append_cancel_left}
use Rattle.document_machine.specs.Reveals.{RevealsWhole, has_placeholder_before, is_placeholder, is_placeholder_id}
use Rattle.page_laws.specs.Balance.{closes_all}
use Rattle.page_laws.specs.Documents.{Container, StreamedDocument, AreClean, container_nodes}
use Rattle.page_laws.specs.DocumentEdits.{IsStreamed}
use Rattle.page_laws.specs.NodeReveals.{EachRevealsWhole, IsPrefixOf, IsWholeAfter, IsWholeUpToEnd, RevealsWholeDocument, RevealsWholeNodes, has_placeholder, stops, cuts, below, past}
use Rattle.page_laws.specs.Nodes.{Nodes, none, node, nodes_of, joined_nodes}
use Rattle.page_laws.specs.Pages.{Page, nothing, text, element, separator, placeholder, complete, pending, client, HasNoPlaceholder, IsCleanPage, RevealsWholePage, boundary_template, client_template, page_nodes}
use Rattle.page_laws.proofs.Contexts.{Context, here, under, after, plug, times-plug}
use Rattle.page_laws.proofs.FindLemmas.{stands}
use Rattle.page_laws.proofs.IdsLemmas.{never_true}
use Rattle.page_laws.proofs.MachineEdits.{from_first, one_self, one_zero, times-joined}
use Rattle.page_laws.proofs.NodesLemmas.{joined_nodes-assoc, joined_nodes-none, nodes_of-joined}
use Rattle.page_laws.proofs.PagesLemmas.{both_true, page_balanced}
use Rattle.page_laws.proofs.ViewsLemmas.{ends_at}
use Rattle.document_machine.proofs.Spots.{absent}

-- What a forest reveals is what its nodes do.

whole_at : (prefix : List ℕ) (C : Context) (m : ℕ) (k l : Forest) → RevealsWholeNodes prefix (nodes_of (plug C (tree m (Comment Complete) k l))) → IsWholeUpToEnd prefix (nodes_of l)
whole_at prefix here m k l w = w.0
whole_at prefix (under i x c later) m k l w = whole_at prefix c m k l w.1
whole_at prefix (after i x kids c) m k l w = whole_at prefix c m k l w.2

has_placeholder_below : (prefix : List ℕ) (end : ℕ) (f : Forest) → times end f ≡ 0 → has_placeholder_before prefix end f ≡ has_placeholder prefix (nodes_of f)
has_placeholder_below prefix end empty z = refl
has_placeholder_below prefix end (tree i y kids later) z =
    cond-false (eqb i end) _ _ (one_zero (i == end) (omega arith))
    ∙ ap (λ b. is_placeholder prefix y || (b || has_placeholder_before prefix end later)) (has_placeholder_below prefix end kids (omega arith))
    ∙ ap (λ b. is_placeholder prefix y || (has_placeholder prefix (nodes_of kids) || b)) (has_placeholder_below prefix end later (omega arith))

has_placeholder_inside : (prefix : List ℕ) (end : ℕ) (inside : Forest) (x : NewNode) (k l : Forest) → times end inside ≡ 0
    → has_placeholder_before prefix end (joined_forests inside (tree end x k l)) ≡ has_placeholder prefix (nodes_of inside)
has_placeholder_inside prefix end empty x k l z = cond-true (eqb end end) _ _ (eq-eqb end end refl)
has_placeholder_inside prefix end (tree i y kids later) x k l z =
    cond-false (eqb i end) _ _ (one_zero (i == end) (omega arith))
    ∙ ap (λ b. is_placeholder prefix y || (b || has_placeholder_before prefix end (joined_forests later (tree end x k l)))) (has_placeholder_below prefix end kids (omega arith))
    ∙ ap (λ b. is_placeholder prefix y || (has_placeholder prefix (nodes_of kids) || b)) (has_placeholder_inside prefix end later x k l (omega arith))

there : (n : ℕ) (forest : Forest) (x : NewNode) → content_of n forest ≡ Some x → 0 < times n forest
there n forest x e = elim (cases_eq (times n forest) 0) [
  | inl z ↦ absurd (let t : None ≡ Some x = sym (ap first_content (absent n forest z).from_is) ∙ e in cc)
  | inr z ↦ omega arith
]

pub reveals_whole : (prefix : List ℕ) (dom : DomState) → IsNumbered dom → RevealsWholeNodes prefix (nodes_of dom.forest) → RevealsWhole prefix dom.forest
reveals_whole prefix dom numbered whole = λ marker end content_is end_is.
    let s = stands marker dom.forest (there marker dom.forest (Comment Complete) content_is) in
    let once : (j : ℕ) → times j (plug s.context (tree marker s.content s.kids s.later)) ≤ 1 = λ j. subst (λ f. times j f ≤ 1) s.is (numbered.once j) in
    let found : from marker dom.forest ≡ tree marker s.content s.kids s.later = ap (from marker) s.is ∙ from_first s.context marker s.content s.kids s.later once in
    let same : Some s.content ≡ Some (Comment Complete) = sym (ap first_content found) ∙ content_is in
    let content : s.content ≡ Comment Complete = cc in
    let later : later_of marker dom.forest ≡ s.later = ap first_later found in
    let ends = ends_at s.later end (ap (λ f. closing_mark f 0) (sym later) ∙ end_is) in
    let here_whole : IsWholeUpToEnd prefix (nodes_of s.later) =
    whole_at prefix s.context marker s.kids s.later
    (subst (λ f. RevealsWholeNodes prefix (nodes_of f)) (s.is ∙ ap (λ x. plug s.context (tree marker x s.kids s.later)) content) whole) in
    let no_end : times end ends.inside ≡ 0 =
    omega (
      arith,
      once end,
      times-plug end s.context (tree marker s.content s.kids s.later),
      ap (times end) ends.whole,
      times-joined end ends.inside (tree end (Comment End) ends.below ends.after),
      one_self end,
    ) in
    ap (has_placeholder_before prefix end) (later ∙ ends.whole)
    ∙ has_placeholder_inside prefix end ends.inside (Comment End) ends.below ends.after no_end
    ∙ here_whole (nodes_of ends.inside) (nodes_of ends.below) (nodes_of ends.after)
    (ap nodes_of ends.whole ∙ nodes_of-joined ends.inside (tree end (Comment End) ends.below ends.after)) ends.balanced

-- What stands before the end of a boundary is one list.

abbrev open_past : NewNode → ℕ → ℕ
open_past (Element name attributes) n = n
open_past (Text t) n = n
open_past (Comment Complete) n = n + 1
open_past (Comment Pending) n = n + 1
open_past (Comment Client) n = n + 1
open_past (Comment End) n = n - 1
open_past (Comment Space) n = n

closes_next : (x : NewNode) (k l : Nodes) (n : ℕ) → closes_all (node x k l) n ≡ true → closes_all l (open_past x n) ≡ true
closes_next (Element name attributes) k l n e = e
closes_next (Text t) k l n e = e
closes_next (Comment Complete) k l n e = e
closes_next (Comment Pending) k l n e = e
closes_next (Comment Client) k l n e = e
closes_next (Comment End) k l n e = (both_true (not (n == 0)) (closes_all l (n - 1)) e).1
closes_next (Comment Space) k l n e = e

no_end_here : (x : NewNode) (k l : Nodes) (n : ℕ) → x ≡ Comment End → n ≡ 0 → closes_all (node x k l) n ≡ true → ⊥
no_end_here x k l n is z e =
    let t : false ≡ true = sym (ap (λ y. closes_all (node y k l) n) is ∙ ap (λ m. not (m == 0) && closes_all l (m - 1)) z) ∙ e in cc

same_inside : (a a' x b x' b' : Nodes) (n : ℕ) → closes_all a n ≡ true → closes_all a' n ≡ true
    → joined_nodes a (node (Comment End) x b) ≡ joined_nodes a' (node (Comment End) x' b') → a ≡ a'
same_inside none none x b x' b' n c c' e = refl
same_inside none (node y k l) x b x' b' n c c' e =
    let same : node (Comment End) x b ≡ node y k (joined_nodes l (node (Comment End) x' b')) = e in
    let is : y ≡ Comment End = cc in
    absurd (no_end_here y k l n is (eqb-true n 0 c) c')
same_inside (node y k l) none x b x' b' n c c' e =
    let same : node y k (joined_nodes l (node (Comment End) x b)) ≡ node (Comment End) x' b' = e in
    let is : y ≡ Comment End = cc in
    absurd (no_end_here y k l n is (eqb-true n 0 c') c)
same_inside (node y k l) (node y' k' l') x b x' b' n c c' e =
    let same : node y k (joined_nodes l (node (Comment End) x b)) ≡ node y' k' (joined_nodes l' (node (Comment End) x' b')) = e in
    let content : y ≡ y' = cc in
    let kids : k ≡ k' = cc in
    let rest : joined_nodes l (node (Comment End) x b) ≡ joined_nodes l' (node (Comment End) x' b') = cc in
    let later : l ≡ l' = same_inside l l' x b x' b' (open_past y n) (closes_next y k l n c)
    (ap (λ z. closes_all l' (open_past z n)) content ∙ closes_next y' k' l' n c') rest in
    cc

-- Pages

no_placeholder_join : (prefix : List ℕ) (a b : Nodes) → has_placeholder prefix a ≡ false → has_placeholder prefix b ≡ false → has_placeholder prefix (joined_nodes a b) ≡ false
no_placeholder_join prefix none b x y = y
no_placeholder_join prefix (node z k l) b x y =
    let first = either_false (is_placeholder prefix z) (has_placeholder prefix k || has_placeholder prefix l) x in
    let second = either_false (has_placeholder prefix k) (has_placeholder prefix l) first.1 in
    ap (λ c. c || (has_placeholder prefix k || has_placeholder prefix (joined_nodes l b))) first.0
    ∙ ap (λ c. c || has_placeholder prefix (joined_nodes l b)) second.0 ∙ no_placeholder_join prefix l b second.1 y where
      either_false : (c d : Bool) → (c || d) ≡ false → (c ≡ false) × (d ≡ false)
      either_false true d e = absurd (let t : true ≡ false = e in cc)
      either_false false d e = (refl, e)

boundary_is_none : (prefix : List ℕ) (i : ℕ) → begins_with (prefix ++ codes "P:") (boundary_id prefix i) ≡ false
boundary_is_none prefix i = never_true (begins_with (prefix ++ codes "P:") (boundary_id prefix i)) (λ e.
    let mark : List ℕ = codes "P:" in
    let rest : List ℕ = drop (length (prefix ++ mark)) (boundary_id prefix i) in
    let front : take (length (prefix ++ mark)) (boundary_id prefix i) ≡ prefix ++ mark = (bytes_eq-Decides (take (length (prefix ++ mark)) (boundary_id prefix i)) (prefix ++ mark)).0 e in
    let whole : prefix ++ (codes "B:" ++ hexadecimal i) ≡ prefix ++ (mark ++ rest) =
    sym (take-append-drop (length (prefix ++ mark)) (boundary_id prefix i)) ∙ ap (λ x. x ++ rest) front ∙ append_assoc prefix mark rest in
    let apart : get_or (codes "B:" ++ hexadecimal i) 0 0 ≡ get_or (mark ++ rest) 0 0 = ap (λ bytes. get_or bytes 0 0) (append_cancel_left prefix _ _ whole) in
    omega (arith, apart))

boundary_template_is_none : (prefix : List ℕ) (i : ℕ) → is_placeholder prefix (boundary_template prefix i) ≡ false
boundary_template_is_none prefix i = ap (λ b. b || false) (boundary_is_none prefix i)

client_template_is_none : (prefix : List ℕ) (i : Option ℕ) (digest : List ℕ) → is_placeholder prefix (client_template prefix i digest) ≡ false
client_template_is_none prefix None [] = refl
client_template_is_none prefix None (b ∷ bs) = refl
client_template_is_none prefix (Some i) [] = ap (λ b. b || false) (boundary_is_none prefix i)
client_template_is_none prefix (Some i) (b ∷ bs) = ap (λ c. c || false) (boundary_is_none prefix i)

element_is_none : (prefix name : List ℕ) (attributes : _) → bytes_eq name (codes "template") ≡ false → is_placeholder prefix (Element name attributes) ≡ false
element_is_none prefix name attributes e = ap (λ b. b && list_any (is_placeholder_id prefix) attributes) e

three : (a b c : Bool) → a ≡ false → b ≡ false → c ≡ false → (a || (b || c)) ≡ false
three a b c x y z = ap (λ d. d || (b || c)) x ∙ ap (λ d. d || c) y ∙ z

pub no_placeholder_in : (prefix : List ℕ) (page : Page) → IsCleanPage prefix page → HasNoPlaceholder page → has_placeholder prefix (page_nodes prefix page) ≡ false
no_placeholder_in prefix nothing c h = refl
no_placeholder_in prefix (text t l) c h = no_placeholder_in prefix l c h
no_placeholder_in prefix (element n attrs k l) c h =
    three _ _ _ (element_is_none prefix n attrs c.0) (no_placeholder_in prefix k c.2 h.0) (no_placeholder_in prefix l c.3 h.1)
no_placeholder_in prefix (separator l) c h = no_placeholder_in prefix l c h
no_placeholder_in prefix (placeholder i l) c h = absurd h
no_placeholder_in prefix (complete k l) c h =
    no_placeholder_join prefix (page_nodes prefix k) (node (Comment End) none (page_nodes prefix l)) (no_placeholder_in prefix k c.0 h.0) (no_placeholder_in prefix l c.1 h.1)
no_placeholder_in prefix (pending i k l) c h =
    three _ false _ (boundary_template_is_none prefix i) refl
    (no_placeholder_join prefix (page_nodes prefix k) (node (Comment End) none (page_nodes prefix l)) (no_placeholder_in prefix k c.0 h.0) (no_placeholder_in prefix l c.1 h.1))
no_placeholder_in prefix (client i d k l) c h =
    three _ false _ (client_template_is_none prefix i d) refl
    (no_placeholder_join prefix (page_nodes prefix k) (node (Comment End) none (page_nodes prefix l)) (no_placeholder_in prefix k c.0 h.0) (no_placeholder_in prefix l c.1 h.1))

whole_to_end : (prefix : List ℕ) (k : Page) (later : Nodes) → IsCleanPage prefix k → HasNoPlaceholder k → IsWholeUpToEnd prefix (joined_nodes (page_nodes prefix k) (node (Comment End) none later))
whole_to_end prefix k later clean h = λ inside below after e balanced.
    ap (has_placeholder prefix) (sym (same_inside (page_nodes prefix k) inside none later below after 0 (page_balanced prefix k) balanced e))
    ∙ no_placeholder_in prefix k clean h

pub whole_page : (prefix : List ℕ) (page : Page) → IsCleanPage prefix page → RevealsWholePage page → (more : Nodes) → RevealsWholeNodes prefix more
    → RevealsWholeNodes prefix (joined_nodes (page_nodes prefix page) more)
whole_page prefix nothing c w more m = m
whole_page prefix (text t l) c w more m = (tt, tt, whole_page prefix l c w more m)
whole_page prefix (element n attrs k l) c w more m =
    (tt, subst (RevealsWholeNodes prefix) (joined_nodes-none (page_nodes prefix k)) (whole_page prefix k c.2 w.0 none tt), whole_page prefix l c.3 w.1 more m)
whole_page prefix (separator l) c w more m = (tt, tt, whole_page prefix l c w more m)
whole_page prefix (placeholder i l) c w more m = (tt, tt, whole_page prefix l c w more m)
whole_page prefix (complete k l) c w more m =
    let grouped = joined_nodes-assoc (page_nodes prefix k) (node (Comment End) none (page_nodes prefix l)) more in
    let later : Nodes = joined_nodes (page_nodes prefix l) more in (
      subst (IsWholeUpToEnd prefix) (sym grouped) (whole_to_end prefix k later c.0 w.0),
      tt,
      subst (RevealsWholeNodes prefix) (sym grouped) (whole_page prefix k c.0 w.1 (node (Comment End) none later) (tt, tt, whole_page prefix l c.1 w.2 more m)),
    )
whole_page prefix (pending i k l) c w more m =
    let grouped = joined_nodes-assoc (page_nodes prefix k) (node (Comment End) none (page_nodes prefix l)) more in
    let later : Nodes = joined_nodes (page_nodes prefix l) more in
    (tt, tt, (tt, tt, subst (RevealsWholeNodes prefix) (sym grouped) (whole_page prefix k c.0 w.0 (node (Comment End) none later) (tt, tt, whole_page prefix l c.1 w.1 more m))))
whole_page prefix (client i d k l) c w more m =
    let grouped = joined_nodes-assoc (page_nodes prefix k) (node (Comment End) none (page_nodes prefix l)) more in
    let later : Nodes = joined_nodes (page_nodes prefix l) more in
    (tt, tt, (tt, tt, subst (RevealsWholeNodes prefix) (sym grouped) (whole_page prefix k c.0 w.0 (node (Comment End) none later) (tt, tt, whole_page prefix l c.1 w.1 more m))))

whole_containers : (prefix : List ℕ) (cs : List Container) → AreClean prefix cs → EachRevealsWhole cs → RevealsWholeNodes prefix (container_nodes prefix cs)
whole_containers prefix [] clean w = tt
whole_containers prefix (c ∷ cs) clean w =
    (tt, subst (RevealsWholeNodes prefix) (joined_nodes-none (page_nodes prefix c.content)) (whole_page prefix c.content clean.0 w.0 none tt), whole_containers prefix cs clean.1 w.1)

pub whole_document : (prefix : List ℕ) (d : StreamedDocument) (dom : DomState) → IsStreamed prefix d dom → RevealsWholeDocument d → RevealsWholeNodes prefix (nodes_of dom.forest)
whole_document prefix d dom s w =
    subst (RevealsWholeNodes prefix) (sym s.are) (whole_page prefix d.shown s.clean.0 w.0 (container_nodes prefix d.containers) (whole_containers prefix d.containers s.clean.1 w.1))

-- The first nodes of a document

no_join : (inside : Nodes) (x : NewNode) (k l : Nodes) → none ≡ joined_nodes inside (node x k l) → ⊥
no_join none x k l e = let t : none ≡ node x k l = e in cc
no_join (node y ky ly) x k l e = let t : none ≡ node y ky (joined_nodes ly (node x k l)) = e in cc

record Later (inside : Nodes) (x : NewNode) (later : Nodes) : Type 0 where
  kids : Nodes
  rest : Nodes
  is : later ≡ joined_nodes inside (node x kids rest)

later_of_prefix : (front later : Nodes) → IsPrefixOf front later → (inside : Nodes) (m : _) (k l : Nodes) → front ≡ joined_nodes inside (node (Comment m) k l) → Later inside (Comment m) later
later_of_prefix _ _ (stops nodes) inside m k l e = absurd (no_join inside (Comment m) k l e)
later_of_prefix _ _ (cuts front t later) none m k l e = absurd (let z : node (Text front) none none ≡ node (Comment m) k l = e in cc)
later_of_prefix _ _ (cuts front t later) (node y ky ly) m k l e =
    let z : node (Text front) none none ≡ node y ky (joined_nodes ly (node (Comment m) k l)) = e in
    absurd (no_join ly (Comment m) k l (cc))
later_of_prefix _ _ (below content front kids later p) none m k l e =
    let z : node content front none ≡ node (Comment m) k l = e in
    let same : content ≡ Comment m = cc in
    record { kids = kids; rest = later; is = ap (λ x. node x kids later) same }
later_of_prefix _ _ (below content front kids later p) (node y ky ly) m k l e =
    let z : node content front none ≡ node y ky (joined_nodes ly (node (Comment m) k l)) = e in
    absurd (no_join ly (Comment m) k l (cc))
later_of_prefix _ _ (past content kids front later p) none m k l e =
    let z : node content kids front ≡ node (Comment m) k l = e in
    let same : content ≡ Comment m = cc in
    record { kids = kids; rest = later; is = ap (λ x. node x kids later) same }
later_of_prefix _ _ (past content kids front later p) (node y ky ly) m k l e =
    let z : node content kids front ≡ node y ky (joined_nodes ly (node (Comment m) k l)) = e in
    let same : content ≡ y = cc in
    let inner : kids ≡ ky = cc in
    let r = later_of_prefix front later p ly m k l (cc) in
    record { kids = r.kids; rest = r.rest; is = ap (λ x. node x kids later) same ∙ ap (λ x. node y x later) inner ∙ ap (node y ky) r.is }

whole_after_prefix : (prefix : List ℕ) (x : NewNode) (front later : Nodes) → IsPrefixOf front later → IsWholeAfter prefix x later → IsWholeAfter prefix x front
whole_after_prefix prefix (Element name attributes) front later p w = tt
whole_after_prefix prefix (Text t) front later p w = tt
whole_after_prefix prefix (Comment Complete) front later p w = λ inside below after e balanced.
    let r = later_of_prefix front later p inside End below after e in w inside r.kids r.rest r.is balanced
whole_after_prefix prefix (Comment Pending) front later p w = tt
whole_after_prefix prefix (Comment Client) front later p w = tt
whole_after_prefix prefix (Comment End) front later p w = tt
whole_after_prefix prefix (Comment Space) front later p w = tt

pub whole_prefix : (prefix : List ℕ) (front nodes : Nodes) → IsPrefixOf front nodes → RevealsWholeNodes prefix nodes → RevealsWholeNodes prefix front
whole_prefix prefix _ _ (stops nodes) w = tt
whole_prefix prefix _ _ (cuts front t later) w = (tt, tt, tt)
whole_prefix prefix _ _ (below content front kids later p) w =
    (whole_after_prefix prefix content none later (stops later) w.0, whole_prefix prefix front kids p w.1, tt)
whole_prefix prefix _ _ (past content kids front later p) w =
    (whole_after_prefix prefix content front later p w.0, w.1, whole_prefix prefix front later p w.2)
