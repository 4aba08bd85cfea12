-- The view of a page, and of a streamed document.
use Rattle.std.proofs.Common.{◌≡◌, ℕ, ◌&&◌, ◌||◌, Bool, true, false, Option, Some, None, List, [], ◌∷◌, ◌++◌, length, take, drop, unwrap_or, refl, sym, ap, ◌∙◌, codes, append_assoc}
use Rattle.std.specs.List.{list_any}
use Rattle.std.specs.Str.{bytes_eq}
use Rattle.std.proofs.lemmas.Bool.{cond-true, cond-false}
use Rattle.std.proofs.lemmas.List.{take-append-drop}
use Rattle.std.proofs.lemmas.Slice.Eq.{bytes_eq-Decides}
use Rattle.std.proofs.Math.Seq.{take-append_seam}
use Rattle.fizz_text.specs.declared.attribute.Attr.{Attr}
use Rattle.fizz_text.specs.Hexadecimal.{hexadecimal}
use Rattle.html_names.specs.Names.{begins_with}
use Rattle.html_names.specs.Attributes.{is_reserved}
use Rattle.html_names.proofs.NamesLemmas.{reserved_after}
use Rattle.dom_forest.specs.Edits.{DomState, numbered_from}
use Rattle.dom_forest.specs.Forest.{Forest}
use Rattle.dom_forest.specs.declared.node.Mark.TheVariants.{End}
use Rattle.dom_forest.specs.declared.node.NewNode.TheVariants.{Comment}
use Rattle.fizz_instructions.specs.Bodies.{segment_id}
use Rattle.document_machine.specs.declared.status.BoundaryStatus.{BoundaryStatus}
use Rattle.document_machine.specs.declared.status.BoundaryStatus.TheVariants as status
use Rattle.document_machine.specs.Views as view
use Rattle.document_machine.specs.Views.{View, Levels, digest_after, digest_in, levels_at_end, joined_views, has_name, is_container, is_left_out, is_segment_id, levels_of, levels_at_boundary, siblings_of, view_of, with_first}
use Rattle.page_laws.specs.Nodes.{Nodes, none, node, nodes_of, forest_of_nodes, joined_nodes}
use Rattle.page_laws.specs.Pages.{Page, nothing, text, element, separator, placeholder, complete, pending, client, IsCleanPage, page_nodes, nodes_to_end, client_attributes, hidden_attribute, id_attribute, is_reserved_id}
use Rattle.page_laws.specs.Documents.{Container, StreamedDocument, container_nodes, document_nodes}
use Rattle.page_laws.specs.PageViews.{page_view, siblings_view}
use Rattle.page_laws.specs.DocumentEdits.{IsStreamed}
use Rattle.page_laws.proofs.NodesLemmas.{joined_nodes-assoc, joined_nodes-none, nodes_of-forest_of_nodes, numbered_from-forest_of_nodes}
use Rattle.page_laws.proofs.IdsLemmas.{never_true}
use Rattle.page_laws.proofs.ViewsLemmas.{joined_views-end, left_out}

-- Nodes as they are seen.
abbrev levels : List ℕ → Bool → Nodes → Levels
levels prefix at_top nodes = levels_of prefix at_top (forest_of_nodes nodes)

-- What begins with the prefix and `S:` is reserved.
begins_segment : (prefix value : List ℕ) → is_reserved prefix value ≡ false → begins_with (prefix ++ codes "S:") value ≡ false
begins_segment prefix value h = never_true (begins_with (prefix ++ codes "S:") value) (λ e.
    let mark : List ℕ = codes "S:" in
    let front : take (length (prefix ++ mark)) value ≡ prefix ++ mark = (bytes_eq-Decides (take (length (prefix ++ mark)) value) (prefix ++ mark)).0 e in
    let whole : value ≡ prefix ++ (mark ++ drop (length (prefix ++ mark)) value) =
    sym (take-append-drop (length (prefix ++ mark)) value) ∙ ap (λ x. x ++ drop (length (prefix ++ mark)) value) front ∙ append_assoc prefix mark (drop (length (prefix ++ mark)) value) in
    let yes_it_is : is_reserved prefix value ≡ true = ap (is_reserved prefix) whole ∙ reserved_after prefix (mark ++ drop (length (prefix ++ mark)) value) in
    let z : true ≡ false = sym yes_it_is ∙ h in cc)

no_segment_id : (prefix : List ℕ) (a : Attr) → is_reserved_id prefix a ≡ false → is_segment_id prefix a ≡ false
no_segment_id prefix a h = named (bytes_eq a.name (codes "id")) h where
  named : (b : Bool) → (b && is_reserved prefix (unwrap_or a.value [])) ≡ false → (b && begins_with (prefix ++ codes "S:") (unwrap_or a.value [])) ≡ false
  named true e = begins_segment prefix (unwrap_or a.value []) e
  named false e = refl

first_false : (a b : Bool) → (a || b) ≡ false → (a ≡ false) × (b ≡ false)
first_false true b h = absurd (let t : true ≡ false = h in cc)
first_false false b h = (refl, h)

no_segment_ids : (prefix : List ℕ) (attributes : List Attr) → list_any (is_reserved_id prefix) attributes ≡ false → list_any (is_segment_id prefix) attributes ≡ false
no_segment_ids prefix [] h = refl
no_segment_ids prefix (a ∷ more) h =
    let both = first_false (is_reserved_id prefix a) (list_any (is_reserved_id prefix) more) h in
    ap (λ b. b || list_any (is_segment_id prefix) more) (no_segment_id prefix a both.0) ∙ no_segment_ids prefix more both.1

-- a clean element is seen
seen_element : (prefix : List ℕ) (at_top : Bool) (name : List ℕ) (attributes : List Attr) → bytes_eq name (codes "template") ≡ false → list_any (is_reserved_id prefix) attributes ≡ false
    → is_left_out prefix at_top name attributes ≡ false
seen_element prefix at_top name attributes t r =
    ap (λ b. b || (at_top && is_container prefix name attributes)) t
    ∙ ap (λ b. at_top && ((bytes_eq name (codes "div") && has_name (codes "hidden") attributes) && b)) (no_segment_ids prefix attributes r)
    ∙ nothing_left at_top (bytes_eq name (codes "div") && has_name (codes "hidden") attributes) where
      nothing_left : (a b : Bool) → (a && (b && false)) ≡ false
      nothing_left true true = refl
      nothing_left true false = refl
      nothing_left false b = refl

digest_read : (prefix : List ℕ) (id : Option ℕ) (digest : List ℕ) → digest_in (client_attributes prefix id digest) ≡ digest
digest_read prefix None [] = refl
digest_read prefix None (b ∷ bs) = refl
digest_read prefix (Some i) [] = refl
digest_read prefix (Some i) (b ∷ bs) = refl

abbrev Sees : List ℕ → Page → Type 0
Sees prefix page = (at_top : Bool) (more : Nodes) → levels prefix at_top (joined_nodes (page_nodes prefix page) more) ≡ with_first (joined_views (page_view page)) (levels prefix at_top more)

sees_boundary : (prefix : List ℕ) (at_top : Bool) (s : BoundaryStatus) (digest : List ℕ) (k l : Page) (more : Nodes) → Sees prefix k → Sees prefix l
    → levels_at_boundary s digest (levels prefix at_top (joined_nodes (nodes_to_end (page_nodes prefix k) (page_nodes prefix l)) more)).first
    (levels prefix at_top (joined_nodes (nodes_to_end (page_nodes prefix k) (page_nodes prefix l)) more)).rest
    ≡ with_first (joined_views (view.boundary s digest (page_view k) (page_view l))) (levels prefix at_top more)
sees_boundary prefix at_top s digest k l more hk hl =
    let after : Nodes = joined_nodes (page_nodes prefix l) more in
    let rest : Levels = levels prefix at_top more in
    ap (λ n. levels_at_boundary s digest (levels prefix at_top n).first (levels prefix at_top n).rest) (joined_nodes-assoc (page_nodes prefix k) (node (Comment End) none (page_nodes prefix l)) more)
    ∙ ap (λ (x : Levels). levels_at_boundary s digest x.first x.rest) (hk at_top (node (Comment End) none after))
    ∙ ap (λ v. record { first = view.boundary s digest v (levels prefix at_top after).first; rest = (levels prefix at_top after).rest }) (joined_views-end (page_view k))
    ∙ ap (with_first (view.boundary s digest (page_view k))) (hl at_top more)

sees_alone : (prefix : List ℕ) (at_top : Bool) (page : Page) → Sees prefix page → siblings_of (levels prefix at_top (page_nodes prefix page)) ≡ page_view page
sees_alone prefix at_top page h =
    ap (λ n. siblings_of (levels prefix at_top n)) (sym (joined_nodes-none (page_nodes prefix page)))
    ∙ ap siblings_of (h at_top none) ∙ joined_views-end (page_view page)

pub levels_of-page : (prefix : List ℕ) (page : Page) → IsCleanPage prefix page → Sees prefix page
levels_of-page prefix nothing c at_top more = refl
levels_of-page prefix (text t l) c at_top more = ap (with_first (view.text t)) (levels_of-page prefix l c at_top more)
levels_of-page prefix (element n attrs k l) c at_top more =
    cond-false (is_left_out prefix at_top n attrs) _ _ (seen_element prefix at_top n attrs c.0 c.1)
    ∙ ap (λ v. with_first (view.element n attrs v) (levels prefix at_top (joined_nodes (page_nodes prefix l) more))) (sees_alone prefix false k (levels_of-page prefix k c.2))
    ∙ ap (with_first (view.element n attrs (page_view k))) (levels_of-page prefix l c.3 at_top more)
levels_of-page prefix (separator l) c at_top more = levels_of-page prefix l c at_top more
levels_of-page prefix (placeholder i l) c at_top more = levels_of-page prefix l c at_top more
levels_of-page prefix (complete k l) c at_top more = sees_boundary prefix at_top status.Complete [] k l more (levels_of-page prefix k c.0) (levels_of-page prefix l c.1)
levels_of-page prefix (pending i k l) c at_top more = sees_boundary prefix at_top status.Pending [] k l more (levels_of-page prefix k c.0) (levels_of-page prefix l c.1)
levels_of-page prefix (client i d k l) c at_top more =
    let inner : Nodes = joined_nodes (nodes_to_end (page_nodes prefix k) (page_nodes prefix l)) more in
    ap (λ x. levels_at_boundary status.Client x (levels prefix at_top inner).first (levels prefix at_top inner).rest) (digest_read prefix i d)
    ∙ sees_boundary prefix at_top status.Client d k l more (levels_of-page prefix k c.0) (levels_of-page prefix l c.1)

-- Containers are left out.
begins_own : (prefix : List ℕ) (h : ℕ) → begins_with (prefix ++ codes "S:") (segment_id prefix h) ≡ true
begins_own prefix h =
    let mark : List ℕ = codes "S:" in
    let whole : segment_id prefix h ≡ (prefix ++ mark) ++ hexadecimal h = sym (append_assoc prefix mark (hexadecimal h)) in
    (bytes_eq-Decides (take (length (prefix ++ mark)) (segment_id prefix h)) (prefix ++ mark)).1
    (ap (take (length (prefix ++ mark))) whole ∙ take-append_seam (prefix ++ mark) (hexadecimal h))

pub own_container : (prefix : List ℕ) (h : ℕ) → is_container prefix (codes "div") (hidden_attribute ∷ id_attribute (segment_id prefix h) ∷ []) ≡ true
own_container prefix h = ap (λ b. b || false) (begins_own prefix h)

pub levels_of-containers : (prefix : List ℕ) (cs : List Container) → levels prefix true (container_nodes prefix cs) ≡ record { first = view.end; rest = [] }
levels_of-containers prefix [] = refl
levels_of-containers prefix (c ∷ cs) =
    let attributes : List Attr = hidden_attribute ∷ id_attribute (segment_id prefix c.id) ∷ [] in
    cond-true (is_left_out prefix true (codes "div") attributes) _ _ (left_out prefix (codes "div") attributes (own_container prefix c.id))
    ∙ levels_of-containers prefix cs

pub levels_by_nodes : (prefix : List ℕ) (f g : Forest) → nodes_of f ≡ nodes_of g → ((n : ℕ) (h : Forest) → view_of prefix (numbered_from n h) ≡ view_of prefix h) → view_of prefix f ≡ view_of prefix g
levels_by_nodes prefix f g e ids =
    sym (ids 0 f) ∙ ap (view_of prefix) (sym (numbered_from-forest_of_nodes 0 f)) ∙ ap (λ n. view_of prefix (numbered_from 0 (forest_of_nodes n))) e
    ∙ ap (view_of prefix) (numbered_from-forest_of_nodes 0 g) ∙ ids 0 g

pub page_seen : (prefix : List ℕ) (at_top : Bool) (page : Page) → IsCleanPage prefix page → siblings_view prefix at_top (forest_of_nodes (page_nodes prefix page)) ≡ page_view page
page_seen prefix at_top page c = sees_alone prefix at_top page (levels_of-page prefix page c)

shown_alone : (prefix : List ℕ) (d : StreamedDocument) → IsCleanPage prefix d.shown → view_of prefix (forest_of_nodes (document_nodes prefix d)) ≡ page_view d.shown
shown_alone prefix d c =
    ap siblings_of (levels_of-page prefix d.shown c true (container_nodes prefix d.containers)
    ∙ ap (with_first (joined_views (page_view d.shown))) (levels_of-containers prefix d.containers))
    ∙ joined_views-end (page_view d.shown)

pub document_seen : ((prefix : List ℕ) (n : ℕ) (h : Forest) → view_of prefix (numbered_from n h) ≡ view_of prefix h) → (prefix : List ℕ) (d : StreamedDocument) (dom : DomState) → IsStreamed prefix d dom
    → view_of prefix dom.forest ≡ page_view d.shown
document_seen ids prefix d dom s =
    levels_by_nodes prefix dom.forest (forest_of_nodes (document_nodes prefix d)) (s.are ∙ sym (nodes_of-forest_of_nodes (document_nodes prefix d))) (ids prefix)
    ∙ shown_alone prefix d s.clean.0
