-- The machine's edits of a streamed document are those of its pages.
use Rattle.std.proofs.Common.{◌≡◌, ℕ, ◌+◌, ◌≤◌, true, false, List, [], ◌∷◌, ◌++◌, Some, refl, sym, ap, ◌∙◌, subst, arith}
use Rattle.dom_forest.specs.Forest.{Forest, empty, tree, times, joined_forests}
use Rattle.dom_forest.specs.Edits.{DomState, IsNumbered}
use Rattle.dom_forest.specs.Ids.{has_id}
use Rattle.dom_forest.specs.declared.node.Mark.TheVariants.{Complete, Pending, End}
use Rattle.dom_forest.specs.declared.node.NewNode.TheVariants.{Comment}
use Rattle.fizz_instructions.specs.Bodies.{boundary_id, placeholder_id, segment_id}
use Rattle.document_machine.specs.Edits.{client_render, complete_boundary, fill_placeholder}
use Rattle.page_laws.specs.Nodes.{Nodes, none, node, nodes_of, joined_nodes, id_count}
use Rattle.page_laws.specs.Pages.{Page, IsCleanPage, page_nodes, placeholder_template, boundary_template, client_template, placeholder_count, pending_count, client_count, nodes_to_end}
use Rattle.page_laws.specs.PageEdits.{with_placeholder_filled, with_boundary_completed, with_boundary_failed}
use Rattle.page_laws.specs.Documents.{Container, StreamedDocument, container_element, container_nodes, document_nodes, edited_pages, sum_of_pages, container_count, AreClean}
use Rattle.page_laws.specs.DocumentEdits.{LeavesNodes, IsStreamed, HasContainer}
use Rattle.page_laws.specs.Balance.{IsBalanced}
use Rattle.page_laws.proofs.Contexts.{Context, plug, plug_nodes, nodes_of-plug}
use Rattle.page_laws.proofs.IdsLemmas.{bytes_same, segment_no_placeholder}
use Rattle.page_laws.proofs.NodesLemmas.{id_count-joined}
use Rattle.page_laws.proofs.PagesLemmas.{or_false, placeholder_ids, boundary_ids, segment_ids}
use Rattle.page_laws.proofs.Turned.{placed, first, halves, nothing_in}
use Rattle.page_laws.proofs.PageEditsLemmas.{Fills, Completes, Fails, fills_open, completes_open, fails_open, with_placeholder_filled-none, with_placeholder_filled-turns, with_boundary_completed-none, with_boundary_completed-turns, with_boundary_failed-none, with_boundary_failed-turns}
use Rattle.page_laws.proofs.DocumentsLemmas.{Leaves, placeholder_ids_in, boundary_ids_in, segment_ids_in, sum_of_both, container_count-append, clean_append, clean_joined, leaves_turns, document_turns}
use Rattle.page_laws.proofs.MachineEdits.{one_self}
use Rattle.page_laws.proofs.Filling.{fills}
use Rattle.page_laws.proofs.Completing.{completes, fails, template_after}

-- The ids of the elements that the renderer makes.
own_segment : (prefix : List ℕ) (h : ℕ) → has_id (segment_id prefix h) (container_element prefix h) ≡ true
own_segment prefix h = or_false _ ∙ bytes_same (segment_id prefix h) (segment_id prefix h) refl

own_placeholder : (prefix : List ℕ) (h : ℕ) → has_id (placeholder_id prefix h) (placeholder_template prefix h) ≡ true
own_placeholder prefix h = or_false _ ∙ bytes_same (placeholder_id prefix h) (placeholder_id prefix h) refl

own_boundary : (prefix : List ℕ) (h : ℕ) → has_id (boundary_id prefix h) (boundary_template prefix h) ≡ true
own_boundary prefix h = or_false _ ∙ bytes_same (boundary_id prefix h) (boundary_id prefix h) refl

segment_holds_no_placeholder : (prefix : List ℕ) (h : ℕ) → has_id (placeholder_id prefix h) (container_element prefix h) ≡ false
segment_holds_no_placeholder prefix h = or_false _ ∙ segment_no_placeholder prefix h h

-- How often an id stands in a document.
document_boundaries : (prefix : List ℕ) (h : ℕ) (d : StreamedDocument) (dom : DomState) → IsStreamed prefix d dom
    → id_count (boundary_id prefix h) (nodes_of dom.forest) ≡ sum_of_pages (pending_count h) d + sum_of_pages (client_count h) d
document_boundaries prefix h d dom s =
    omega (
      arith,
      ap (id_count (boundary_id prefix h)) s.are,
      id_count-joined (boundary_id prefix h) (page_nodes prefix d.shown) (container_nodes prefix d.containers),
      boundary_ids prefix h d.shown s.clean.0,
      boundary_ids_in prefix h d.containers s.clean.1,
      sum_of_both (pending_count h) (client_count h) d.containers,
    )

-- the template of a pending boundary with a digest
template_with_digest : (prefix : List ℕ) (h : ℕ) (digest : List ℕ) → template_after (boundary_template prefix h) digest ≡ client_template prefix (Some h) digest
template_with_digest prefix h [] = refl
template_with_digest prefix h (b ∷ bs) = refl

-- `$RX`

client_part : (prefix : List ℕ) (h next : ℕ) (digest : List ℕ) (C : Context) (part : Forest) (to : Nodes) → IsNumbered (record { forest = plug C part; next = next })
    → id_count (boundary_id prefix h) (nodes_of (plug C part)) ≡ 1 → Fails prefix h digest (nodes_of part) to
    → LeavesNodes (client_render prefix h digest (record { forest = plug C part; next = next })) (plug_nodes C to)
client_part prefix h next digest C part to numbered one_id r =
    let m = first (Comment Pending) none (node (boundary_template prefix h) none r.rest) part r.from_is in
    let t = first (boundary_template prefix h) none r.rest m.later m.later_are in
    let Goal : Forest → Type 0 = λ p. LeavesNodes (client_render prefix h digest (record { forest = plug C p; next = next })) (plug_nodes C to) in
    let shape : part ≡ tree m.id (Comment Pending) empty (tree t.id (boundary_template prefix h) empty t.later) =
    m.is ∙ ap (λ k. tree m.id (Comment Pending) k m.later) (nothing_in m.kids m.kids_are)
    ∙ ap (tree m.id (Comment Pending) empty) (t.is ∙ ap (λ k. tree t.id (boundary_template prefix h) k t.later) (nothing_in t.kids t.kids_are)) in
    subst Goal (sym shape)
    (subst (λ n. LeavesNodes (client_render prefix h digest (record { forest = plug C (tree m.id (Comment Pending) empty (tree t.id (boundary_template prefix h) empty t.later)); next = next })) (plug_nodes C n)) (sym r.to_is)
    (fails C m.id t.id (boundary_template prefix h) t.later (λ j. subst (λ p. times j (plug C p) ≤ 1) shape (numbered.once j)) prefix h next digest r.rest
    (own_boundary prefix h) (ap (λ p. id_count (boundary_id prefix h) (nodes_of (plug C p))) (sym shape) ∙ one_id) (template_with_digest prefix h digest) t.later_are))

-- The document is numbered, and its one pending boundary with the id is left to the client.
pub client_leaves : (prefix : List ℕ) (h : ℕ) (digest : List ℕ) (d : StreamedDocument) (dom : DomState) → IsStreamed prefix d dom
    → sum_of_pages (pending_count h) d ≡ 1 → sum_of_pages (client_count h) d ≡ 0
    → LeavesNodes (client_render prefix h digest dom) (document_nodes prefix (edited_pages (with_boundary_failed h digest) d))
client_leaves prefix h digest d dom s one_pending no_client =
    let edit : Page → Page = with_boundary_failed h digest in
    let to : Nodes = document_nodes prefix (edited_pages edit d) in
    let turned = document_turns prefix (Fails prefix h digest) (fails_open prefix h digest) edit (pending_count h)
    (with_boundary_failed-none h digest) (with_boundary_failed-turns prefix h digest) d one_pending in
    let p = placed (Fails prefix h digest) (document_nodes prefix d) to turned dom.forest s.are in
    let ids : id_count (boundary_id prefix h) (nodes_of dom.forest) ≡ 1 = document_boundaries prefix h d dom s ∙ omega arith in
    subst (λ n. LeavesNodes (client_render prefix h digest dom) n) p.becomes
    (subst (λ f. LeavesNodes (client_render prefix h digest (record { forest = f; next = dom.next })) (plug_nodes p.context p.to)) (sym p.is)
    (client_part prefix h dom.next digest p.context p.part p.to
    (subst (λ f. IsNumbered (record { forest = f; next = dom.next })) p.is s.numbered)
    (ap (λ f. id_count (boundary_id prefix h) (nodes_of f)) (sym p.is) ∙ ids) p.rule))

-- `$RS` and `$RC`: the container is found first.
record Held (prefix : List ℕ) (h : ℕ) (content : Page) (left : StreamedDocument) (dom : DomState) : Type 0 where
  context : Context
  id : ℕ
  kids : Forest
  later : Forest
  is : dom.forest ≡ plug context (tree id (container_element prefix h) kids later)
  kids_are : nodes_of kids ≡ page_nodes prefix content
  left_are : nodes_of (plug context later) ≡ document_nodes prefix left

held : (prefix : List ℕ) (h : ℕ) (content : Page) (left : StreamedDocument) (dom : DomState) (x : HasContainer prefix h content left dom) → Held prefix h content left dom
held prefix h content left dom x =
    let Rule : Nodes → Nodes → Type 0 = Leaves prefix h (page_nodes prefix content) in
    let p = placed Rule _ _ (leaves_turns prefix h content left.shown x.front x.back) dom.forest x.streamed.are in
    let f = first (container_element prefix h) (page_nodes prefix content) p.to p.part p.rule.from_is in
    record {
      context = p.context;
      id = f.id;
      kids = f.kids;
      later = f.later;
      is = p.is ∙ ap (plug p.context) f.is;
      kids_are = f.kids_are;
      left_are = nodes_of-plug p.context f.later ∙ ap (plug_nodes p.context) f.later_are ∙ p.becomes
          ∙ ap (λ cs. document_nodes prefix (record left { containers = cs })) (sym x.left_is);
    }

module _ (prefix : List ℕ) (h : ℕ) (content : Page) (left : StreamedDocument) (dom : DomState) (x : HasContainer prefix h content left dom) where
  all_clean : IsCleanPage prefix left.shown × AreClean prefix x.front × IsCleanPage prefix content × AreClean prefix x.back
  all_clean =
      let parts = clean_append prefix x.front (record { id = h; content = content } ∷ x.back) x.streamed.clean.1 in
      (x.streamed.clean.0, parts.0, parts.1.0, parts.1.1)

  left_clean : AreClean prefix left.containers
  left_clean = subst (AreClean prefix) (sym x.left_is) (clean_joined prefix x.front x.back all_clean.1 all_clean.3)

  one_segment : id_count (segment_id prefix h) (nodes_of dom.forest) ≡ 1
  one_segment =
      let id = segment_id prefix h in
      let cs : List Container = x.front ++ record { id = h; content = content } ∷ x.back in
      omega (
        arith,
        ap (id_count id) x.streamed.are,
        id_count-joined id (page_nodes prefix left.shown) (container_nodes prefix cs),
        segment_ids prefix h left.shown all_clean.0,
        segment_ids_in prefix h cs x.streamed.clean.1,
        container_count-append h x.front (record { id = h; content = content } ∷ x.back),
        container_count-append h x.front x.back,
        ap (container_count h) x.left_is,
        x.one,
        one_self h,
      )

  left_placeholders : id_count (placeholder_id prefix h) (document_nodes prefix left) ≡ sum_of_pages (placeholder_count h) left
  left_placeholders =
      omega (
        arith,
        id_count-joined (placeholder_id prefix h) (page_nodes prefix left.shown) (container_nodes prefix left.containers),
        placeholder_ids prefix h left.shown all_clean.0,
        placeholder_ids_in prefix h left.containers left_clean,
      )

  left_boundaries : id_count (boundary_id prefix h) (document_nodes prefix left) ≡ sum_of_pages (pending_count h) left + sum_of_pages (client_count h) left
  left_boundaries =
      omega (
        arith,
        id_count-joined (boundary_id prefix h) (page_nodes prefix left.shown) (container_nodes prefix left.containers),
        boundary_ids prefix h left.shown all_clean.0,
        boundary_ids_in prefix h left.containers left_clean,
        sum_of_both (pending_count h) (client_count h) left.containers,
      )

  pub fill_leaves : sum_of_pages (placeholder_count h) left ≡ 1 → placeholder_count h content ≡ 0
      → LeavesNodes (fill_placeholder prefix [] h dom) (document_nodes prefix (edited_pages (with_placeholder_filled h content) left))
  fill_leaves one_placeholder none_inside =
      let edit : Page → Page = with_placeholder_filled h content in
      let Rule : Nodes → Nodes → Type 0 = Fills prefix h (page_nodes prefix content) in
      let to : Nodes = document_nodes prefix (edited_pages edit left) in
      let a = held prefix h content left dom x in
      let turned = document_turns prefix Rule (fills_open prefix h (page_nodes prefix content)) edit (placeholder_count h)
      (with_placeholder_filled-none h content) (with_placeholder_filled-turns prefix h content) left one_placeholder in
      let p = placed Rule (document_nodes prefix left) to turned (plug a.context a.later) a.left_are in
      let f = first (placeholder_template prefix h) none p.rule.rest p.part p.rule.from_is in
      let filled : LeavesNodes (fill_placeholder prefix [] h (record { forest = plug a.context (tree a.id (container_element prefix h) a.kids a.later); next = dom.next }))
      (plug_nodes p.context (joined_nodes (page_nodes prefix content) p.rule.rest)) =
      fills a.context p.context dom.next a.id f.id (container_element prefix h) (placeholder_template prefix h) a.kids a.later f.kids f.later
      (subst (λ g. IsNumbered (record { forest = g; next = dom.next })) a.is x.streamed.numbered)
      (p.is ∙ ap (plug p.context) f.is) prefix h (page_nodes prefix content) p.rule.rest
      (own_segment prefix h) (segment_holds_no_placeholder prefix h) (own_placeholder prefix h)
      (ap (λ g. id_count (segment_id prefix h) (nodes_of g)) (sym a.is) ∙ one_segment)
      (ap (id_count (placeholder_id prefix h)) a.kids_are ∙ placeholder_ids prefix h content all_clean.2 ∙ none_inside)
      (ap (id_count (placeholder_id prefix h)) a.left_are ∙ left_placeholders ∙ one_placeholder)
      a.kids_are f.later_are in
      subst (λ n. LeavesNodes (fill_placeholder prefix [] h dom) n) (ap (plug_nodes p.context) (sym p.rule.to_is) ∙ p.becomes)
      (subst (λ g. LeavesNodes (fill_placeholder prefix [] h (record { forest = g; next = dom.next })) (plug_nodes p.context (joined_nodes (page_nodes prefix content) p.rule.rest))) (sym a.is) filled)

  pub complete_leaves : sum_of_pages (pending_count h) left ≡ 1 → sum_of_pages (client_count h) left ≡ 0
      → LeavesNodes (complete_boundary prefix [] h h dom) (document_nodes prefix (edited_pages (with_boundary_completed h content) left))
  complete_leaves one_pending no_client =
      let edit : Page → Page = with_boundary_completed h content in
      let Rule : Nodes → Nodes → Type 0 = Completes prefix h (page_nodes prefix content) in
      let to : Nodes = document_nodes prefix (edited_pages edit left) in
      let a = held prefix h content left dom x in
      let turned = document_turns prefix Rule (completes_open prefix h (page_nodes prefix content)) edit (pending_count h)
      (with_boundary_completed-none h content) (with_boundary_completed-turns prefix h content) left one_pending in
      let p = placed Rule (document_nodes prefix left) to turned (plug a.context a.later) a.left_are in
      let r = p.rule in
      let m = first (Comment Pending) none (node (boundary_template prefix h) none (nodes_to_end r.fallback r.rest)) p.part r.from_is in
      let t = first (boundary_template prefix h) none (nodes_to_end r.fallback r.rest) m.later m.later_are in
      let both = halves r.fallback (node (Comment End) none r.rest) t.later t.later_are in
      let e = first (Comment End) none r.rest both.back both.back_is in
      let shape : p.part ≡ tree m.id (Comment Pending) empty (tree t.id (boundary_template prefix h) empty (joined_forests both.front (tree e.id (Comment End) e.kids e.later))) =
      m.is ∙ ap (λ k. tree m.id (Comment Pending) k m.later) (nothing_in m.kids m.kids_are)
      ∙ ap (tree m.id (Comment Pending) empty) (t.is ∙ ap (λ k. tree t.id (boundary_template prefix h) k t.later) (nothing_in t.kids t.kids_are)
      ∙ ap (tree t.id (boundary_template prefix h) empty) (both.is ∙ ap (joined_forests both.front) e.is)) in
      let after : Nodes = node (Comment Complete) none (nodes_to_end (page_nodes prefix content) r.rest) in
      let completed : LeavesNodes (complete_boundary prefix [] h h (record { forest = plug a.context (tree a.id (container_element prefix h) a.kids a.later); next = dom.next })) (plug_nodes p.context after) =
      completes a.context p.context dom.next a.id m.id t.id e.id (container_element prefix h) (boundary_template prefix h) a.kids a.later both.front e.kids e.later
      (subst (λ g. IsNumbered (record { forest = g; next = dom.next })) a.is x.streamed.numbered)
      (p.is ∙ ap (plug p.context) shape) prefix h (page_nodes prefix content) r.rest
      (subst IsBalanced (sym both.front_is) r.balanced) (own_segment prefix h) (own_boundary prefix h)
      (ap (λ g. id_count (segment_id prefix h) (nodes_of g)) (sym a.is) ∙ one_segment)
      (ap (id_count (boundary_id prefix h)) a.left_are ∙ left_boundaries ∙ omega arith)
      a.kids_are e.kids_are e.later_are in
      subst (λ n. LeavesNodes (complete_boundary prefix [] h h dom) n) (ap (plug_nodes p.context) (sym r.to_is) ∙ p.becomes)
      (subst (λ g. LeavesNodes (complete_boundary prefix [] h h (record { forest = g; next = dom.next })) (plug_nodes p.context after)) (sym a.is) completed)
