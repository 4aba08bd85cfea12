-- What an instruction makes of a document keeps the open elements.
use Rattle.std.proofs.Common.{◌≡◌, ℕ, ◌+◌, ◌<◌, ◌==◌, nat_lt, Bool, true, false, if◌then◌else◌, Option, Some, None, Ok, Err, List, [], ◌∷◌, refl, ap, subst, arith}
use Rattle.std.specs.List.{list_any}
use Rattle.dom_forest.specs.declared.node.Mark.TheVariants.{Complete, Client}
use Rattle.dom_forest.specs.declared.node.NewNode.{NewNode}
use Rattle.dom_forest.specs.declared.node.NewNode.TheVariants.{Comment}
use Rattle.dom_forest.specs.Forest.{Forest, empty, tree, times, from, first_tree, first_later, later_of, IsThere}
use Rattle.dom_forest.specs.Edits.{DomState, IsNumbered, without_node, with_content, inner_of, part_of}
use Rattle.dom_forest.specs.Boundary.{end_of_boundary}
use Rattle.dom_forest.specs.Ids.{element_with}
use Rattle.fizz_instructions.specs.declared.instruction.Instruction.{Instruction}
use Rattle.fizz_instructions.specs.declared.instruction.Instruction.TheVariants as instruction
use Rattle.fizz_instructions.specs.Bodies.{boundary_id, segment_id, placeholder_id}
use Rattle.document_machine.specs.declared.edits.EditFault.{EditFault}
use Rattle.document_machine.specs.declared.edits.EditFault.TheVariants.{NoSuchId, NotBoundary}
use Rattle.document_machine.specs.Edits.{Edited, unless_open, closed_with, marker_of, from_sibling, without_range, with_children_before, with_content_revealed, reveal_at, reveal, complete_from, fill_at, fill_from, fill_with, with_digest_unless_empty, client_render_at, client_render_from}
use Rattle.document_machine.specs.Paths.{IsOpenDocument}
use Rattle.document_machine.specs.Running.{edit_of}
use Rattle.document_machine.proofs.Shapes.{tops, dressed_tops}
use Rattle.document_machine.proofs.Finding.{nothing_is, from_stands, end_stands, marker_comment}
use Rattle.document_machine.proofs.Numbering.{numbered_content}
use Rattle.document_machine.proofs.Ranges.{spot_among}
use Rattle.document_machine.proofs.Opens.{open_without, open_said, open_dressed, open_before, open_range}

later_tops : (j id : ℕ) (dom : DomState) → IsNumbered dom → 0 < tops j (from id dom.forest) → tops j (from id dom.forest) ≡ (if id == j then 1 else 0) + tops j (later_of id dom.forest)
later_tops j id dom d h =
    let s = spot_among j id dom d h in
    omega (arith, ap (tops j) s.found, ap (λ f. tops j (first_later f)) s.found)

later_among : (j : ℕ) (forest : Forest) → 0 < tops j (first_later forest) → 0 < tops j forest
later_among j empty h = h
later_among j (tree i content kids later) h = omega arith

-- The end of a boundary stays there when a node gets another content.
pub end_stays : (template end id : ℕ) (node : NewNode) (dom : DomState) → IsNumbered dom → end_of_boundary template dom.forest ≡ Some end
    → IsThere end (from_sibling end (later_of template (with_content id node dom).forest))
end_stays template end id node dom d is =
    let after = end_stands template end dom.forest is in
    let among = later_among end (from template dom.forest) after in
    let same = dressed_tops end template id (λ _. node) dom.forest in
    let d' = numbered_content id node dom d in
    from_stands end (later_of template (with_content id node dom).forest)
    (omega (arith, later_tops end template dom d among, later_tops end template (with_content id node dom) d' (omega arith)))

pub closed_found : (opened : List ℕ) (o : Option ℕ) (n : ℕ) → unless_open opened o ≡ Some n → (o ≡ Some n) × (list_any (λ m. m == n) opened ≡ false)
closed_found opened None n e = absurd (nothing_is n e)
closed_found opened (Some node) n e = closed (list_any (λ m. m == node) opened) refl e where
  closed : (b : Bool) → list_any (λ m. m == node) opened ≡ b → (if b then None else Some node) ≡ Some n → (Some node ≡ Some n) × (list_any (λ m. m == n) opened ≡ false)
  closed true any e = absurd (nothing_is n e)
  closed false any e = (e, subst (λ k. list_any (λ m. m == k) opened ≡ false) (let same : node ≡ n = cc in same) any)

refused_is : (fault : EditFault) (dom : DomState) → Err fault ≡ Ok dom → ⊥
refused_is fault dom e = cc

abbrev accepted : DomState → Edited
accepted dom = Ok dom

accepted_is : (a b : DomState) → accepted a ≡ accepted b → a ≡ b
accepted_is a b e = cc

module _ (opened : List ℕ) where
  keeps_reveal_at : (template container : ℕ) (old dom dom' : DomState) (marker end : Option ℕ) → IsOpenDocument opened dom
      → marker_of template dom.forest ≡ marker → end_of_boundary template dom.forest ≡ end
      → reveal_at template container old dom marker end ≡ Ok dom' → IsOpenDocument opened dom'
  keeps_reveal_at template container old dom dom' None end d marker_is end_is e = absurd (refused_is NotBoundary dom' e)
  keeps_reveal_at template container old dom dom' (Some marker) None d marker_is end_is e = absurd (refused_is NotBoundary dom' e)
  keeps_reveal_at template container old dom dom' (Some marker) (Some end) d marker_is end_is e =
      let said = open_said opened dom d marker (Comment Complete) (marker_comment template marker dom.forest marker_is) in
      let stands = end_stays template end marker (Comment Complete) dom d.numbered end_is in
      let cut = open_range opened (with_content marker (Comment Complete) dom) said template end stands in
      subst (IsOpenDocument opened) (accepted_is (with_content_revealed template marker end container old dom) dom' e)
      (open_before opened (without_range template end (with_content marker (Comment Complete) dom)) cut end (inner_of (part_of container old)))

  keeps_reveal : (container : ℕ) (old dom dom' : DomState) (found : Option ℕ) → IsOpenDocument opened dom → reveal container old dom found ≡ Ok dom' → IsOpenDocument opened dom'
  keeps_reveal container old dom dom' None d e = subst (IsOpenDocument opened) (accepted_is dom dom' e) d
  keeps_reveal container old dom dom' (Some template) d e = keeps_reveal_at template container old dom dom' _ _ d refl refl e

  keeps_complete : (segment boundary : List ℕ) (dom dom' : DomState) (found : Option ℕ) → IsOpenDocument opened dom → closed_with opened segment dom.forest ≡ found
      → complete_from segment boundary dom found ≡ Ok dom' → IsOpenDocument opened dom'
  keeps_complete segment boundary dom dom' None d is e = absurd (refused_is (NoSuchId segment) dom' e)
  keeps_complete segment boundary dom dom' (Some container) d is e =
      keeps_reveal container dom (without_node container dom) dom' (element_with boundary (without_node container dom).forest)
      (open_without opened dom d container (closed_found opened (element_with segment dom.forest) container is).1) e

  keeps_fill_at : (id : List ℕ) (placeholder container : ℕ) (dom dom' : DomState) → IsOpenDocument opened dom
      → list_any (λ m. m == container) opened ≡ false → list_any (λ m. m == placeholder) opened ≡ false
      → fill_at id placeholder container dom ≡ Ok dom' → IsOpenDocument opened dom'
  keeps_fill_at id placeholder container dom dom' d outer inner e =
      let put = with_children_before placeholder container dom (without_node container dom) in
      let gone = open_without opened dom d container outer in
      let kept = open_before opened (without_node container dom) gone placeholder (inner_of (part_of container dom)) in
      moves (nat_lt 0 (times placeholder (first_tree (from container dom.forest)))) (without_node placeholder put) (open_without opened put kept placeholder inner) e where
        moves : (b : Bool) (after : DomState) → IsOpenDocument opened after → (if b then Err (NoSuchId id) else Ok after) ≡ Ok dom' → IsOpenDocument opened dom'
        moves true after kept e = absurd (refused_is (NoSuchId id) dom' e)
        moves false after kept e = subst (IsOpenDocument opened) (accepted_is after dom' e) kept

  keeps_fill_from : (id : List ℕ) (container : ℕ) (dom dom' : DomState) (found : Option ℕ) → IsOpenDocument opened dom
      → list_any (λ m. m == container) opened ≡ false → closed_with opened id dom.forest ≡ found
      → fill_from id dom container found ≡ Ok dom' → IsOpenDocument opened dom'
  keeps_fill_from id container dom dom' None d outer is e = absurd (refused_is (NoSuchId id) dom' e)
  keeps_fill_from id container dom dom' (Some placeholder) d outer is e =
      keeps_fill_at id placeholder container dom dom' d outer (closed_found opened (element_with id dom.forest) placeholder is).1 e

  keeps_fill : (segment id : List ℕ) (dom dom' : DomState) (found : Option ℕ) → IsOpenDocument opened dom → closed_with opened segment dom.forest ≡ found
      → fill_with opened segment id dom found ≡ Ok dom' → IsOpenDocument opened dom'
  keeps_fill segment id dom dom' None d is e = absurd (refused_is (NoSuchId segment) dom' e)
  keeps_fill segment id dom dom' (Some container) d is e =
      keeps_fill_from id container dom dom' (closed_with opened id dom.forest) d (closed_found opened (element_with segment dom.forest) container is).1 refl e

  keeps_digest : (template : ℕ) (digest : List ℕ) (dom : DomState) → IsOpenDocument opened dom → IsOpenDocument opened (with_digest_unless_empty template digest dom)
  keeps_digest template [] dom d = d
  keeps_digest template (b ∷ bs) dom d = open_dressed opened dom d template (b ∷ bs)

  keeps_client_at : (template : ℕ) (digest : List ℕ) (dom dom' : DomState) (marker : Option ℕ) → IsOpenDocument opened dom → marker_of template dom.forest ≡ marker
      → client_render_at template digest dom marker ≡ Ok dom' → IsOpenDocument opened dom'
  keeps_client_at template digest dom dom' None d is e = absurd (refused_is NotBoundary dom' e)
  keeps_client_at template digest dom dom' (Some marker) d is e =
      let said = open_said opened dom d marker (Comment Client) (marker_comment template marker dom.forest is) in
      subst (IsOpenDocument opened) (accepted_is (with_digest_unless_empty template digest (with_content marker (Comment Client) dom)) dom' e)
      (keeps_digest template digest (with_content marker (Comment Client) dom) said)

  keeps_client : (digest : List ℕ) (dom dom' : DomState) (found : Option ℕ) → IsOpenDocument opened dom → client_render_from digest dom found ≡ Ok dom' → IsOpenDocument opened dom'
  keeps_client digest dom dom' None d e = subst (IsOpenDocument opened) (accepted_is dom dom' e) d
  keeps_client digest dom dom' (Some template) d e = keeps_client_at template digest dom dom' _ d refl e

  pub acted_open : (prefix : List ℕ) (i : Instruction) (dom dom' : DomState) → IsOpenDocument opened dom → edit_of prefix opened i dom ≡ Ok dom' → IsOpenDocument opened dom'
  acted_open prefix (instruction.Complete boundary segment) dom dom' d e = keeps_complete (segment_id prefix segment) (boundary_id prefix boundary) dom dom' _ d refl e
  acted_open prefix (instruction.Segment segment) dom dom' d e = keeps_fill (segment_id prefix segment) (placeholder_id prefix segment) dom dom' _ d refl e
  acted_open prefix (instruction.ClientRender boundary digest) dom dom' d e = keeps_client digest dom dom' _ d e
