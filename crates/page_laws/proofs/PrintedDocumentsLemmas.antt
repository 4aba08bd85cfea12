-- A printed document of elements and texts is read back.
use Rattle.std.proofs.Common.{◌≡◌, ℕ, ◌-◌, Bool, true, false, if◌then◌else◌, List, [], ◌∷◌, ◌++◌, length, map, Some, arith, refl, sym, ap, ◌∙◌, subst, codes, append_assoc}
use Rattle.fizz_text.specs.declared.attribute.Attr.{Attr}
use Rattle.html_names.specs.Escape.{escape_of}
use Rattle.html_names.specs.Printing.{end_tag, tag_prefix}
use Rattle.dom_forest.specs.Edits.{IsNumbered, numbered_from}
use Rattle.dom_forest.specs.Forest.{Forest, empty, tree}
use Rattle.dom_forest.specs.Printing.{Printed, is_void, printed_node, printed_nodes, siblings_bytes, text_bytes}
use Rattle.dom_forest.specs.declared.document.DocNode.{DocNode}
use Rattle.dom_forest.specs.declared.document.DocNode.TheFolds.{fold-roll-DocNode, ind-DocNode, map-DocNode}
use Rattle.dom_forest.specs.declared.document.DocNode.TheOpen.{DocNode-F, Element as element_layer, Text as text_layer}
use Rattle.dom_forest.specs.declared.document.DocNode.TheVariants as doc
use Rattle.dom_forest.specs.declared.document.DocNode.TheViews.{roll-DocNode}
use Rattle.dom_forest.specs.declared.node.Mark.TheVariants.{Space}
use Rattle.dom_forest.specs.declared.node.NewNode.TheVariants.{Comment, Text}
use Rattle.dom_forest.proofs.OpenElements.{printed_node-element, printed_node-text}
use Rattle.document_machine.specs.Documents.{LeavesNoRest, Runs, RunsWhole, most_open}
use Rattle.document_machine.specs.Plain.{IsPlain, plain_nodes}
use Rattle.document_machine.specs.Printing.{MayPrint, element_bytes, page_bytes, with_forest}
use Rattle.document_machine.specs.Running.{PageState, at_first}
use Rattle.document_machine.specs.Settled.{settled_of}
use Rattle.document_machine.specs.Views.{view_of}
use Rattle.page_laws.specs.PrintedDocuments.{IsDocument, IsPrintable, Standing, printed_forest, siblings_forest, standing_of, standing_step}

standing-element : (name : List ℕ) (attributes : List Attr) (kids : List DocNode) → standing_of (doc.Element name attributes kids) ≡ standing_step (element_layer name attributes (map standing_of kids))
standing-element name attributes kids =
    ap standing_of (sym (doc.rolls-Element name attributes kids)) ∙ fold-roll-DocNode Standing standing_step (element_layer name attributes kids)

standing-text : (text : List ℕ) → standing_of (doc.Text text) ≡ standing_step (text_layer text)
standing-text text = ap standing_of (sym (doc.rolls-Text text)) ∙ fold-roll-DocNode Standing standing_step (text_layer text)

-- A node is printed as it stands, and is read back.
record Reads (d : DocNode) : Type 0 where
  kind : (standing_of d).is_text ≡ (printed_node d).is_text
  bytes : (after : Bool) (later : Forest) → page_bytes ((standing_of d).before after later) ≡ (printed_node d).bytes after ++ page_bytes later
  nodes : (after : Bool) (later : Forest) → plain_nodes ((standing_of d).before after later) ≡ d ∷ plain_nodes later

text_reads : (text : List ℕ) → Reads (doc.Text text)
text_reads text = record {
  kind = ap (λ (s : Standing). s.is_text) (standing-text text) ∙ sym (ap (λ (p : Printed). p.is_text) (printed_node-text text));
  bytes = λ after later.
      ap (λ (s : Standing). page_bytes (s.before after later)) (standing-text text) ∙ text_case after (page_bytes later) later refl
      ∙ ap (λ (p : Printed). p.bytes after ++ page_bytes later) (sym (printed_node-text text));
  nodes = λ after later. ap (λ (s : Standing). plain_nodes (s.before after later)) (standing-text text) ∙ nodes_case after later;
} where
  text_case : (after : Bool) (more : List ℕ) (later : Forest) → page_bytes later ≡ more
      → page_bytes (if after then tree 0 (Comment Space) empty (tree 0 (Text text) empty later) else tree 0 (Text text) empty later) ≡ text_bytes after text ++ more
  text_case true more later e = ap (λ x. codes "<!-- -->" ++ (escape_of text ++ x)) e ∙ sym (append_assoc (codes "<!-- -->") (escape_of text) more)
  text_case false more later e = ap (λ x. escape_of text ++ x) e

  nodes_case : (after : Bool) (later : Forest)
      → plain_nodes (if after then tree 0 (Comment Space) empty (tree 0 (Text text) empty later) else tree 0 (Text text) empty later) ≡ doc.Text text ∷ plain_nodes later
  nodes_case true later = refl
  nodes_case false later = refl

-- Siblings, each with what is known of it.
siblings_bytes_read : (es : List ((d : DocNode) × Reads d)) (after : Bool) → page_bytes (siblings_forest after (map standing_of (map (λ e. e.0) es))) ≡ siblings_bytes after (map printed_node (map (λ e. e.0) es))
siblings_bytes_read [] after = refl
siblings_bytes_read (e ∷ es) after =
    e.1.bytes after _ ∙ ap (λ x. (printed_node e.0).bytes after ++ x)
    (siblings_bytes_read es (standing_of e.0).is_text ∙ ap (λ b. siblings_bytes b (map printed_node (map (λ e. e.0) es))) e.1.kind)

siblings_nodes_read : (es : List ((d : DocNode) × Reads d)) (after : Bool) → plain_nodes (siblings_forest after (map standing_of (map (λ e. e.0) es))) ≡ map (λ e. e.0) es
siblings_nodes_read [] after = refl
siblings_nodes_read (e ∷ es) after = e.1.nodes after _ ∙ ap (λ x. e.0 ∷ x) (siblings_nodes_read es (standing_of e.0).is_text)

element_case : (void : Bool) (front inner end : List ℕ) → (if void then front ++ codes "/>" else (front ++ codes ">") ++ (inner ++ end)) ≡ front ++ (if void then codes "/>" else codes ">" ++ inner ++ end)
element_case true front inner end = refl
element_case false front inner end = append_assoc front (codes ">") (inner ++ end) ∙ ap (λ x. front ++ x) (sym (append_assoc (codes ">") inner end))

element_reads : (name : List ℕ) (attributes : List Attr) (es : List ((d : DocNode) × Reads d)) → Reads (doc.Element name attributes (map (λ e. e.0) es))
element_reads name attributes es =
    let kids : List DocNode = map (λ e. e.0) es in
    record {
      kind = ap (λ (s : Standing). s.is_text) (standing-element name attributes kids) ∙ sym (ap (λ (p : Printed). p.is_text) (printed_node-element name attributes kids));
      bytes = λ after later.
          ap (λ (s : Standing). page_bytes (s.before after later)) (standing-element name attributes kids)
          ∙ ap (λ x. element_bytes name attributes x ++ page_bytes later) (siblings_bytes_read es false)
          ∙ ap (λ x. x ++ page_bytes later) (element_case (is_void name) (tag_prefix name attributes) (siblings_bytes false (map printed_node kids)) (end_tag name))
          ∙ ap (λ (p : Printed). p.bytes after ++ page_bytes later) (sym (printed_node-element name attributes kids));
      nodes = λ after later.
          ap (λ (s : Standing). plain_nodes (s.before after later)) (standing-element name attributes kids)
          ∙ ap (λ x. doc.Element name attributes x ∷ plain_nodes later) (siblings_nodes_read es false);
    }

layer : (y : DocNode-F ((d : DocNode) × Reads d)) → Reads (roll-DocNode (map-DocNode ((d : DocNode) × Reads d) DocNode (λ e. e.0) y))
layer (element_layer name attributes es) = subst Reads (sym (doc.rolls-Element name attributes (map (λ e. e.0) es))) (element_reads name attributes es)
layer (text_layer text) = subst Reads (sym (doc.rolls-Text text)) (text_reads text)

reads : (d : DocNode) → Reads d
reads = ind-DocNode Reads (λ x y is. subst (λ (z : DocNode-F DocNode). Reads (roll-DocNode z)) is (layer y))

paired : (nodes : List DocNode) → List ((d : DocNode) × Reads d)
paired [] = []
paired (d ∷ ds) = (d, reads d) ∷ paired ds

unpaired : (nodes : List DocNode) → map (λ e. e.0) (paired nodes) ≡ nodes
unfolding paired
unpaired [] = refl
unpaired (d ∷ ds) = ap (λ x. d ∷ x) (unpaired ds)

pub page_bytes-printed : (nodes : List DocNode) → page_bytes (printed_forest nodes) ≡ printed_nodes nodes
page_bytes-printed nodes =
    ap (λ ds. page_bytes (siblings_forest false (map standing_of ds))) (sym (unpaired nodes)) ∙ siblings_bytes_read (paired nodes) false
    ∙ ap (λ ds. siblings_bytes false (map printed_node ds)) (unpaired nodes)

pub plain_nodes-printed : (nodes : List DocNode) → plain_nodes (printed_forest nodes) ≡ nodes
plain_nodes-printed nodes =
    ap (λ ds. plain_nodes (siblings_forest false (map standing_of ds))) (sym (unpaired nodes)) ∙ siblings_nodes_read (paired nodes) false ∙ unpaired nodes

-- The laws below, as they are used here.
pub record PrintLaws : Type 0 where
  pub prints : (prefix : List ℕ) (start : PageState) (forest : Forest) → IsNumbered start.dom → MayPrint forest false (most_open - length start.opened)
      → (run : Runs prefix start (page_bytes forest) (with_forest forest start)) × LeavesNoRest run
  pub ids : (prefix : List ℕ) (first : ℕ) (forest : Forest) → view_of prefix (numbered_from first forest) ≡ view_of prefix forest
  pub settled : (prefix : List ℕ) (forest : Forest) → IsPlain prefix true forest → settled_of (view_of prefix forest) ≡ Some (plain_nodes forest)

pub printed_document : PrintLaws → (prefix : List ℕ) (nodes : List DocNode) → IsPrintable prefix nodes → IsDocument prefix (printed_nodes nodes) nodes
printed_document laws prefix nodes h =
    let forest : Forest = printed_forest nodes in
    let numbered : IsNumbered at_first.dom = record { once = λ id. omega arith; given = λ id e. refl } in
    let run = laws.prints prefix at_first forest numbered (room h.legal) in
    let whole : RunsWhole prefix at_first (page_bytes forest) (with_forest forest at_first) = record { run = run.0; no_rest = run.1; closed = refl } in
    record {
      built = with_forest forest at_first;
      run = subst (λ bytes. RunsWhole prefix at_first bytes (with_forest forest at_first)) (page_bytes-printed nodes) whole;
      settled = ap settled_of (laws.ids prefix 0 forest) ∙ laws.settled prefix forest h.own ∙ ap (λ x. Some x) (plain_nodes-printed nodes);
    } where
      room : MayPrint (printed_forest nodes) false most_open → MayPrint (printed_forest nodes) false (most_open - 0)
      room m = subst (MayPrint (printed_forest nodes) false) (omega arith) m
