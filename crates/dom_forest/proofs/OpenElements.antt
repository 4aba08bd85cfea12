-- What is still printed of a document where some elements are open, as parts are passed.
use Rattle.std.proofs.Common.{◌≡◌, ℕ, zero, suc, ◌+◌, ◌-◌, ◌<◌, Bool, true, false, if◌then◌else◌, List, [], ◌∷◌, ◌++◌, codes, map, reverse, refl, sym, ap, ◌∙◌, arith, append_assoc}
use Rattle.std.proofs.lemmas.List.{reverse-append}
use Rattle.fizz_text.specs.declared.attribute.Attr.{Attr}
use Rattle.html_names.specs.Printing.{end_tag, tag_prefix}
use Rattle.dom_forest.specs.Documents.{NodeLevels, all_levels, levels_after, levels_of, with_node}
use Rattle.dom_forest.specs.Printing.{Printed, is_void, printed_node, printed_step, siblings_bytes, text_bytes}
use Rattle.dom_forest.specs.declared.document.DocNode.{DocNode}
use Rattle.dom_forest.specs.declared.document.DocNode.TheFolds.{fold-roll-DocNode}
use Rattle.dom_forest.specs.declared.document.DocNode.TheOpen.{Element as element_layer, Text as text_layer}
use Rattle.dom_forest.specs.declared.document.DocNode.TheVariants as doc
use Rattle.dom_forest.specs.declared.document.DocPart.{DocPart}
use Rattle.dom_forest.specs.declared.document.DocPart.TheVariants.{Element, Text, End}
use Rattle.dom_forest.specs.declared.printing.Open.{Open}
use Rattle.dom_forest.specs.OpenElements.{bytes_to_end, levels_past}

pub printed_node-element : (name : List ℕ) (attributes : List Attr) (kids : List DocNode) → printed_node (doc.Element name attributes kids) ≡ printed_step (element_layer name attributes (map printed_node kids))
printed_node-element name attributes kids =
    ap printed_node (sym (doc.rolls-Element name attributes kids)) ∙ fold-roll-DocNode Printed printed_step (element_layer name attributes kids)

pub printed_node-text : (text : List ℕ) → printed_node (doc.Text text) ≡ printed_step (text_layer text)
printed_node-text text = ap printed_node (sym (doc.rolls-Text text)) ∙ fold-roll-DocNode Printed printed_step (text_layer text)

-- One node more.
all_levels-node : (node : DocNode) (first : List DocNode) (rest : List (List DocNode)) → all_levels (node ∷ first) rest ≡ node ∷ all_levels first rest
all_levels-node node first [] = refl
all_levels-node node first (next ∷ rest) = refl

bytes_to_end-node : (after : Bool) (es : List Open) (node : DocNode) (levels : NodeLevels)
    → bytes_to_end after es (with_node node levels) ≡ (printed_node node).bytes after ++ bytes_to_end (printed_node node).is_text es levels
bytes_to_end-node after [] node levels = ap (λ ns. siblings_bytes after (map printed_node ns)) (all_levels-node node levels.first levels.rest)
bytes_to_end-node after (e ∷ es) node levels =
    append_assoc ((printed_node node).bytes after) (siblings_bytes (printed_node node).is_text (map printed_node levels.first)) (end_tag e.name.now ++ bytes_to_end false es (levels_after levels.rest))

-- A text.
pub bytes_to_end-text : (after : Bool) (es : List Open) (text : List ℕ) (parts : List DocPart)
    → bytes_to_end after es (levels_of (Text text ∷ parts)) ≡ text_bytes after text ++ bytes_to_end true es (levels_of parts)
bytes_to_end-text after es text parts =
    bytes_to_end-node after es (doc.Text text) (levels_of parts)
    ∙ ap (λ (p : Printed). p.bytes after ++ bytes_to_end p.is_text es (levels_of parts)) (printed_node-text text)

-- An element that is void, or isn't.
element_bytes_are : (void : Bool) (name : List ℕ) (front inner : List ℕ) → List ℕ
element_bytes_are void name front inner = front ++ (if void then codes "/>" else codes ">" ++ inner ++ end_tag name)

bytes_to_end-element : (after : Bool) (es : List Open) (name : List ℕ) (attributes : List Attr) (parts : List DocPart)
    → bytes_to_end after es (levels_of (Element name attributes ∷ parts))
    ≡ (tag_prefix name attributes ++ (if is_void name then codes "/>" else codes ">" ++ siblings_bytes false (map printed_node (levels_of parts).first) ++ end_tag name))
    ++ bytes_to_end false es (levels_after (levels_of parts).rest)
bytes_to_end-element after es name attributes parts =
    let inner = levels_of parts in
    bytes_to_end-node after es (doc.Element name attributes inner.first) (levels_after inner.rest)
    ∙ ap (λ (p : Printed). p.bytes after ++ bytes_to_end p.is_text es (levels_after inner.rest)) (printed_node-element name attributes inner.first)

pub void_element : (out : List ℕ) (after : Bool) (es : List Open) (name : List ℕ) (attributes : List Attr) (parts rest : List DocPart) → is_void name ≡ true
    → levels_of rest ≡ levels_after (levels_of parts).rest
    → ((out ++ tag_prefix name attributes) ++ codes "/>") ++ bytes_to_end false es (levels_of rest) ≡ out ++ bytes_to_end after es (levels_of (Element name attributes ∷ parts))
void_element out after es name attributes parts rest void past =
    let front = tag_prefix name attributes in
    let later = bytes_to_end false es (levels_after (levels_of parts).rest) in
    ap (λ l. ((out ++ front) ++ codes "/>") ++ bytes_to_end false es l) past
    ∙ (simp append_assoc)
    ∙ ap (λ x. out ++ x) (sym (append_assoc front (codes "/>") later)
    ∙ ap (λ v. (front ++ (if v then codes "/>" else codes ">" ++ siblings_bytes false (map printed_node (levels_of parts).first) ++ end_tag name)) ++ later) (sym void)
    ∙ sym (bytes_to_end-element after es name attributes parts))

pub open_element : (out : List ℕ) (after : Bool) (es : List Open) (e : Open) (name : List ℕ) (attributes : List Attr) (parts : List DocPart) → is_void name ≡ false → e.name.now ≡ name
    → ((out ++ tag_prefix name attributes) ++ codes ">") ++ bytes_to_end false (e ∷ es) (levels_of parts) ≡ out ++ bytes_to_end after es (levels_of (Element name attributes ∷ parts))
open_element out after es e name attributes parts void named =
    let front = tag_prefix name attributes in
    let inner = siblings_bytes false (map printed_node (levels_of parts).first) in
    let later = bytes_to_end false es (levels_after (levels_of parts).rest) in
    ap (λ n. ((out ++ front) ++ codes ">") ++ (inner ++ (end_tag n ++ later))) named
    ∙ regroup out front (codes ">") inner (end_tag name) later
    ∙ ap (λ v. out ++ ((front ++ (if v then codes "/>" else codes ">" ++ inner ++ end_tag name)) ++ later)) (sym void)
    ∙ ap (λ x. out ++ x) (sym (bytes_to_end-element after es name attributes parts)) where
      regroup : (out front mark inner end later : List ℕ) → ((out ++ front) ++ mark) ++ (inner ++ (end ++ later)) ≡ out ++ ((front ++ ((mark ++ inner) ++ end)) ++ later)
      regroup out front mark inner end later = simp append_assoc

-- An end of what is open, and of nothing.
pub end_inner : (out : List ℕ) (after : Bool) (es : List Open) (e : Open) (parts : List DocPart)
    → (out ++ end_tag e.name.now) ++ bytes_to_end false es (levels_of parts) ≡ out ++ bytes_to_end after (e ∷ es) (levels_of (End ∷ parts))
end_inner out after es e parts = append_assoc out (end_tag e.name.now) (bytes_to_end false es (levels_of parts))

pub end_nothing : (after : Bool) (parts : List DocPart) → bytes_to_end after [] (levels_of (End ∷ parts)) ≡ bytes_to_end after [] (levels_of parts)
end_nothing after parts = refl

-- Where the parts end, an open element does.
pub end_all : (out : List ℕ) (after : Bool) (es : List Open) (e : Open)
    → (out ++ end_tag e.name.now) ++ bytes_to_end false es (levels_of []) ≡ out ++ bytes_to_end after (e ∷ es) (levels_of [])
end_all out after es e = append_assoc out (end_tag e.name.now) (bytes_to_end false es (levels_of []))

-- Ends that are passed over.
abbrev no_levels : NodeLevels
no_levels = record { first = []; rest = [] }

pub levels_past-none : (n : ℕ) → levels_past n no_levels ≡ no_levels
levels_past-none zero = refl
levels_past-none (suc n) = levels_past-none n

pub levels_past-text : (n : ℕ) (text : List ℕ) (parts : List DocPart) → 0 < n → levels_past n (levels_of (Text text ∷ parts)) ≡ levels_past n (levels_of parts)
levels_past-text zero text parts h = absurd (omega arith)
levels_past-text (suc n) text parts h = refl

pub levels_past-element : (n : ℕ) (name : List ℕ) (attributes : List Attr) (parts : List DocPart) → 0 < n → levels_past n (levels_of (Element name attributes ∷ parts)) ≡ levels_past (n + 1) (levels_of parts)
levels_past-element zero name attributes parts h = absurd (omega arith)
levels_past-element (suc n) name attributes parts h = ap (λ m. levels_past m (levels_of parts)) (two n) where
  two : (n : ℕ) → suc (suc n) ≡ suc n + 1
  two n = omega arith

pub levels_past-end : (n : ℕ) (parts : List DocPart) → 0 < n → levels_past n (levels_of (End ∷ parts)) ≡ levels_past (n - 1) (levels_of parts)
levels_past-end zero parts h = absurd (omega arith)
levels_past-end (suc n) parts h = ap (λ m. levels_past m (levels_of parts)) (one n) where
  one : (n : ℕ) → n ≡ suc n - 1
  one n = omega arith

-- The innermost of open elements is the last one.
pub reverse_push : (es : List Open) (e : Open) → reverse (es ++ e ∷ []) ≡ e ∷ reverse es
reverse_push es e = reverse-append es (e ∷ [])
