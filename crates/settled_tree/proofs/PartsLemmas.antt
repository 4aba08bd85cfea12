-- The parts of a document are read as its nodes.
use Rattle.std.proofs.Common.{◌≡◌, ℕ, List, [], ◌∷◌, ◌++◌, map, flat_map, refl, sym, ap, ◌∙◌, subst, append_assoc, append-nil}
use Rattle.std.proofs.lemmas.List.Concat.{flat_map-append}
use Rattle.fizz_text.specs.declared.attribute.Attr.{Attr}
use Rattle.dom_forest.specs.Documents.{NodeLevels, all_levels, levels_after, levels_of, nodes_in, with_node}
use Rattle.dom_forest.specs.declared.document.DocNode.{DocNode, roll-DocNode}
use Rattle.dom_forest.specs.declared.document.DocNode.TheFolds.{fold-roll-DocNode, ind-DocNode, map-DocNode}
use Rattle.dom_forest.specs.declared.document.DocNode.TheOpen.{DocNode-F, Element as element_layer, Text as text_layer}
use Rattle.dom_forest.specs.declared.document.DocNode.TheVariants as doc
use Rattle.dom_forest.specs.declared.document.DocPart.{DocPart}
use Rattle.dom_forest.specs.declared.document.DocPart.TheVariants.{Element, Text, End}
use Rattle.settled_tree.specs.Layers.{node_parts, parts_of, parts_step}

flat_map-of_map : (nodes : List DocNode) → flat_map (λ (parts : List DocPart). parts) (map node_parts nodes) ≡ parts_of nodes
flat_map-of_map [] = refl
flat_map-of_map (n ∷ ns) = ap (λ ps. node_parts n ++ ps) (flat_map-of_map ns)

pub parts-Element : (name : List ℕ) (attributes : List Attr) (kids : List DocNode) → node_parts (doc.Element name attributes kids) ≡ Element name attributes ∷ (parts_of kids ++ End ∷ [])
parts-Element name attributes kids =
    ap node_parts (sym (doc.rolls-Element name attributes kids)) ∙ fold-roll-DocNode (List DocPart) parts_step (element_layer name attributes kids)
    ∙ ap (λ ps. Element name attributes ∷ (ps ++ End ∷ [])) (flat_map-of_map kids)

pub parts-Text : (text : List ℕ) → node_parts (doc.Text text) ≡ Text text ∷ []
parts-Text text = ap node_parts (sym (doc.rolls-Text text)) ∙ fold-roll-DocNode (List DocPart) parts_step (text_layer text)

pub parts-append : (xs ys : List DocNode) → parts_of (xs ++ ys) ≡ parts_of xs ++ parts_of ys
parts-append xs ys = flat_map-append node_parts xs ys

-- Nodes are read before what follows.
abbrev with_nodes : List DocNode → NodeLevels → NodeLevels
with_nodes nodes levels = record levels { first = nodes ++ levels.first }

abbrev Reads : DocNode → Type 0
Reads n = (more : List DocPart) → levels_of (node_parts n ++ more) ≡ with_node n (levels_of more)

abbrev Known : Type 0
Known = (n : DocNode) × Reads n

row_reads : (es : List Known) (more : List DocPart) → levels_of (parts_of (map (λ e. e.0) es) ++ more) ≡ with_nodes (map (λ e. e.0) es) (levels_of more)
row_reads [] more = refl
row_reads (e ∷ es) more =
    ap levels_of (append_assoc (node_parts e.0) (parts_of (map (λ x. x.0) es)) more)
    ∙ e.1 (parts_of (map (λ x. x.0) es) ++ more)
    ∙ ap (with_node e.0) (row_reads es more)

element_reads : (name : List ℕ) (attributes : List Attr) (es : List Known) → Reads (doc.Element name attributes (map (λ e. e.0) es))
element_reads name attributes es more =
    let kids : List DocNode = map (λ e. e.0) es in
    ap (λ ps. levels_of (ps ++ more)) (parts-Element name attributes kids)
    ∙ ap (λ ps. levels_of (Element name attributes ∷ ps)) (append_assoc (parts_of kids) (End ∷ []) more)
    ∙ ap (λ (x : NodeLevels). with_node (doc.Element name attributes x.first) (levels_after x.rest)) (row_reads es (End ∷ more))
    ∙ ap (λ ns. with_node (doc.Element name attributes ns) (levels_of more)) (append-nil kids)

text_reads : (text : List ℕ) → Reads (doc.Text text)
text_reads text more = ap (λ ps. levels_of (ps ++ more)) (parts-Text text)

layer : (y : DocNode-F Known) → Reads (roll-DocNode (map-DocNode Known DocNode (λ e. e.0) y))
layer (element_layer name attributes es) = subst Reads (sym (doc.rolls-Element name attributes (map (λ e. e.0) es))) (element_reads name attributes es)
layer (text_layer text) = subst Reads (sym (doc.rolls-Text text)) (text_reads text)

reads : (n : DocNode) → Reads n
reads = ind-DocNode Reads (λ x y is. subst (λ (z : DocNode-F DocNode). Reads (roll-DocNode z)) is (layer y))

nodes_read : (nodes : List DocNode) (more : List DocPart) → levels_of (parts_of nodes ++ more) ≡ with_nodes nodes (levels_of more)
nodes_read [] more = refl
nodes_read (n ∷ ns) more =
    ap levels_of (append_assoc (node_parts n) (parts_of ns) more) ∙ reads n (parts_of ns ++ more) ∙ ap (with_node n) (nodes_read ns more)

pub nodes_in-parts : (nodes : List DocNode) → nodes_in (parts_of nodes) ≡ nodes
nodes_in-parts nodes =
    ap nodes_in (sym (append-nil (parts_of nodes)))
    ∙ ap (λ (x : NodeLevels). all_levels x.first x.rest) (nodes_read nodes [])
    ∙ append-nil nodes
