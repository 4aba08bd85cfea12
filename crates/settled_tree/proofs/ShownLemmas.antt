-- What one node shows.
use Rattle.std.proofs.Common.{◌≡◌, ℕ, List, [], ◌∷◌, ◌++◌, sym, ap, ◌∙◌, append_assoc, append-nil, codes}
use Rattle.fizz_text.specs.declared.attribute.Attr.{Attr}
use Rattle.dom_forest.specs.declared.document.DocPart.{DocPart}
use Rattle.dom_forest.specs.declared.document.DocPart.TheVariants.{Element, Text, End}
use Rattle.jsx_value.specs.Spots.{none, fails, settled}
use Rattle.settled_tree.specs.declared.forest.FNode.{FNode}
use Rattle.settled_tree.specs.declared.forest.FNode.TheVariants as f
use Rattle.settled_tree.specs.Final.{final_document, settled_nodes}
use Rattle.settled_tree.specs.Layers.{failures_of, shown_nodes, parts_of}
use Rattle.settled_tree.proofs.NodesLemmas.{spots-Element, spots-Text, spots-Wait}
use Rattle.settled_tree.proofs.PartsLemmas.{parts-Element, parts-Text}

element_parts : (name : List ℕ) (attributes : List Attr) (kids : List FNode)
    → parts_of (shown_nodes (f.Element name attributes kids)) ≡ Element name attributes ∷ (parts_of (final_document (settled_nodes kids)) ++ End ∷ [])
element_parts name attributes kids =
    ap (λ s. parts_of (final_document (settled s))) (spots-Element name attributes kids none)
    ∙ ap (λ ps. ps ++ []) (parts-Element name attributes (final_document (settled_nodes kids)))
    ∙ append-nil (Element name attributes ∷ (parts_of (final_document (settled_nodes kids)) ++ End ∷ []))

-- an element, its nodes and its end, pushed in turn
pub element_pushed : (node : FNode) (name : List ℕ) (attributes : List Attr) (kids : List FNode) (old begun inner new : List DocPart)
    → node ≡ f.Element name attributes kids → begun ≡ old ++ Element name attributes ∷ []
    → inner ≡ begun ++ parts_of (final_document (settled_nodes kids)) → new ≡ inner ++ End ∷ [] → new ≡ old ++ parts_of (shown_nodes node)
element_pushed node name attributes kids old begun inner new is first second third =
    third ∙ ap (λ ps. ps ++ End ∷ []) (second ∙ ap (λ ps. ps ++ parts_of (final_document (settled_nodes kids))) first)
    ∙ append_assoc (old ++ Element name attributes ∷ []) (parts_of (final_document (settled_nodes kids))) (End ∷ [])
    ∙ append_assoc old (Element name attributes ∷ []) (parts_of (final_document (settled_nodes kids)) ++ End ∷ [])
    ∙ ap (λ ps. old ++ ps) (sym (element_parts name attributes kids) ∙ ap (λ n. parts_of (shown_nodes n)) (sym is))

pub text_pushed : (node : FNode) (text : List ℕ) (old new : List DocPart) → node ≡ f.Text text → new ≡ old ++ Text text ∷ [] → new ≡ old ++ parts_of (shown_nodes node)
text_pushed node text old new is pushed =
    pushed
    ∙ ap (λ ps. old ++ ps) (ap (λ ps. ps ++ []) (sym (parts-Text text))
    ∙ sym (ap (λ s. parts_of (final_document (settled s))) (spots-Text text none)) ∙ ap (λ n. parts_of (shown_nodes n)) (sym is))

pub wait_pushed : (node : FNode) (resource path : List ℕ) (old new : List (List ℕ)) → node ≡ f.Wait resource path → new ≡ old ++ codes "unsettled" ∷ []
    → new ≡ old ++ failures_of node
wait_pushed node resource path old new is pushed =
    pushed ∙ ap (λ ds. old ++ ds) (sym (ap (λ s. fails (settled s)) (spots-Wait resource path none)) ∙ ap failures_of (sym is))
