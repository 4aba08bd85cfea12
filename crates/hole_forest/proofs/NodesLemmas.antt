-- What stands in place of an element.
use Rattle.std.proofs.Common.{◌≡◌, ℕ, List, [], ◌∷◌, ◌++◌, refl, sym, ap, ◌∙◌}
use Rattle.std.specs.List.{flat_map}
use Rattle.std.proofs.lemmas.List.Folds.{flat_map-map}
use Rattle.fizz_text.specs.declared.attribute.Attr.{Attr}
use Rattle.hole_forest.specs.declared.forest.HForest.{HForest}
use Rattle.hole_forest.specs.declared.forest.HNode.{HNode}
use Rattle.hole_forest.specs.declared.forest.HNode.TheVariants as n
use Rattle.hole_forest.specs.declared.forest.HNode.TheOpen.{HNode-F}
use Rattle.hole_forest.specs.declared.forest.HNode.TheFolds.{fold-roll-HNode}
use Rattle.hole_forest.specs.Filling.{filled_node, filled_nodes, filled_step}

filled-Element : (parts : List HForest) (name : List ℕ) (attributes : List Attr) (kids : List HNode)
    → filled_node parts (n.Element name attributes kids) ≡ n.Element name attributes (filled_nodes parts kids) ∷ []
filled-Element parts name attributes kids =
    ap (filled_node parts) (sym (n.rolls-Element name attributes kids))
    ∙ fold-roll-HNode (List HNode) (filled_step parts) (HNode-F.Element name attributes kids)
    ∙ ap (λ (nodes : List HNode). n.Element name attributes nodes ∷ []) (flat_map-map (λ (nodes : List HNode). nodes) (filled_node parts) kids)

pub element_filled : (parts : List HForest) (node : HNode) (name : List ℕ) (attributes : List Attr) (kids inner old new : List HNode)
    → node ≡ n.Element name attributes kids → inner ≡ filled_nodes parts kids → new ≡ old ++ n.Element name attributes inner ∷ []
    → new ≡ old ++ filled_node parts node
element_filled parts node name attributes kids inner old new is filled pushed =
    pushed
    ∙ ap (λ (nodes : List HNode). old ++ n.Element name attributes nodes ∷ []) filled
    ∙ ap (λ (nodes : List HNode). old ++ nodes) (sym (filled-Element parts name attributes kids) ∙ ap (filled_node parts) (sym is))
