-- How a proof stores a forest: as the list of its nodes and of the ends of its siblings.
use Rattle.std.specs.Prelude.{◌≡◌, ℕ, List, [], ◌∷◌, Option, Some, None, refl}
use Rattle.std.specs.Coded.{Coded, code_by, coded×, coded_list, coded_option, coded_ℕ}
use Rattle.std.proofs.Common.{ap, ◌∙◌}
use Rattle.dom_forest.specs.declared.node.NewNode.{NewNode}
use Rattle.dom_forest.specs.contracts.node.NewNode.{the_row}
use Rattle.dom_forest.specs.Edits.{DomState}
use Rattle.dom_forest.specs.Forest.{Forest, empty, tree}

abbrev pub stored_forest : Forest → List (Option (ℕ × NewNode)) → List (Option (ℕ × NewNode))
stored_forest empty more = None ∷ more
stored_forest (tree i content kids later) more = Some (i, content) ∷ stored_forest kids (stored_forest later more)

abbrev pub with_tree : ℕ → NewNode → List Forest → List Forest
with_tree i content [] = []
with_tree i content (kids ∷ []) = kids ∷ []
with_tree i content (kids ∷ (later ∷ rest)) = tree i content kids later ∷ rest

abbrev pub rebuilt : List (Option (ℕ × NewNode)) → List Forest
rebuilt [] = []
rebuilt (None ∷ rest) = empty ∷ rebuilt rest
rebuilt (Some node ∷ rest) = with_tree node.0 node.1 (rebuilt rest)

abbrev pub first_forest : List Forest → Forest
first_forest [] = empty
first_forest (forest ∷ rest) = forest

pub rebuilt-stored : (forest : Forest) (more : List (Option (ℕ × NewNode))) → rebuilt (stored_forest forest more) ≡ forest ∷ rebuilt more
rebuilt-stored empty more = refl
rebuilt-stored (tree i content kids later) more =
    ap (with_tree i content) (rebuilt-stored kids (stored_forest later more) ∙ ap (λ rest. kids ∷ rest) (rebuilt-stored later more))

abbrev pub forest_code : Coded Forest
forest_code =
    code_by (List (Option (ℕ × NewNode))) (coded_list (coded_option (coded× coded_ℕ the_row.coded)))
    (λ forest. stored_forest forest []) (λ list. first_forest (rebuilt list)) (λ forest. ap first_forest (rebuilt-stored forest []))

abbrev pub numbered_code : Coded DomState
numbered_code =
    code_by (Forest × ℕ) (coded× forest_code coded_ℕ) (λ dom. (dom.forest, dom.next)) (λ p. record { forest = p.0; next = p.1 }) (λ _. refl)
