-- A document with one node at the top.
use Rattle.std.proofs.Common.{◌≡◌, ℕ, nat_eq, true, List, [], ◌∷◌, Some, length, ap, subst, arith}
use Rattle.std.specs.List.{prefix_len}
use Rattle.std.proofs.lemmas.Bool.{eq-eqb, eqb-true}
use Rattle.dom_forest.specs.declared.node.NewNode.{NewNode}
use Rattle.dom_forest.specs.declared.entry.Entry.{Entry}
use Rattle.dom_forest.specs.Forest.{Forest, empty, tree, IsElement, IsOneElement}
use Rattle.dom_forest.specs.Flat.{flat}
use Rattle.dom_forest.specs.Runs.{below_at}
use Rattle.dom_forest.proofs.Flattening.{length-flat, prefix_len-flat}
use Rattle.dom_forest.proofs.Located.{head_or, tail_of}

-- Whether all entries after the first stand below it tells whether it is the only one at the top.
abbrev Tells : Forest → Entry → List Entry → Type 0
Tells forest root below =
    IsElement (Some root.node) → (nat_eq (prefix_len (below_at root.depth) below) (length below) ≡ true → IsOneElement forest) × (IsOneElement forest → nat_eq (prefix_len (below_at root.depth) below) (length below) ≡ true)

tells_row : (i : ℕ) (content : NewNode) (kids later : Forest) → Tells (tree i content kids later) (record { depth = 0; id = i; node = content }) (flat 1 kids (flat 0 later []))
tells_row i content kids empty element =
    (λ _. element, λ _. eq-eqb _ _ (omega (arith, prefix_len-flat 0 1 kids [] (omega arith), length-flat 1 kids [])))
tells_row i content kids (tree j other below later) element = (
  λ same. absurd (omega (arith, eqb-true _ _ same, prefix_len-flat 0 1 kids (flat 0 (tree j other below later) []) (omega arith), length-flat 1 kids (flat 0 (tree j other below later) []))),
  λ one. absurd one,
)

pub tells_root : (forest : Forest) (root : Entry) (below : List Entry) → flat 0 forest [] ≡ root ∷ below → Tells forest root below
tells_root empty root below whole = cc
tells_root (tree i content kids later) root below whole =
    subst (λ r. Tells (tree i content kids later) r below) (ap (head_or root) whole)
    (subst (λ es. Tells (tree i content kids later) (record { depth = 0; id = i; node = content }) es) (ap tail_of whole) (tells_row i content kids later))

pub one_root : (forest : Forest) (root : Entry) (below : List Entry) → flat 0 forest [] ≡ root ∷ below → IsOneElement forest → IsElement (Some root.node)
one_root empty root below whole one = absurd one
one_root (tree i content kids empty) root below whole one = subst (λ (r : Entry). IsElement (Some r.node)) (ap (head_or root) whole) one
one_root (tree i content kids (tree j other inner later)) root below whole one = absurd one
