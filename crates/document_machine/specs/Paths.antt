-- The open elements of a document: each is the last of its siblings, and the innermost is where the next node goes.
use Rattle.std.specs.Prelude.{◌≡◌, ℕ, List, [], ◌∷◌, reverse, Some}
use Rattle.dom_forest.specs.Forest.{Forest, empty, tree, IsElement}
use Rattle.dom_forest.specs.Edits.{DomState, IsNumbered}

-- Elements, the outermost first, each the last of the siblings in the one before it.
abbrev pub IsPath : List ℕ → Forest → Type 0
IsPath [] forest = Unit {0}
IsPath (o ∷ os) empty = ⊥
IsPath (o ∷ os) (tree i content kids empty) = (i ≡ o) × IsElement (Some content) × IsPath os kids
IsPath (o ∷ os) (tree i content kids (tree j other below later)) = IsPath (o ∷ os) (tree j other below later)

-- A document with its open elements, the innermost first.
pub record IsOpenDocument (opened : List ℕ) (dom : DomState) : Type 0 where
  pub numbered : IsNumbered dom
  pub path : IsPath (reverse opened) dom.forest
