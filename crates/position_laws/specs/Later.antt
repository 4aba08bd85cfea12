-- Positions, and the same positions where more was settled: all stays but what waited for a resource that has settled
-- since.
use Rattle.std.specs.Prelude.{◌≡◌, ℕ, Bool, true, List}
use Rattle.jsx_value.specs.Spots.{Label, One, Spots, none, settled, settled_label, spot, wait}

-- `known` says which resources have settled since.
pub data Later (known : List ℕ → Bool) : Spots → Spots → Type 0 where
  ends : Later known none none
  stays : (label : Label) (kids other later kids' other' later' : Spots)
      → Later known kids kids' → Later known other other' → Later known later later'
      → Later known (spot label kids other later) (spot label kids' other' later')
  opens : (resource : List ℕ) (label' : Label) (kids other later kids' other' later' : Spots)
      → known resource ≡ true → Later known later later'
      → Later known (spot (wait resource) kids other later) (spot label' kids' other' later')

-- the same of one position without its siblings
pub data LaterOne (known : List ℕ → Bool) : One → One → Type 0 where
  stays_one : (label : Label) (kids other kids' other' : Spots) → Later known kids kids' → Later known other other'
      → LaterOne known (record { label = label; kids = kids; other = other }) (record { label = label; kids = kids'; other = other' })
  opens_one : (resource : List ℕ) (label' : Label) (kids other kids' other' : Spots) → known resource ≡ true
      → LaterOne known (record { label = wait resource; kids = kids; other = other }) (record { label = label'; kids = kids'; other = other' })

-- a position of the settled tree
abbrev pub settled_one : One → One
settled_one one = record {
  label = settled_label one.label;
  kids = settled one.kids;
  other = settled one.other;
}
