-- Paths, and what stands at them.
use Rattle.std.specs.Prelude.{◌≡◌, List, ◌++◌, ℕ, Option, option_map}
use Rattle.jsx_value.specs.Spots.{Label, One, at}

-- The first path leads to the second.
pub record Under (above below : List ℕ) : Type 0 where
  pub rest : List ℕ
  pub is : above ++ rest ≡ below

-- Neither leads to the other.
pub record Apart (a b : List ℕ) : Type 0 where
  pub first : Under a b → ⊥
  pub second : Under b a → ⊥

-- the label of the position at a path, if one stands there
abbrev pub label_at : One → List ℕ → Option Label
label_at one path = option_map (λ o. o.label) (at one path)
