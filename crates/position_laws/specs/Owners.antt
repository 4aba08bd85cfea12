-- Who owns a position: the nearest boundary in whose content it stands, or the whole page where there is none.
use Rattle.std.specs.Prelude.{ℕ, zero, List, [], ◌∷◌, ◌++◌, Option, Some, None, option_and_then}
use Rattle.std.specs.Option.{option_map_or}
use Rattle.jsx_value.specs.Spots.{Label, boundary, One, fails, own_fails, at, inside}

-- The content of a boundary is its position 0, and it owns what stands there.
abbrev pub own_boundary : Label → ℕ → Option (List ℕ)
own_boundary boundary zero = Some []
own_boundary label n = None

-- An owner that is found below is one step further down.
abbrev pub or_own : ℕ → Option (List ℕ) → Option (List ℕ) → Option (List ℕ)
or_own n (Some below) own = Some (n ∷ below)
or_own n None own = own

-- the path of the owner of what a path leads to, or none where the page owns it
abbrev pub owner_of : One → List ℕ → Option (List ℕ)
owner_of one [] = None
owner_of one (n ∷ path) =
    or_own n (option_and_then (λ below. owner_of below path) (inside one.label one.kids one.other n))
    (own_boundary one.label n)

-- an owner below a path, or else that of what stands at the path
abbrev pub owner_below : List ℕ → Option (List ℕ) → Option (List ℕ) → Option (List ℕ)
owner_below path (Some below) own = Some (path ++ below)
owner_below path None own = own

-- A position's own failures: those that lie in no boundary's content inside it.
abbrev pub own_failures : One → List (List ℕ)
own_failures one = own_fails one.label (fails one.kids) (fails one.other)

-- the failures that an owner is failed by: those of a boundary's content, or those of the page
abbrev pub owner_failures : One → Option (List ℕ) → List (List ℕ)
owner_failures root None = own_failures root
owner_failures root (Some path) = option_map_or (λ one. fails one.kids) (at root path) []
