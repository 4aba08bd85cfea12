-- Worked positions.
use Rattle.std.specs.Prelude.{ℕ, List, [], codes}
use Rattle.jsx_value.specs.Spots.{Spots, none, spot, nothing, text, element, array, boundary, wait, fail}

-- a position without others inside, before later ones
abbrev pub word : List ℕ → Spots → Spots
word t later = spot (text t) none none later

-- a boundary whose content waits for `u`, with the fallback `w`
abbrev pub waiting : Spots
waiting = spot boundary (spot (wait (codes "u")) none none none) (word (codes "w") none) none

-- a boundary whose content failed with `d`, with the fallback `w`
abbrev pub failed : Spots
failed = spot boundary (spot (fail (codes "d")) none none none) (word (codes "w") none) none

-- an array of `x`, nothing, and an array of that boundary
abbrev pub mixed : Spots
mixed = spot array (word (codes "x") (spot nothing none none (spot array failed none none))) none none

-- a boundary that shows its content, in which another boundary's content has failed
abbrev pub nested : Spots
nested = spot boundary (spot (element (codes "p") []) mixed none none) (word (codes "v") none) none
