-- Positions as expansions have them: each boundary has one content and one fallback.
use Rattle.std.specs.Prelude.{◌≡◌, ℕ, List, ◌++◌, Option, Some}
use Rattle.jsx_value.specs.Spots.{Label, nothing, text, element, array, boundary, wait, fail, Spots, none, spot, One}
use Rattle.position_laws.specs.Owners.{owner_of}
use Rattle.position_laws.specs.Paths.{label_at}

abbrev pub IsOne : Spots → Type 0
IsOne none = ⊥
IsOne (spot label kids other later) = later ≡ none

abbrev pub HasOneOfEach : Label → Spots → Spots → Type 0
HasOneOfEach nothing kids other = Unit {0}
HasOneOfEach (text t) kids other = Unit {0}
HasOneOfEach (element name attributes) kids other = Unit {0}
HasOneOfEach array kids other = Unit {0}
HasOneOfEach boundary kids other = IsOne kids × IsOne other
HasOneOfEach (wait resource) kids other = Unit {0}
HasOneOfEach (fail digest) kids other = Unit {0}

abbrev pub AreFormed : Spots → Type 0
AreFormed none = Unit {0}
AreFormed (spot label kids other later) =
    HasOneOfEach label kids other × AreFormed kids × AreFormed other × AreFormed later

abbrev pub IsFormed : One → Type 0
IsFormed one = HasOneOfEach one.label one.kids one.other × AreFormed one.kids × AreFormed one.other

-- A position below a path has failed with this digest, and has this owner.
pub record FailsBelow (root : One) (path digest : List ℕ) (owner : Option (List ℕ)) : Type 0 where
  pub rest : List ℕ
  pub failed : label_at root (path ++ rest) ≡ Some (fail digest)
  pub owned : owner_of root (path ++ rest) ≡ owner
