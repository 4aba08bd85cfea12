-- The positions of an expansion as one tree of labels, and what is read off it.
use Rattle.std.specs.Prelude.{ℕ, zero, suc, ◌+◌, List, [], ◌∷◌, ◌++◌, length, codes, Option, Some, None, option_and_then, sum, sum_by}
use Rattle.std.specs.Option.{option_map_or}
use Rattle.fizz_text.specs.declared.attribute.Attr.{Attr}
use Rattle.jsx_value.specs.declared.shape.Shape.{Shape}
use Rattle.jsx_value.specs.declared.shape.Shape.TheVariants as s
use Rattle.jsx_value.specs.declared.shape.Tree.{Tree}
use Rattle.jsx_value.specs.declared.shape.Tree.TheOpen.{Tree-F}
use Rattle.jsx_value.specs.declared.shape.Tree.TheFolds.{fold-Tree}

-- a shape without the positions inside
pub data Label : Type 0 where
  nothing : Label
  text : List ℕ → Label
  element : List ℕ → List Attr → Label
  array : Label
  boundary : Label
  wait : List ℕ → Label
  fail : List ℕ → Label

-- Siblings in a row: none, or the first with the positions inside it and then the later ones. The positions inside an
-- element or an array are its kids. Of a boundary, the content is among the kids and the fallback is the other.
pub data Spots : Type 0 where
  none : Spots
  spot : Label → Spots → Spots → Spots → Spots

-- one position without its later siblings
pub record One : Type 0 where
  pub label : Label
  pub kids : Spots
  pub other : Spots

-- trees beside each other, each given by what it is before its later siblings
abbrev pub in_a_row : List (Spots → Spots) → Spots
in_a_row [] = none
in_a_row (tree ∷ later) = tree (in_a_row later)

abbrev pub shape_spots : Shape (Spots → Spots) → Spots → Spots
shape_spots s.Nothing later = spot nothing none none later
shape_spots (s.Text t) later = spot (text t) none none later
shape_spots (s.Element name attributes kids) later = spot (element name attributes) (in_a_row kids) none later
shape_spots (s.Array kids) later = spot array (in_a_row kids) none later
shape_spots (s.Boundary content fallback) later = spot boundary (content none) (fallback none) later
shape_spots (s.Wait resource) later = spot (wait resource) none none later
shape_spots (s.Fail digest) later = spot (fail digest) none none later

abbrev pub spots_step : Tree-F (Spots → Spots) → Spots → Spots
spots_step layer = shape_spots layer.shape

-- the positions of a tree, before later siblings
abbrev pub spots_of : Tree → Spots → Spots
spots_of = fold-Tree (Spots → Spots) spots_step

-- The position at a path, which has the number of a position at each step.
abbrev pub nth : Spots → ℕ → Option One
nth none n = None
nth (spot label kids other later) zero = Some (record { label = label; kids = kids; other = other })
nth (spot label kids other later) (suc n) = nth later n

abbrev pub content_or_fallback : Spots → Spots → ℕ → Option One
content_or_fallback content fallback zero = nth content 0
content_or_fallback content fallback (suc zero) = nth fallback 0
content_or_fallback content fallback (suc (suc n)) = None

-- nothing lies inside a leaf
abbrev pub inside : Label → Spots → Spots → ℕ → Option One
inside nothing kids other n = None
inside (text t) kids other n = None
inside (element name attributes) kids other n = nth kids n
inside array kids other n = nth kids n
inside boundary kids other n = content_or_fallback kids other n
inside (wait resource) kids other n = None
inside (fail digest) kids other n = None

abbrev pub at : One → List ℕ → Option One
at one [] = Some one
at one (n ∷ path) = option_and_then (λ below. at below path) (inside one.label one.kids one.other n)

-- A position's own failures are the digests of those that lie in no boundary's content inside it, in document order. So
-- the failures of a fallback are those of what stands around its boundary.
abbrev pub own_fails : Label → List (List ℕ) → List (List ℕ) → List (List ℕ)
own_fails nothing kids other = []
own_fails (text t) kids other = []
own_fails (element name attributes) kids other = kids
own_fails array kids other = kids
own_fails boundary kids other = other
own_fails (wait resource) kids other = []
own_fails (fail digest) kids other = digest ∷ []

abbrev pub fails : Spots → List (List ℕ)
fails none = []
fails (spot label kids other later) = own_fails label (fails kids) (fails other) ++ fails later

-- the resources of its own waits
abbrev pub own_waits : Label → List (List ℕ) → List (List ℕ) → List (List ℕ)
own_waits nothing kids other = []
own_waits (text t) kids other = []
own_waits (element name attributes) kids other = kids
own_waits array kids other = kids
own_waits boundary kids other = other
own_waits (wait resource) kids other = resource ∷ []
own_waits (fail digest) kids other = []

abbrev pub waits : Spots → List (List ℕ)
waits none = []
waits (spot label kids other later) = own_waits label (waits kids) (waits other) ++ waits later

-- the failures that lie in no boundary inside
abbrev pub own_bare_fails : Label → List (List ℕ) → List (List ℕ)
own_bare_fails nothing kids = []
own_bare_fails (text t) kids = []
own_bare_fails (element name attributes) kids = kids
own_bare_fails array kids = kids
own_bare_fails boundary kids = []
own_bare_fails (wait resource) kids = []
own_bare_fails (fail digest) kids = digest ∷ []

abbrev pub bare_fails : Spots → List (List ℕ)
bare_fails none = []
bare_fails (spot label kids other later) = own_bare_fails label (bare_fails kids) ++ bare_fails later

-- What never settles has failed: each wait is taken as a failure with the digest `unsettled`.
abbrev pub settled_label : Label → Label
settled_label nothing = nothing
settled_label (text t) = text t
settled_label (element name attributes) = element name attributes
settled_label array = array
settled_label boundary = boundary
settled_label (wait resource) = fail (codes "unsettled")
settled_label (fail digest) = fail digest

abbrev pub settled : Spots → Spots
settled none = none
settled (spot label kids other later) = spot (settled_label label) (settled kids) (settled other) (settled later)

-- The weight adds up over all positions: 1 for each call that was opened, and 1 for the shape; for a text its bytes
-- more, for an element the bytes of its printed attributes' names and unescaped values, for a failure those of its digest.
abbrev pub attribute_weight : Attr → ℕ
attribute_weight attribute = length attribute.name + option_map_or length attribute.value 0

abbrev pub shape_weight : Shape ℕ → ℕ
shape_weight s.Nothing = 0
shape_weight (s.Text t) = length t
shape_weight (s.Element name attributes kids) = sum_by attribute_weight attributes + sum kids
shape_weight (s.Array kids) = sum kids
shape_weight (s.Boundary content fallback) = content + fallback
shape_weight (s.Wait resource) = 0
shape_weight (s.Fail digest) = length digest

abbrev pub weight_step : Tree-F ℕ → ℕ
weight_step layer = layer.calls + 1 + shape_weight layer.shape

abbrev pub weight_of : Tree → ℕ
weight_of = fold-Tree ℕ weight_step
