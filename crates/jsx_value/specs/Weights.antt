-- The weight of a place: its own, and those of the places inside.
use Rattle.std.specs.Prelude.{ℕ, ◌+◌, ◌≡◌, ◌≤◌, ◌<◌, List, [], ◌∷◌, length, sum_by, Option, Some, None}
use Rattle.jsx_value.specs.declared.shape.Shape.{Shape}
use Rattle.jsx_value.specs.declared.shape.Shape.TheVariants as s
use Rattle.jsx_value.specs.declared.weight.WeighRefused.{WeighRefused}
use Rattle.jsx_value.specs.declared.weight.WeighRefused.TheVariants.{TooLarge, OutOfMemory as Memory}
use Rattle.jsx_value.specs.Positions.{Opened, Page, Place, expansion, root_place, shape_of}
use Rattle.jsx_value.specs.Spots.{attribute_weight, weight_of}

-- the most that a page may weigh
abbrev pub most_weight : ℕ
most_weight = 8000000

abbrev pub weight_at : Page → Place → ℕ
weight_at page place = weight_of (expansion page place)

abbrev pub page_weight : Page → ℕ
page_weight page = weight_at page root_place

-- what is kept of the positions inside a shape
abbrev pub inside_of : {K : Type 0} → Shape K → List K
inside_of s.Nothing = []
inside_of (s.Text t) = []
inside_of (s.Element name attributes kids) = kids
inside_of (s.Array kids) = kids
inside_of (s.Boundary content fallback) = content ∷ fallback ∷ []
inside_of (s.Wait resource) = []
inside_of (s.Fail digest) = []

-- the bytes of a shape that count
abbrev pub bytes_weight : {K : Type 0} → Shape K → ℕ
bytes_weight s.Nothing = 0
bytes_weight (s.Text t) = length t
bytes_weight (s.Element name attributes kids) = sum_by attribute_weight attributes
bytes_weight (s.Array kids) = 0
bytes_weight (s.Boundary content fallback) = 0
bytes_weight (s.Wait resource) = 0
bytes_weight (s.Fail digest) = length digest

abbrev pub own_weight : {K : Type 0} → Opened K → ℕ
own_weight layer = layer.calls + 1 + bytes_weight layer.shape

-- A place weighs what its layer does by itself, and what the places inside weigh.
abbrev pub AddsUp : Page → Type 0
AddsUp page = (place : Place)
    → weight_at page place ≡ own_weight (shape_of page place) + sum_by (weight_at page) (inside_of (shape_of page place).shape)

-- The weight passes the most, or there was no memory.
abbrev pub IsTooLarge : ℕ → WeighRefused → Type 0
IsTooLarge weight (TooLarge limit) = (limit ≡ most_weight) × (most_weight < weight)
IsTooLarge weight Memory = Unit {0}

-- A sum that is told exactly where it doesn't pass the most.
abbrev pub IsWithin : ℕ → Option ℕ → Type 0
IsWithin sum (Some told) = (told ≡ sum) × (sum ≤ most_weight)
IsWithin sum None = most_weight < sum
