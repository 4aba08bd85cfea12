-- The places of a page by their paths. A path has the number of a position at each step, from the call of `App` down.
use Rattle.std.specs.Prelude.{ℕ, zero, suc, List, [], ◌∷◌, Option, Some, None, option_and_then, slice_get}
use Rattle.jsx_value.specs.declared.shape.Shape.{Shape}
use Rattle.jsx_value.specs.declared.shape.Shape.TheVariants as s
use Rattle.jsx_value.specs.Positions.{Page, Place, expansion, root_place, shape_of}
use Rattle.jsx_value.specs.Spots.{Spots, One, none, spot, nothing, spots_of}

-- Of a boundary, the content is position 0 and the fallback is position 1.
abbrev pub content_or_fallback : Place → Place → ℕ → Option Place
content_or_fallback content fallback zero = Some content
content_or_fallback content fallback (suc zero) = Some fallback
content_or_fallback content fallback (suc (suc n)) = None

abbrev pub place_inside : Shape Place → ℕ → Option Place
place_inside s.Nothing n = None
place_inside (s.Text t) n = None
place_inside (s.Element name attributes kids) n = slice_get kids n
place_inside (s.Array kids) n = slice_get kids n
place_inside (s.Boundary content fallback) n = content_or_fallback content fallback n
place_inside (s.Wait resource) n = None
place_inside (s.Fail digest) n = None

-- the place at a path below a place
abbrev pub place_below : Page → Place → List ℕ → Option Place
place_below page place [] = Some place
place_below page place (n ∷ path) =
    option_and_then (λ kid. place_below page kid path) (place_inside (shape_of page place).shape n)

-- the place at a path of the page
abbrev pub place_in : Page → List ℕ → Option Place
place_in page = place_below page root_place

-- the first of some positions beside each other
abbrev pub first_of : Spots → One
first_of none = record { label = nothing; kids = none; other = none }
first_of (spot label kids other later) = record { label = label; kids = kids; other = other }

-- the position at a place, with all positions inside
abbrev pub position_of : Page → Place → One
position_of page place = first_of (spots_of (expansion page place) none)
