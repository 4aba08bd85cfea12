-- What is left out of a piece: the positions below its own that wait, and the outermost boundaries, in document order.
use Rattle.std.specs.Prelude.{◌≡◌, ℕ, ◌+◌, List, [], ◌∷◌, ◌++◌, Bool, false, map, Contains, Some}
use Rattle.std.specs.Option.{option_map_or}
use Rattle.jsx_value.specs.Spots.{Label, nothing, text, element, array, boundary, wait, fail, Spots, none, spot, One, at, waits, own_waits}
use Rattle.html_print.specs.Sheets.{CutAt}
use Rattle.fizz_piece.specs.Printing.{Cut, hole, nest}
use Rattle.position_laws.specs.Owners.{own_failures, owner_of}
use Rattle.position_laws.specs.Paths.{Under, label_at}

pub data Gap : Type 0 where
  -- a position that waits, at its path, with its resource
  waiting : (path resource : List ℕ) → Gap
  -- a boundary, at its path
  bounded : (path : List ℕ) → Gap

abbrev pub gap_path : Gap → List ℕ
gap_path (waiting path resource) = path
gap_path (bounded path) = path

-- A position that is left out leaves one gap, and any other those inside it.
abbrev pub label_gaps : Label → List ℕ → List Gap → List Gap
label_gaps nothing path inner = []
label_gaps (text t) path inner = []
label_gaps (element name attributes) path inner = inner
label_gaps array path inner = inner
label_gaps boundary path inner = bounded path ∷ []
label_gaps (wait resource) path inner = waiting path resource ∷ []
label_gaps (fail digest) path inner = []

-- of siblings inside the position at a path, the first of which has the number n
abbrev pub gaps_below : List ℕ → ℕ → Spots → List Gap
gaps_below above n none = []
gaps_below above n (spot label kids other later) =
    label_gaps label (above ++ n ∷ []) (gaps_below (above ++ n ∷ []) 0 kids)
    ++ gaps_below above (n + 1) later

abbrev pub gaps_of : List ℕ → One → List Gap
gaps_of path one = label_gaps one.label path (gaps_below path 0 one.kids)

-- what was cut out, without the text before it
abbrev pub gap_of : Cut → Gap
gap_of (hole path resource after_text) = waiting path resource
gap_of (nest path) = bounded path

abbrev pub cut_gaps : List (CutAt Cut) → List Gap
cut_gaps cuts = map (λ c. gap_of c.cut_out) cuts

abbrev pub gap_label : Gap → Label
gap_label (waiting path resource) = wait resource
gap_label (bounded path) = boundary

-- The gap is a position of the page below the path of a piece, of its label, and has the piece's owner. What stands in
-- a boundary's fallback has that owner too, and what stands in its content has the boundary.
pub record IsGapIn (root : One) (path : List ℕ) (gap : Gap) : Type 0 where
  pub below : Under path (gap_path gap)
  pub stands : label_at root (gap_path gap) ≡ Some (gap_label gap)
  pub owner : owner_of root (gap_path gap) ≡ owner_of root path
  pub content : gap ≡ bounded (gap_path gap)
      → owner_of root (gap_path gap ++ 0 ∷ []) ≡ Some (gap_path gap)
  pub fallback : gap ≡ bounded (gap_path gap)
      → owner_of root (gap_path gap ++ 1 ∷ []) ≡ owner_of root path

-- the own failures and waits of what stands at a path
abbrev pub own_resources : One → List (List ℕ)
own_resources one = own_waits one.label (waits one.kids) (waits one.other)

abbrev pub failures_at : One → List ℕ → List (List ℕ)
failures_at root path = option_map_or own_failures (at root path) []

abbrev pub resources_at : One → List ℕ → List (List ℕ)
resources_at root path = option_map_or own_resources (at root path) []

-- A leaf is a wait or a failure.
abbrev pub IsLeaf : Label → Type 0
IsLeaf nothing = ⊥
IsLeaf (text t) = ⊥
IsLeaf (element name attributes) = ⊥
IsLeaf array = ⊥
IsLeaf boundary = ⊥
IsLeaf (wait resource) = Unit {0}
IsLeaf (fail digest) = Unit {0}

-- Something at this path fills the gap: what has come where a position waited, or what a boundary shows meanwhile.
abbrev pub Fills : Gap → List ℕ → Type 0
Fills (waiting path resource) below = Under path below
Fills (bounded path) below = Under (path ++ 1 ∷ []) below

-- A path lies at or below one of the gaps. If it is the piece's own, it fills the gap.
pub record LiesInGap (gaps : List Gap) (path : List ℕ) (IsOwn : Type 0) : Type 0 where
  pub gap : Gap
  pub among : Contains gaps gap
  pub under : Under (gap_path gap) path
  pub fills : IsOwn → Fills gap path

-- None of the resources that the gaps wait for has settled since.
abbrev pub StillWait : (List ℕ → Bool) → List Gap → Type 0
StillWait known gaps =
    (path resource : List ℕ) → Contains gaps (waiting path resource) → known resource ≡ false
