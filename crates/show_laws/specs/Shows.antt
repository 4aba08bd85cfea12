-- What a page shows of the positions of an expansion, some of whose segments and boundaries are still to come.
use Rattle.std.specs.Prelude.{◌≡◌, ℕ, ◌+◌, Bool, true, List, [], ◌∷◌, ◌++◌, Contains, Option, Some}
use Rattle.fizz_text.specs.declared.attribute.Attr.{Attr}
use Rattle.jsx_value.specs.Spots.{Label, One, Spots, none, spot, fails}
use Rattle.jsx_value.specs.Spots as l
use Rattle.page_laws.specs.Pages.{Page}
use Rattle.page_laws.specs.Pages as g

-- A position with all inside, and where it stands: the path above it, and its number among its siblings.
pub record Position : Type 0 where
  pub above : List ℕ
  pub number : ℕ
  pub one : One

abbrev pub position : List ℕ → ℕ → Label → Spots → Spots → Position
position above number label kids other =
    record { above = above; number = number; one = record { label = label; kids = kids; other = other } }

-- Who drew which id, once and for all: the position of a segment, and that of a boundary. Beside it, which boundaries
-- show their content.
pub record Drawn : Type 0 where
  pub segment : ℕ → Option Position
  pub boundary : ℕ → Option Position
  pub is_revealed : List ℕ → ℕ → Bool

-- The page begins with what shows the positions beside each other from this number on, and the rest follows. Of a
-- boundary, the content is its position 0 and the fallback its position 1.
pub data Shows (drawn : Drawn) : List ℕ → ℕ → Spots → Page → Page → Type 0 where
  done : (above : List ℕ) (n : ℕ) (rest : Page) → Shows drawn above n none rest rest
  separated : (above : List ℕ) (n : ℕ) (spots : Spots) (page rest : Page)
      → Shows drawn above n spots page rest → Shows drawn above n spots (g.separator page) rest
  -- a placeholder in the place of a segment that is still to come
  awaits : (above : List ℕ) (n : ℕ) (label : Label) (kids other later : Spots) (id : ℕ) (page rest : Page)
      → drawn.segment id ≡ Some (position above n label kids other) → Shows drawn above (n + 1) later page rest
      → Shows drawn above n (spot label kids other later) (g.placeholder id page) rest
  skips : (above : List ℕ) (n : ℕ) (kids other later : Spots) (page rest : Page)
      → Shows drawn above (n + 1) later page rest → Shows drawn above n (spot l.nothing kids other later) page rest
  says : (above : List ℕ) (n : ℕ) (t : List ℕ) (kids other later : Spots) (page rest : Page)
      → Shows drawn above (n + 1) later page rest → Shows drawn above n (spot (l.text t) kids other later) (g.text t page) rest
  stands : (above : List ℕ) (n : ℕ) (name : List ℕ) (attributes : List Attr) (kids other later : Spots) (items page rest : Page)
      → Shows drawn (above ++ n ∷ []) 0 kids items g.nothing → Shows drawn above (n + 1) later page rest
      → Shows drawn above n (spot (l.element name attributes) kids other later) (g.element name attributes items page) rest
  joins : (above : List ℕ) (n : ℕ) (kids other later : Spots) (page between rest : Page)
      → Shows drawn (above ++ n ∷ []) 0 kids page between → Shows drawn above (n + 1) later between rest
      → Shows drawn above n (spot l.array kids other later) page rest
  -- a boundary that shows its content, of which nothing has failed
  completes : (above : List ℕ) (n : ℕ) (kids other later : Spots) (items page rest : Page)
      → fails kids ≡ [] → drawn.is_revealed above n ≡ true
      → Shows drawn (above ++ n ∷ []) 0 kids items g.nothing → Shows drawn above (n + 1) later page rest
      → Shows drawn above n (spot l.boundary kids other later) (g.complete items page) rest
  -- a boundary that shows its fallback until its content comes
  pends : (above : List ℕ) (n : ℕ) (kids other later : Spots) (id : ℕ) (items page rest : Page)
      → drawn.boundary id ≡ Some (position above n l.boundary kids other)
      → Shows drawn (above ++ n ∷ []) 1 other items g.nothing → Shows drawn above (n + 1) later page rest
      → Shows drawn above n (spot l.boundary kids other later) (g.pending id items page) rest
  -- a boundary that shows its fallback since its content failed
  refuses : (above : List ℕ) (n : ℕ) (kids other later : Spots) (id : Option ℕ) (digest : List ℕ) (items page rest : Page)
      → Contains (fails kids) digest
      → Shows drawn (above ++ n ∷ []) 1 other items g.nothing → Shows drawn above (n + 1) later page rest
      → Shows drawn above n (spot l.boundary kids other later) (g.client id digest items page) rest

-- The page shows the position.
abbrev pub ShowsPosition : Drawn → Position → Page → Type 0
ShowsPosition drawn p page =
    Shows drawn p.above p.number (spot p.one.label p.one.kids p.one.other none) page g.nothing

-- Ids that were drawn stay drawn, and boundaries that show their content go on showing it.
pub record Grows (old new : Drawn) : Type 0 where
  pub segment : (id : ℕ) (p : Position) → old.segment id ≡ Some p → new.segment id ≡ Some p
  pub boundary : (id : ℕ) (p : Position) → old.boundary id ≡ Some p → new.boundary id ≡ Some p
  pub is_revealed : (above : List ℕ) (n : ℕ) → old.is_revealed above n ≡ true → new.is_revealed above n ≡ true
