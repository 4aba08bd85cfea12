-- Works, and the pieces that they come to.
use Rattle.std.specs.Prelude.{◌≡◌, ◌≢◌, ℕ, ◌≤◌, List, [], ◌∷◌, ◌++◌, length, map, All, Some, slice_get}
use Rattle.html_print.specs.Sheets.{CutAt, printed_of}
use Rattle.jsx_value.specs.Positions.{Page}
use Rattle.jsx_value.specs.SeenPlaces.{page_with, place_at}
use Rattle.jsx_value.specs.Spots.{One, wait, own_bare_fails, bare_fails}
use Rattle.fizz_piece.specs.declared.plan.Plan.{Plan}
use Rattle.fizz_piece.specs.declared.work.Work.{Work}
use Rattle.fizz_piece.specs.declared.piece.Kid.{Kid}
use Rattle.fizz_piece.specs.declared.piece.Kid.TheVariants as kid
use Rattle.fizz_piece.specs.declared.piece.Piece.{Piece}
use Rattle.fizz_piece.specs.declared.piece.Piece.TheVariants as piece
use Rattle.fizz_piece.specs.Places.{place_in, position_of}
use Rattle.fizz_piece.specs.Printing.{Cut, hole, nest, piece_sheet}

-- the page of a plan, where so many of its outcomes are known
abbrev pub page_under : Plan → ℕ → Page
page_under plan settled = page_with plan.app.now plan.outcomes.now settled plan.options.now.prefix

-- The work's place stands at its path, where so many outcomes are known as it says.
pub record IsGoodWork (plan : Plan) (work : Work) : Type 0 where
  pub within : work.settled ≤ length plan.outcomes.now
  pub stands : place_in (page_under plan work.settled) work.path ≡ Some (place_at work.spot work.scope)

-- what stands at the work's place
abbrev pub position_at : Page → Work → One
position_at page work = position_of page (place_at work.spot work.scope)

-- The failures that no boundary inside holds, in document order.
abbrev pub failures_of : One → List (List ℕ)
failures_of one = own_bare_fails one.label (bare_fails one.kids)

abbrev pub WaitsFor : One → List ℕ → Type 0
WaitsFor one resource = one.label ≡ wait resource

-- The position waits for nothing itself, and this is the first failure.
pub record FailsFirst (one : One) (digest : List ℕ) : Type 0 where
  pub waits_not : (resource : List ℕ) → one.label ≢ wait resource
  pub first : slice_get (failures_of one) 0 ≡ Some digest

-- a kid as what was cut out
abbrev pub cut_of : Kid → CutAt Cut
cut_of (kid.Hole place path spot scope resource lead) =
    record { place = place; cut_out = hole path resource lead }
cut_of (kid.Boundary place path content content_scope fallback fallback_scope) =
    record { place = place; cut_out = nest path }

-- A hole's place stands at its path. A boundary's content and fallback are its positions 0 and 1.
abbrev pub IsPlaced : Page → Kid → Type 0
IsPlaced page (kid.Hole place path spot scope resource lead) = place_in page path ≡ Some (place_at spot scope)
IsPlaced page (kid.Boundary place path content content_scope fallback fallback_scope) =
    (place_in page (path ++ 0 ∷ []) ≡ Some (place_at content content_scope))
    × (place_in page (path ++ 1 ∷ []) ≡ Some (place_at fallback fallback_scope))

-- Neither does the position wait, nor is there a failure: it is printed, and the kids are what was cut out of it.
pub record PrintsWork (page : Page) (work : Work) (bytes : List ℕ) (kids : List Kid) : Type 0 where
  pub waits_not : (resource : List ℕ) → (position_at page work).label ≢ wait resource
  pub no_failure : failures_of (position_at page work) ≡ []
  pub printed : printed_of (piece_sheet work.flags work.path (position_at page work))
      ≡ record { out = bytes; cuts = map cut_of kids }
  pub placed : All (IsPlaced page) kids

-- The piece is the work's, on this page.
abbrev pub IsPieceOn : Page → Work → Piece → Type 0
IsPieceOn page work (piece.Done own bytes kids) = (own ≡ work) × PrintsWork page work bytes.items kids
IsPieceOn page work (piece.Blocked own resource) = (own ≡ work) × WaitsFor (position_at page work) resource
IsPieceOn page work (piece.Failed own digest) = (own ≡ work) × FailsFirst (position_at page work) digest

-- The piece is what the work comes to, and holds the same work.
abbrev pub IsPieceOf : Plan → Work → Piece → Type 0
IsPieceOf plan work = IsPieceOn (page_under plan work.settled) work
