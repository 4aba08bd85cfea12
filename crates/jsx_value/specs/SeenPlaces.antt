-- What the code's positions and shapes stand for.
use Rattle.std.specs.Prelude.{ℕ, List, map, reverse}
use Rattle.settle_script.specs.declared.value.Entry.{Entry}
use Rattle.settle_script.specs.declared.outcome.Outcome.{Outcome}
use Rattle.settle_script.specs.Settlements.{known}
use Rattle.jsx_syntax.specs.declared.file.File.{File}
use Rattle.jsx_value.specs.declared.spot.Spot.{Spot}
use Rattle.jsx_value.specs.declared.spot.Spot.TheVariants as p
use Rattle.jsx_value.specs.declared.spot.Kin.{Kin}
use Rattle.jsx_value.specs.declared.shape.Shape.{Shape}
use Rattle.jsx_value.specs.declared.shape.Shape.TheVariants as s
use Rattle.jsx_value.specs.Positions.{Standing, root, one_node, many_nodes, one_value, Place, Opened, opened, Page}
use Rattle.jsx_value.specs.Expressions.{Names}
use Rattle.jsx_value.specs.declared.statements.Ended.{Ended}
use Rattle.jsx_value.specs.declared.statements.Ended.TheVariants as e

abbrev pub standing_of : Spot → Standing
standing_of p.Root = root
standing_of (p.Node x) = one_node x.now
standing_of (p.Children xs) = many_nodes xs.now
standing_of (p.Value x) = one_value x.now

abbrev pub place_of : Kin → Place
place_of kin = record { stands = standing_of kin.spot; scope = kin.scope }

abbrev pub place_shape : Shape Kin → Shape Place
place_shape s.Nothing = s.Nothing
place_shape (s.Text t) = s.Text t
place_shape (s.Element name attributes kids) = s.Element name attributes (map place_of kids)
place_shape (s.Array kids) = s.Array (map place_of kids)
place_shape (s.Boundary content fallback) = s.Boundary (place_of content) (place_of fallback)
place_shape (s.Wait resource) = s.Wait resource
place_shape (s.Fail digest) = s.Fail digest

-- what an end of statements opens to, where `go` is what follows them
abbrev pub ended : Ended → (Names → Opened Place) → Opened Place
ended (e.Goes scope) go = go scope
ended (e.Stops shape) go = opened (place_shape shape)

abbrev pub place_at : Spot → Names → Place
place_at spot scope = record { stands = standing_of spot; scope = scope }

-- the page that a file makes, where so many outcomes are known
abbrev pub page_with : File → List (Entry Outcome) → ℕ → List ℕ → Page
page_with file outcomes settled prefix =
    record { known = known outcomes settled; components = reverse file.components; prefix = prefix }
