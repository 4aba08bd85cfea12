-- A view by its parts, and the parts of a view.
use Rattle.std.specs.Prelude.{List, [], ◌∷◌}
use Rattle.document_machine.specs.declared.view.ViewPart.{ViewPart}
use Rattle.document_machine.specs.declared.view.ViewPart.TheVariants.{Element, Text, Boundary, EndOfElement, EndOfBoundary}
use Rattle.document_machine.specs.Views.{View, end, text, element, boundary, Levels, levels_at_end, with_first}

-- What follows an end; nothing where none comes.
abbrev pub levels_after : List View → Levels
levels_after [] = record { first = end; rest = [] }
levels_after (next ∷ rest) = record { first = next; rest = rest }

-- Siblings up to the first end of what was begun before them, then those up to the next one, and so on.
abbrev pub levels_of_parts : List ViewPart → Levels
levels_of_parts [] = record { first = end; rest = [] }
levels_of_parts (Element name attributes ∷ parts) =
    let inner = levels_of_parts parts in with_first (element name attributes inner.first) (levels_after inner.rest)
levels_of_parts (Text t ∷ parts) = with_first (text t) (levels_of_parts parts)
levels_of_parts (Boundary kind digest ∷ parts) =
    let inner = levels_of_parts parts in with_first (boundary kind digest inner.first) (levels_after inner.rest)
levels_of_parts (EndOfElement ∷ parts) = levels_at_end (levels_of_parts parts)
levels_of_parts (EndOfBoundary ∷ parts) = levels_at_end (levels_of_parts parts)

-- The view whose parts these are.
abbrev pub view_of_parts : List ViewPart → View
view_of_parts parts = (levels_of_parts parts).first

-- The parts of a view, before others.
abbrev pub view_parts : View → List ViewPart → List ViewPart
view_parts end more = more
view_parts (text t later) more = Text t ∷ view_parts later more
view_parts (element name attributes items later) more =
    Element name attributes ∷ view_parts items (EndOfElement ∷ view_parts later more)
view_parts (boundary kind digest items later) more =
    Boundary kind digest ∷ view_parts items (EndOfBoundary ∷ view_parts later more)
