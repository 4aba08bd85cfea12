-- How the line on a generated page is made. Private functions cite it.
use Rattle.std.specs.Prelude.{ℕ, ◌+◌, List, [], ◌∷◌}
use Rattle.document_machine.specs.declared.view.ViewPart.{ViewPart}
use Rattle.document_machine.specs.declared.view.ViewPart.TheVariants.{Element, Text, Boundary, EndOfElement, EndOfBoundary}

-- a part that is a text counts one
abbrev pub text_count : ViewPart → ℕ
text_count (Element name attributes) = 0
text_count (Text t) = 1
text_count (Boundary kind digest) = 0
text_count EndOfElement = 0
text_count EndOfBoundary = 0

-- how many texts are among the parts of a view
abbrev pub text_parts : List ViewPart → ℕ
text_parts [] = 0
text_parts (part ∷ parts) = text_count part + text_parts parts
