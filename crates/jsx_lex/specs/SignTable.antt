-- The signs of each mode, and what each does to the modes. Longer signs stand before shorter ones, so the sign at a
-- place is the first of its table with which the text goes on there.
use Rattle.std.specs.Prelude.{ℕ, List, [], ◌∷◌, codes, find, Option}
use Rattle.jsx_lex.specs.Characters.{begins}
use Rattle.jsx_lex.specs.declared.mode.Mode.{Mode}
use Rattle.jsx_lex.specs.declared.mode.Mode.TheVariants.{Code, Tag, Children, Close}
use Rattle.jsx_lex.specs.declared.mode.Change.{Change}
use Rattle.jsx_lex.specs.declared.mode.Change.TheVariants.{Keep, Push, Turn, Pop}

pub record SignRow : Type 0 where
  pub bytes : List ℕ
  pub change : Change

abbrev pub row : List ℕ → Change → SignRow
row bytes change = record { bytes = bytes; change = change }

-- `{` opens Code and `}` closes it, `<` opens a tag.
unfoldable pub code_signs : List SignRow
code_signs =
    row (codes "===") Keep ∷
    row (codes "!==") Keep ∷
    row (codes "=>") Keep ∷
    row (codes "&&") Keep ∷
    row (codes "||") Keep ∷
    row (codes "{") (Push Code) ∷
    row (codes "}") Pop ∷
    row (codes "(") Keep ∷
    row (codes ")") Keep ∷
    row (codes "[") Keep ∷
    row (codes "]") Keep ∷
    row (codes ",") Keep ∷
    row (codes ";") Keep ∷
    row (codes ":") Keep ∷
    row (codes ".") Keep ∷
    row (codes "?") Keep ∷
    row (codes "!") Keep ∷
    row (codes "=") Keep ∷
    row (codes "+") Keep ∷
    row (codes "<") (Push Tag) ∷
    []

-- `/>` ends an element without children, `>` begins the children.
unfoldable pub tag_signs : List SignRow
tag_signs =
    row (codes "/>") Pop ∷
    row (codes ">") (Turn Children) ∷
    row (codes "{") (Push Code) ∷
    row (codes "=") Keep ∷
    []

-- `</` begins the closing tag of the element, another `<` a child.
unfoldable pub children_signs : List SignRow
children_signs =
    row (codes "</") (Turn Close) ∷
    row (codes "<") (Push Tag) ∷
    row (codes "{") (Push Code) ∷
    []

unfoldable pub close_signs : List SignRow
close_signs =
    row (codes ">") Pop ∷
    []

abbrev pub signs_of : Mode → List SignRow
signs_of Code = code_signs
signs_of Tag = tag_signs
signs_of Children = children_signs
signs_of Close = close_signs

-- the first sign of the table with which the text begins
abbrev pub first_sign : List SignRow → List ℕ → Option SignRow
first_sign rows text = find (λ (r : SignRow). begins r.bytes text) rows
