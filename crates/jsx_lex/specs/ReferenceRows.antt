-- The names of the code's table of references as rows.
use Rattle.std.specs.Prelude.{ℕ, List}
use Rattle.jsx_lex.specs.declared.reference.ReferenceName.{ReferenceName}

abbrev pub row_of : ReferenceName → List ℕ × ℕ
row_of name = (name.bytes.now, name.character)
