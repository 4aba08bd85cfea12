-- The modes that the lexer keeps, as a stack.
use Rattle.std.specs.Prelude.{reverse}
use Rattle.jsx_lex.specs.ModeStack.{ModesAt}
use Rattle.jsx_lex.specs.declared.mode.Modes.{Modes}

abbrev pub modes_of : Modes → ModesAt
modes_of m = record { mode = m.mode; around = reverse m.around.items }
