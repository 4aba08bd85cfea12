-- The modes of the lexer. Each brace opens Code and each element opens Tag, Children and Close, so the modes
-- around a place are a stack.
use Rattle.std.specs.Prelude.{List, [], ◌∷◌}
use Rattle.jsx_lex.specs.declared.mode.Mode.{Mode}
use Rattle.jsx_lex.specs.declared.mode.Mode.TheVariants.{Code}
use Rattle.jsx_lex.specs.declared.mode.Change.{Change}
use Rattle.jsx_lex.specs.declared.mode.Change.TheVariants.{Keep, Push, Turn, Pop}

-- the mode at a place, and those around it, the nearest first
pub record ModesAt : Type 0 where
  pub mode : Mode
  pub around : List Mode

-- where a text begins
abbrev pub first_modes : ModesAt
first_modes = record { mode = Code; around = [] }

-- back in the nearest mode around. Nothing is around the first Code alone, and no sign leaves that one.
abbrev pub left : List Mode → ModesAt
left [] = first_modes
left (m ∷ ms) = record { mode = m; around = ms }

-- the modes after a sign
abbrev pub modes_after : Change → ModesAt → ModesAt
modes_after Keep modes = modes
modes_after (Push m) modes = record { mode = m; around = modes.mode ∷ modes.around }
modes_after (Turn m) modes = record { mode = m; around = modes.around }
modes_after Pop modes = left modes.around
