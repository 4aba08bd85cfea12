use Rattle.std.proofs.Common.{◌-◌, ◌≤◌, length}
use Rattle.jsx_lex.specs.ModesView.{modes_of}
use Rattle.jsx_lex.proofs.Readings.{Reached}
use Rattle.jsx_lex.proofs.lexer.lex.Given as goal

abbrev pub invariant-lexemes : goal.invariant-lexemes
invariant-lexemes l = record {
  within : l.at ≤ length l.text;
  reached : Reached l.text l.at (modes_of l.modes) l.tokens.items;
}

abbrev pub decreases-lexemes : goal.decreases-lexemes
decreases-lexemes l = length l.text - l.at
