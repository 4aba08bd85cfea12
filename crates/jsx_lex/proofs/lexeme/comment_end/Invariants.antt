use Rattle.std.proofs.Common.{◌≡◌, drop}
use Rattle.jsx_lex.specs.Reading.{comment_end, offset_by}
use Rattle.jsx_lex.proofs.lexeme.comment_end.Given as goal

abbrev pub invariant-loop-at : goal.invariant-loop-at
invariant-loop-at l = comment_end l.rest ≡ offset_by l.at (comment_end (drop l.at l.rest))
