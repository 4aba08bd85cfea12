use Rattle.std.proofs.Common.{◌≡◌, length}
use Rattle.jsx_lex.specs.Cleaning.{clean_text, trimmed_lines, lines_of}
use Rattle.jsx_lex.specs.LineJoining.{with_lines}
use Rattle.jsx_lex.proofs.clean.clean.Given as goal

abbrev pub invariant-lines : goal.invariant-lines
invariant-lines l = with_lines l.out.items (trimmed_lines l.is_first (lines_of l.rest)) ≡ clean_text l.fn.text

abbrev pub decreases-lines : goal.decreases-lines
decreases-lines l = length l.rest
