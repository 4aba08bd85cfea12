use Rattle.std.proofs.Common.{◌≡◌, ◌≤◌, ◌+◌, ◌-◌, length, take}
use Rattle.std.specs.List.{suffix_len}
use Rattle.jsx_lex.specs.Cleaning.{is_blank}
use Rattle.jsx_lex.proofs.clean.trim_end.Given as goal

abbrev pub invariant-blanks : goal.invariant-blanks
invariant-blanks l = record {
  within : l.end ≤ length l.line;
  left : suffix_len is_blank l.line ≡ (length l.line - l.end) + suffix_len is_blank (take l.end l.line);
}

abbrev pub decreases-blanks : goal.decreases-blanks
decreases-blanks l = l.end
