use Rattle.std.proofs.Common.{◌≡◌, ◌++◌, take, length}
use Rattle.html_names.specs.Escape.{escape_of}
use Rattle.html_names.proofs.escape.append_escaped.Given as goal

-- What is left gives the result.
abbrev pub invariant-loop-byte : goal.invariant-loop-byte
invariant-loop-byte l = record {
  left : l.out.items ++ escape_of l.rest ≡ l.fn.out.items ++ escape_of l.fn.text;
  front : take (length l.fn.out.items) l.out.items ≡ l.fn.out.items;
}

abbrev pub decreases-loop-byte : goal.decreases-loop-byte
decreases-loop-byte l = length l.rest
