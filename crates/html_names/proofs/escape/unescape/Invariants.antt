use Rattle.std.proofs.Common.{◌≡◌, ◌++◌, length}
use Rattle.html_names.specs.Escape.{escape_of}
use Rattle.html_names.proofs.escape.unescape.Given as goal

-- What was read is spelled by what was passed.
abbrev pub invariant-loop-byte : goal.invariant-loop-byte
invariant-loop-byte l = escape_of l.text.items ++ l.rest ≡ l.bytes

abbrev pub decreases-loop-byte : goal.decreases-loop-byte
decreases-loop-byte l = length l.rest
