use Rattle.std.proofs.Common.{◌≡◌, ◌+◌, length}
use Rattle.html_read.proofs.tests.reads_single_bytes.Given as goal

-- so many bytes were fed
abbrev pub invariant-loop-at : goal.invariant-loop-at
invariant-loop-at g l = l.reader.place + length l.reader.rest ≡ l.at
