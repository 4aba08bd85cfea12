use Rattle.std.proofs.Common.{◌≡◌, take}
use Rattle.jsx_print.specs.Spelling.{escaped}
use Rattle.jsx_print.proofs.words.escaped_bytes.Given as goal

abbrev pub invariant-loop-byte : goal.invariant-loop-byte
invariant-loop-byte l = l.out.items ≡ escaped (take l.byte-index l.text)
