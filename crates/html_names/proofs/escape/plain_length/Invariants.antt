use Rattle.std.proofs.Common.{◌≡◌, take}
use Rattle.html_names.specs.Escape.{escape_of}
use Rattle.html_names.proofs.escape.plain_length.Given as goal

abbrev pub invariant-loop-at : goal.invariant-loop-at
invariant-loop-at l = escape_of (take l.at l.text) ≡ take l.at l.text
