use Rattle.std.proofs.Common.{◌≡◌, ◌-◌, ◌≤◌, ◌++◌, length, drop}
use Rattle.jsx_lex.specs.References.{decoded_text}
use Rattle.jsx_lex.proofs.reference.push_decoded.Given as goal

abbrev pub invariant-characters : goal.invariant-characters
invariant-characters l = record {
  within : l.at ≤ length l.text;
  left : l.out.items ++ decoded_text (drop l.at l.text) ≡ l.fn.out.items ++ decoded_text l.text;
}

abbrev pub decreases-characters : goal.decreases-characters
decreases-characters l = length l.text - l.at
