use Rattle.std.proofs.Common.{◌≡◌, ◌≤◌, ◌-◌, drop, length}
use Rattle.jsx_lex.specs.Reading.{string_len, offset_by}
use Rattle.jsx_lex.proofs.string.string_len.Given as goal

abbrev pub invariant-parts : goal.invariant-parts
invariant-parts l = record {
  within : l.at ≤ length l.rest;
  left : string_len l.quote 0 l.rest ≡ offset_by l.at (string_len l.quote 0 (drop l.at l.rest));
}

abbrev pub decreases-parts : goal.decreases-parts
decreases-parts l = length l.rest - l.at
