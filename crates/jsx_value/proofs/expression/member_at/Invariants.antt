use Rattle.std.proofs.Common.{◌≡◌, drop, fold}
use Rattle.jsx_value.specs.Values.{member_of}
use Rattle.jsx_value.proofs.expression.member_at.Given as goal

abbrev pub invariant-loop-name : goal.invariant-loop-name
invariant-loop-name l = fold member_of l.value (drop l.name-index l.names) ≡ fold member_of l.initial.value l.names
