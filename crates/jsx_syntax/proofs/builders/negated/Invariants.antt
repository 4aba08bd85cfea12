use Rattle.std.proofs.Common.{◌≡◌}
use Rattle.jsx_syntax.specs.Steps as steps
use Rattle.jsx_syntax.proofs.builders.negated.Given as goal

abbrev pub invariant-loop-done : goal.invariant-loop-done
invariant-loop-done l = l.built ≡ steps.nots_of l.done l.fn.operand
