use Rattle.std.proofs.Common.{◌≡◌, length}
use Rattle.jsx_syntax.specs.Steps.{finish}
use Rattle.jsx_syntax.proofs.closing.finish.Given as goal

abbrev pub invariant-conditionals : goal.invariant-conditionals
invariant-conditionals l = finish l.part l.stack l.word ≡ finish l.fn.part l.fn.stack l.word

abbrev pub decreases-conditionals : goal.decreases-conditionals
decreases-conditionals l = length l.stack
