use Rattle.std.proofs.Common.{◌≡◌, take}
use Rattle.jsx_value.specs.SeenScope.{entries_of}
use Rattle.jsx_value.proofs.scope.copy_of.Given as goal

abbrev pub invariant-loop-binding : goal.invariant-loop-binding
invariant-loop-binding l = entries_of l.copies.items ≡ entries_of (take l.binding-index l.bindings)
