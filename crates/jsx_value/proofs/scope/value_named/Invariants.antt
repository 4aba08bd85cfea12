use Rattle.std.proofs.Common.{◌≡◌, drop}
use Rattle.settle_script.specs.Settlements.{entry_named}
use Rattle.jsx_value.specs.SeenScope.{entries_of}
use Rattle.jsx_value.proofs.scope.value_named.Given as goal

abbrev pub invariant-loop-binding : goal.invariant-loop-binding
invariant-loop-binding l = entry_named l.name (entries_of (drop l.binding-index l.bindings)) ≡ entry_named l.name (entries_of l.bindings)
