use Rattle.std.proofs.Common.{take}
use Rattle.jsx_check.specs.SeenNames.{Knows}
use Rattle.jsx_check.proofs.components.properties_of_all.Given as goal

abbrev pub invariant-loop-component : goal.invariant-loop-component
invariant-loop-component l = Knows l.properties (take l.component-index l.list)
