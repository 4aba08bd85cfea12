use Rattle.std.proofs.Common.{take, reverse}
use Rattle.jsx_syntax.specs.Rules.{depth_of}
use Rattle.jsx_check.specs.Depths.{Tells}
use Rattle.jsx_check.proofs.depth.app_depth.Given as goal

abbrev pub invariant-loop-component : goal.invariant-loop-component
invariant-loop-component l = Tells l.depths (depth_of (reverse (take l.component-index l.file.components)))
