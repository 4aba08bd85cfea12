use Rattle.std.proofs.Common.{◌≡◌, drop, codes}
use Rattle.jsx_syntax.specs.Rules.{properties_of}
use Rattle.jsx_check.proofs.checking.app_properties.Given as goal

-- those that are left decide
abbrev pub invariant-loop-component : goal.invariant-loop-component
invariant-loop-component l = properties_of (codes "App") (drop l.component-index l.components) ≡ properties_of (codes "App") l.components
