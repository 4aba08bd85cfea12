use Rattle.std.proofs.Common.{◌≡◌, drop, []}
use Rattle.jsx_check.specs.SeenNames.{texts_onto}
use Rattle.jsx_check.proofs.components.names_of.Given as goal

-- what is left gives the result
abbrev pub invariant-loop-name : goal.invariant-loop-name
invariant-loop-name l = texts_onto l.names (drop l.name-index l.list) ≡ texts_onto [] l.list
