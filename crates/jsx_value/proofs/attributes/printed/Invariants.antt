use Rattle.std.proofs.Common.{◌≡◌, ◌++◌, drop}
use Rattle.jsx_value.specs.Positions.{attributes_of}
use Rattle.jsx_value.proofs.attributes.printed.Given as goal

-- what was printed, before what is left
abbrev pub invariant-loop-prop : goal.invariant-loop-prop
invariant-loop-prop l = l.attributes ++ attributes_of l.prefix (drop l.prop-index l.props) l.scope ≡ attributes_of l.prefix l.props l.scope
