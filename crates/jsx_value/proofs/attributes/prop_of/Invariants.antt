use Rattle.std.proofs.Common.{◌≡◌, drop}
use Rattle.jsx_value.specs.Positions.{prop_named}
use Rattle.jsx_value.proofs.attributes.prop_of.Given as goal

abbrev pub invariant-loop-prop : goal.invariant-loop-prop
invariant-loop-prop l = prop_named l.name (drop l.prop-index l.props) ≡ prop_named l.name l.props
