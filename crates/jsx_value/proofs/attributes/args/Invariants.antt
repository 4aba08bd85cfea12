use Rattle.std.proofs.Common.{◌≡◌, take}
use Rattle.jsx_value.specs.Positions.{args_of}
use Rattle.jsx_value.proofs.attributes.args.Given as goal

abbrev pub invariant-loop-prop : goal.invariant-loop-prop
invariant-loop-prop l = l.args ≡ args_of (take l.prop-index l.props) l.scope
