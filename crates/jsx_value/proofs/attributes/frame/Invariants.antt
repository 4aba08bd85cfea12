use Rattle.std.proofs.Common.{◌≡◌, take}
use Rattle.jsx_value.specs.Positions.{frame_of}
use Rattle.jsx_value.proofs.attributes.frame.Given as goal

abbrev pub invariant-loop-property : goal.invariant-loop-property
invariant-loop-property l = l.frame ≡ frame_of (take l.property-index l.properties) l.args
