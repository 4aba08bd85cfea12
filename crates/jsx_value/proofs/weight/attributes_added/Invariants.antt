use Rattle.std.proofs.Common.{◌≡◌, ◌+◌, ◌≤◌, sum_by, take}
use Rattle.jsx_value.specs.Spots.{attribute_weight}
use Rattle.jsx_value.specs.Weights.{most_weight}
use Rattle.jsx_value.proofs.weight.attributes_added.Given as goal

abbrev pub invariant-loop-attribute : goal.invariant-loop-attribute
invariant-loop-attribute l = record {
  same : l.sum ≡ l.total + sum_by attribute_weight (take l.attribute-index l.attributes);
  within : l.sum ≤ most_weight;
}
