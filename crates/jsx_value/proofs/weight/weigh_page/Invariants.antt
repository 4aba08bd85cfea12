use Rattle.std.proofs.Common.{◌≡◌, ◌+◌, ◌≤◌}
use Rattle.jsx_value.specs.Layers.{page_of}
use Rattle.jsx_value.specs.Weighing.{stack_weight}
use Rattle.jsx_value.specs.Weights.{most_weight, page_weight}
use Rattle.jsx_value.proofs.weight.weigh_page.Given as goal

-- what was weighed, and what is left to be
abbrev pub invariant-loop-kin : goal.invariant-loop-kin
invariant-loop-kin l = record {
  same : l.total + stack_weight (page_of l.page) l.stack ≡ page_weight (page_of l.page);
  within : l.total ≤ most_weight;
}

abbrev pub decreases-loop-kin : goal.decreases-loop-kin
decreases-loop-kin l = stack_weight (page_of l.page) l.stack
