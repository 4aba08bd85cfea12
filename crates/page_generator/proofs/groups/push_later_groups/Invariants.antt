use Rattle.std.proofs.Common.{◌≡◌, ◌≤◌, ◌-◌, ◌++◌, length}
use Rattle.page_generator.specs.Draws.{state_after}
use Rattle.page_generator.specs.Parts.{groups_from, later_groups}
use Rattle.page_generator.proofs.groups.push_later_groups.Given as goal

abbrev pub invariant-loop-at : goal.invariant-loop-at
invariant-loop-at l = record {
  within : l.at ≤ l.size;
  script : l.script.items ++ later_groups (groups_from l.draws l.at l.size) ≡ l.fn.script.items ++ later_groups (groups_from l.fn.draws l.first l.size);
  draws : state_after (length (groups_from l.draws l.at l.size)) l.draws ≡ state_after (length (groups_from l.fn.draws l.first l.size)) l.fn.draws;
}

abbrev pub decreases-loop-at : goal.decreases-loop-at
decreases-loop-at l = l.size - l.at
