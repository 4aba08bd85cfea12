use Rattle.std.proofs.Common.{◌++◌, length}
use Rattle.page_generator.specs.Draws.{state_after}
use Rattle.page_generator.specs.Parts.{groups_from, later_groups}
use Rattle.page_generator.proofs.GroupsLemmas.{groups_more, groups_state, groups_within}
use Rattle.page_generator.proofs.groups.push_later_groups.Goals as goal

pub loop-at-preserved : goal.loop-at-preserved
loop-at-preserved c = record {
  within = groups_within c.loop-at.draws c.loop-at.at c.in_ok-at.at c.args.size c.loop-at-test.true c.in_ok-at.ensures.past;
  script =
      groups_more c.loop-at.script.items c.push.new.self.items c.push_next_group.new.script.items
      (c.args.script.now.items ++ later_groups (groups_from c.args.draws.now c.args.first c.args.size))
      c.loop-at.draws c.push_next_group.new.draws c.loop-at.at c.in_ok-at.at c.args.size
      c.loop-at-test.true c.in_ok-at.ensures.past c.in_ok-push.ensures.items c.in_ok-at.ensures.script
      c.in_ok-at.ensures.draws c.loop-at.invariant.script;
  draws =
      groups_state c.loop-at.draws c.push_next_group.new.draws c.loop-at.at c.in_ok-at.at c.args.size
      (state_after (length (groups_from c.args.draws.now c.args.first c.args.size)) c.args.draws.now)
      c.loop-at-test.true c.in_ok-at.ensures.past c.in_ok-at.ensures.draws c.loop-at.invariant.draws;
}
