use Rattle.std.proofs.Common.{arith}
use Rattle.page_generator.proofs.GroupsLemmas.{line_appended, line_state}
use Rattle.page_generator.proofs.groups.push_groups_line.Goals as goal

pub returns-clause-script : goal.returns-clause-script
returns-clause-script c =
    line_appended c.args.script.now.items c.extend_from_slice.new.self.items c.push_next_group.new.script.items
    c.push_later_groups.new.script.items c.extend_from_slice-2.new.self.items
    c.args.draws.now c.push_next_group.new.draws c.in_ok-past.past c.args.size (omega arith)
    c.in_ok-past.ensures.past c.in_ok-extend_from_slice.ensures.items c.in_ok-past.ensures.script
    c.in_ok-past.ensures.draws c.in_ok-push_later_groups.ensures.script c.in_ok-extend_from_slice-2.ensures.items

pub returns-clause-draws : goal.returns-clause-draws
returns-clause-draws c =
    line_state c.args.draws.now c.push_next_group.new.draws c.push_later_groups.new.draws c.in_ok-past.past c.args.size
    (omega arith) c.in_ok-past.ensures.past c.in_ok-past.ensures.draws c.in_ok-push_later_groups.ensures.draws
