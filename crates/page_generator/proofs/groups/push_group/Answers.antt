use Rattle.std.proofs.Common.{arith}
use Rattle.page_generator.proofs.GroupsLemmas.{group_appended}
use Rattle.page_generator.proofs.groups.push_group.Goals as goal

pub returns : goal.returns
returns c =
    group_appended c.args.script.now.items c.extend_from_slice.new.self.items c.push_number.new.out.items
    c.push_later_numbers.new.script.items c.extend_from_slice-2.new.self.items c.args.first c.args.past (omega arith)
    c.in_ok-extend_from_slice.ensures.items c.in_ok-push_number.ensures c.in_ok-push_later_numbers.ensures
    c.in_ok-extend_from_slice-2.ensures.items
