use Rattle.std.proofs.Common.{◌++◌}
use Rattle.page_generator.specs.Parts.{later_numbers, numbers_from}
use Rattle.page_generator.proofs.GroupsLemmas.{numbers_more}
use Rattle.page_generator.proofs.groups.push_later_numbers.Goals as goal

pub loop-number-preserved : goal.loop-number-preserved
loop-number-preserved c =
    numbers_more c.loop-number.script.items c.push_later_number.new.script.items
    (c.args.script.now.items ++ later_numbers (numbers_from c.args.first c.args.past))
    c.loop-number.number c.args.past c.loop-number-test.true c.in_ok-push_later_number.ensures c.loop-number.invariant
