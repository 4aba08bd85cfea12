use Rattle.std.proofs.Common.{filter}
use Rattle.std.specs.List.{enumerate_from}
use Rattle.page_generator.specs.Pages.{is_lined}
use Rattle.page_generator.proofs.LeavesLemmas.{both_halves}
use Rattle.page_generator.proofs.leaves.push_leaf_lines.Goals as goal

pub returns : goal.returns
returns c =
    both_halves c.args.script.now.items c.push_half.new.script.items c.push_half-2.new.script.items
    (filter (is_lined 1) (enumerate_from 0 c.args.picks.now)) (filter (is_lined 0) (enumerate_from 0 c.args.picks.now))
    c.in_ok-count.count c.in_ok-push_half.field-0 c.in_ok-count.ensures.script c.in_ok-push_half.ensures.script
