use Rattle.page_generator.proofs.LeavesLemmas.{picks_few}
use Rattle.page_generator.proofs.page.script_bytes.Goals as goal

pub push_leaf_lines-requires : goal.push_leaf_lines-requires
push_leaf_lines-requires c =
    picks_few c.deref.result.now c.in_ok-picks.picks.items c.push_groups_line.new.draws c.args.size
    c.deref.ensures.value c.in_ok-picks.ensures c.requires.few
