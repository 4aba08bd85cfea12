use Rattle.page_generator.specs.Pages.{picks_from}
use Rattle.page_generator.proofs.LeavesLemmas.{picks_more}
use Rattle.page_generator.proofs.leaves.picks_of.Goals as goal

pub loop-leaf-preserved : goal.loop-leaf-preserved
loop-leaf-preserved c =
    picks_more c.loop-leaf.picks.items c.push.new.self.items (picks_from c.args.draws.now c.args.count)
    c.loop-leaf.draws c.next.new.self c.next.result c.loop-leaf._leaf c.args.count
    c.loop-leaf-test.true c.in_ok-push.ensures.items c.next.ensures.value c.next.ensures.state c.loop-leaf.invariant
