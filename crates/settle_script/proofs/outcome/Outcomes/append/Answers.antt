use Rattle.settle_script.proofs.SettlementsLemmas.{appended_new}
use Rattle.settle_script.proofs.outcome.Outcomes.append.Goals as goal

pub push-requires-clause-new : goal.push-requires-clause-new
push-requires-clause-new c =
    appended_new c.args.self.now c.args.more.now c.loop-settlement.self c.loop-settlement.settlement-index c.settlement-item.result c.in_ok-copy.field-0
    c.requires.distinct c.loop-settlement-test.true c.loop-settlement.invariant c.settlement-item.is c.in_ok-copy.ensures
