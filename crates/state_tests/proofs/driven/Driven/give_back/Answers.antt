use Rattle.state_tests.proofs.DrivenLemmas.{driven_on}
use Rattle.state_tests.proofs.driven.Driven.give_back.Goals as goal

pub returns-in-Some : goal.returns-in-Some
returns-in-Some c =
    let old = c.args.self.now.state in
    driven_on old c.give_back.new.state c.take.new.held.items c.give_back.ensures.plan c.give_back.ensures.works
    (c.take.ensures.held old.plan c.requires.good)
