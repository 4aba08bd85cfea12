use Rattle.state_tests.proofs.DrivenLemmas.{driven_if}
use Rattle.state_tests.proofs.driven.Driven.commit.Goals as goal

pub returns-in-Some : goal.returns-in-Some
returns-in-Some c =
    let old = c.args.self.now.state in
    driven_if old c.commit.new.state c.take.new.held.items c.commit.result c.commit.ensures.plan c.commit.ensures.works
    (c.take.ensures.held old.plan c.requires.good)
