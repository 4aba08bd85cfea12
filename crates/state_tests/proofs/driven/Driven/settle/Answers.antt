use Rattle.request_state.specs.Core.{core_of}
use Rattle.state_tests.proofs.DrivenLemmas.{driven_on, settles_on}
use Rattle.state_tests.proofs.driven.Driven.settle.Goals as goal

pub returns : goal.returns
returns c =
    let old = c.args.self.now.state in
    let new = c.settle.new.self in
    driven_on old new c.args.self.now.held.items c.settle.ensures.plan
    (settles_on old.plan (core_of old) (core_of new) c.settle.result _ c.requires.works
    (c.laws_of_standing_works.ensures.settled old.plan (core_of old) (core_of new) c.requires.works)
    c.settle.ensures.none c.settle.ensures.settled)
    c.requires.good
