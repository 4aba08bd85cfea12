use Rattle.request_state.specs.Core.{core_of}
use Rattle.state_tests.proofs.DrivenLemmas.{offered}
use Rattle.state_tests.proofs.calls.commit.Goals as goal

pub returns-clause-works : goal.returns-clause-works
returns-clause-works c =
    let old = c.args.state.now in
    let new = c.offer.new.state in
    let piece = c.in_ok-piece.piece in
    offered c.plan-plan.result old new c.args.work piece c.offer.result c.plan-plan.ensures c.requires.works
    c.requires.good c.in_ok-piece.ensures
    (c.laws_of_standing_works.ensures.committed old.plan (core_of old) (core_of new) c.args.work piece)
    c.offer.ensures.taken
