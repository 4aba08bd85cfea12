use Rattle.request_state.specs.Core.{core_of}
use Rattle.state_tests.proofs.DrivenLemmas.{comes_back}
use Rattle.state_tests.proofs.calls.give_back.Goals as goal

pub returns-clause-works : goal.returns-clause-works
returns-clause-works c =
    let plan = c.args.state.now.plan in
    let old = core_of c.args.state.now in
    comes_back plan old (core_of c.give_back.new.self) c.args.work c.give_back.result c.requires.works
    (c.laws_of_standing_works.ensures.returned plan old c.args.work c.requires.works c.requires.good)
    c.give_back.ensures.ok c.give_back.ensures.kept
