use Rattle.std.proofs.Common.{subst, sym}
use Rattle.request_state.specs.Core.{core_of}
use Rattle.request_laws.specs.Works.{WorksStand}
use Rattle.state_tests.proofs.DrivenLemmas.{driven_on}
use Rattle.state_tests.proofs.driven.Driven.reclaim.Goals as goal

pub returns : goal.returns
returns c =
    let old = c.args.self.now.state in
    driven_on old c.reclaim.new.self c.args.self.now.held.items c.reclaim.ensures.plan
    (subst (WorksStand old.plan) (sym c.in_ok-reclaim.ensures.ok)
    (c.laws_of_standing_works.ensures.reclaimed old.plan (core_of old) c.requires.works))
    c.requires.good
