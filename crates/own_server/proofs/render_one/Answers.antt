use Rattle.request_state.specs.Core.{core_of}
use Rattle.own_server.proofs.WorkLemmas.{on_ok, works_after}
use Rattle.own_server.proofs.render_one.Goals as goal

pub returns-clause-works : goal.returns-clause-works
returns-clause-works c =
    let plan = c.args.state.now.plan in
    let old = core_of c.args.state.now in
    let handed = core_of c.claim.new.self in
    let new = core_of c.commit.new.state in
    on_ok c.commit.result c.commit.ensures.taken
    (works_after plan c.plan-plan.result c.claim.new.self.plan old handed new
    c.in-Some.work c.in-Ok.piece c.plan-plan.ensures c.claim.ensures.plan
    (c.laws_of_standing_works.ensures.committed plan handed new c.in-Some.work c.in-Ok.piece)
    (c.laws_of_standing_works.ensures.claimed plan old handed c.in-Some.work c.requires c.in-Some.ensures.claimed)
    c.in-Ok.ensures.piece)
