use Rattle.std.proofs.Common.{◌∙◌}
use Rattle.request_state.specs.Core.{core_of}
use Rattle.inline_run.proofs.WorkLemmas.{on_ok, works_after}
use Rattle.inline_run.proofs.work.work_once.Goals as goal

pub returns-in-Ok-clause-works : goal.returns-in-Ok-clause-works
returns-in-Ok-clause-works c =
    let plan = c.args.state.now.plan in
    let old = core_of c.args.state.now in
    let handed = core_of c.claim.new.self in
    on_ok c.commit.result _ _ c.commit.ensures.taken
    (λ taken made. works_after plan c.plan-plan.result c.claim.new.self.plan old handed (core_of c.commit.new.state)
    c.in-Some.work c.in-Ok.piece c.plan-plan.ensures c.claim.ensures.plan
    (c.laws_of_standing_works.ensures.committed plan handed (core_of c.commit.new.state) c.in-Some.work c.in-Ok.piece)
    (c.laws_of_standing_works.ensures.claimed plan old handed c.in-Some.work c.requires c.in-Some.ensures.claimed)
    c.in-Ok.ensures.piece made.1)
