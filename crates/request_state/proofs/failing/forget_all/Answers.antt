use Rattle.std.proofs.Common.{subst, sym, refl, ap, ◌<◌, ◌≡◌, ◌∙◌, length}
use Rattle.id_lists.specs.Lists.{Lists, list_at}
use Rattle.id_lists.specs.Calls.{without}
use Rattle.flush_queues.proofs.QueuesLemmas.{emptied-without, shorter-without}
use Rattle.request_state.specs.Failing.{all_forgotten}
use Rattle.request_state.proofs.FailingLemmas.{all_forgotten-first}
use Rattle.request_state.proofs.failing.forget_all.Goals as goal

pub segments-smaller : goal.segments-smaller
segments-smaller c =
    subst (λ (n : Lists). length (list_at n.lists c.args.list) < length (list_at c.segments.own.lists c.args.list))
    (sym c.remove.ensures.removed)
    (shorter-without c.in-Some.segment c.args.list c.segments.own.lists (sym c.in-Some.ensures))

pub segments-preserved : goal.segments-preserved
segments-preserved c = (
  c.remove.ensures.lists,
  refl,
  subst (λ (n : Lists). all_forgotten (list_at n.lists c.args.list) c.forget_unless_printed.new.segments
      ≡ all_forgotten (list_at c.args.own.now.lists c.args.list) c.args.segments.now) (sym c.remove.ensures.removed)
      (ap (all_forgotten (list_at (without c.in-Some.segment c.segments.own.lists) c.args.list)) c.forget_unless_printed.ensures
      ∙ all_forgotten-first c.segments.own c.args.list c.in-Some.segment c.segments.segments c.segments.invariant.0
      (sym c.in-Some.ensures)
      ∙ c.segments.invariant.2),
  emptied-without c.segments.own c.remove.new.self c.in-Some.segment c.args.list c.segments.invariant.0
      (sym c.in-Some.ensures) c.remove.ensures.removed
      ∙ c.segments.invariant.3,
)
