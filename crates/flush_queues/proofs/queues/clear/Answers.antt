use Rattle.std.proofs.Common.{subst, sym, refl, ◌<◌, ◌∙◌, length}
use Rattle.id_lists.specs.Lists.{Lists, list_at}
use Rattle.flush_queues.proofs.QueuesLemmas.{emptied-empty, emptied-past, emptied-without, shorter-without}
use Rattle.flush_queues.proofs.queues.clear.Goals as goal

pub left-smaller : goal.left-smaller
left-smaller c =
    subst (λ (n : Lists). length (list_at n.lists c.args.list) < length (list_at c.left.lists.lists c.args.list))
    (sym c.remove.ensures.removed)
    (shorter-without c.in-Some.id c.args.list c.left.lists.lists (sym c.in-Some.ensures))

pub left-preserved : goal.left-preserved
left-preserved c = (
  c.remove.ensures.lists,
  refl,
  emptied-without c.left.lists c.remove.new.self c.in-Some.id c.args.list c.left.invariant.0 (sym c.in-Some.ensures)
      c.remove.ensures.removed
      ∙ c.left.invariant.2,
)
