use Rattle.std.proofs.Common.{◌≡◌, arith, subst, sym}
use Rattle.id_lists.specs.Lists.{times_in_all}
use Rattle.flush_queues.specs.declared.queues.Queues.{Queues}
use Rattle.flush_queues.proofs.QueuesLemmas.{times_in_all-without}
use Rattle.flush_queues.proofs.queues.Queues.enter.Goals as goal

pub push-requires : goal.push-requires
push-requires c = record {
  list_made = omega (arith, c.if-number-list_count.false, c.list_count.ensures.count, c.number.ensures.number, c.number-2.ensures.number);
  id_made = omega (arith, c.if-boundary-id_count.false, c.id_count.ensures.count);
  free = subst (λ (q : Queues). times_in_all c.args.boundary q.boundaries.lists ≡ 0) (sym c.leave.ensures)
      (times_in_all-without c.args.boundary c.args.self.now.boundaries.lists);
}
