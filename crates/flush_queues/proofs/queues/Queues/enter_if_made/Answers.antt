use Rattle.std.proofs.Common.{◌≡◌, subst, sym}
use Rattle.id_lists.specs.Lists.{times_in_all}
use Rattle.flush_queues.specs.declared.queues.Queues.{Queues}
use Rattle.flush_queues.proofs.QueuesLemmas.{times_in_all-without}
use Rattle.flush_queues.proofs.queues.Queues.enter_if_made.Goals as goal

pub append-requires-clause-free : goal.append-requires-clause-free
append-requires-clause-free c =
    subst (λ (q : Queues). times_in_all c.args.boundary q.boundaries.lists ≡ 0) (sym c.leave.ensures)
    (times_in_all-without c.args.boundary c.args.self.now.boundaries.lists)
