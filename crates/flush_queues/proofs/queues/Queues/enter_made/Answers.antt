use Rattle.std.proofs.Common.{arith, subst, sym}
use Rattle.id_lists.specs.Calls.{CanPush}
use Rattle.flush_queues.specs.declared.queues.Queues.{Queues}
use Rattle.flush_queues.proofs.QueuesLemmas.{CanPush-without}
use Rattle.flush_queues.proofs.queues.Queues.enter_made.Goals as goal

pub push-requires : goal.push-requires
push-requires c =
    subst (λ (q : Queues). CanPush c.number.result c.args.boundary q.boundaries) (sym c.leave.ensures)
    (CanPush-without c.args.self.now.boundaries c.number.result c.args.boundary
    (omega (arith, c.number.ensures.few, c.requires.queues)) c.requires.made)
