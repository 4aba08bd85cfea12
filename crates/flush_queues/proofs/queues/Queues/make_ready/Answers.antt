use Rattle.std.proofs.Common.{subst, sym}
use Rattle.id_lists.specs.Calls.{CanPush}
use Rattle.flush_queues.specs.declared.queues.Queues.{Queues}
use Rattle.flush_queues.proofs.QueuesLemmas.{CanPush-without}
use Rattle.flush_queues.proofs.queues.Queues.make_ready.Goals as goal

pub push-requires : goal.push-requires
push-requires c =
    subst (λ s. CanPush c.args.boundary s c.unready.new.self.ready) (sym c.segment.view_is)
    (subst (λ (q : Queues). CanPush c.args.boundary c.args.segment q.ready) (sym c.unready.ensures)
    (CanPush-without c.args.self.now.ready c.args.boundary c.args.segment c.requires.list_made c.requires.segment_made))
