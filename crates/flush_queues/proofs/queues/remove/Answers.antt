use Rattle.std.proofs.Common.{arith}
use Rattle.flush_queues.proofs.QueuesLemmas.{without-unmade}
use Rattle.flush_queues.proofs.queues.remove.Goals as goal

pub returns-else-id-id_count : goal.returns-else-id-id_count
returns-else-id-id_count c =
    without-unmade c.args.lists.now c.args.id c.id_count.ensures.lists (omega (arith, c.if-id-id_count.false, c.id_count.ensures.count))
