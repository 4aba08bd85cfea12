use Rattle.std.proofs.Common.{length}
use Rattle.flush_queues.proofs.flushing.+serve_queues.Given as goal

abbrev pub decreases-serve_queues : goal.decreases-serve_queues
decreases-serve_queues l = length l.queues.now
