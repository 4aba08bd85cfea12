use Rattle.std.proofs.Common.{List, ◌∷◌}
use Rattle.flush_queues.specs.Flushing.{Serves}
use Rattle.flush_queues.specs.Frames.{tables_of}
use Rattle.flush_queues.specs.declared.flow.Flow.{Flow}
use Rattle.flush_queues.specs.declared.queues.Queue.{Queue}
use Rattle.flush_queues.proofs.flushing.serve_queue.Given as goal

abbrev pub invariant-units : goal.invariant-units
invariant-units l =
    (later : List Queue) (end : Flow) → Serves (tables_of l.page) l.budget (l.queue ∷ later) l.flow end
    → Serves (tables_of l.page) l.budget (l.queue ∷ later) l.fn.flow end
