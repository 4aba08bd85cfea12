use Rattle.std.proofs.Common.{[]}
use Rattle.flush_queues.specs.Frames.{Runs, RunsSegment, tables_of}
use Rattle.flush_queues.specs.declared.flow.Flow.{Flow}
use Rattle.flush_queues.specs.declared.frame.Closing.TheVariants.{Nothing}
use Rattle.flush_queues.proofs.printing.print_segment.Given as goal

abbrev pub invariant-frames : goal.invariant-frames
invariant-frames l =
    (end : Flow) → Runs (tables_of l.page) l.stack.items l.flow end → RunsSegment (tables_of l.page) l.fn.id Nothing [] l.fn.flow end
