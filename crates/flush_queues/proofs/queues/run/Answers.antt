use Rattle.flush_queues.specs.Flushed.{tables_with}
use Rattle.flush_queues.proofs.PrintingLemmas.{on_ok}
use Rattle.flush_queues.proofs.UnitLemmas.{Flushes-as_many}
use Rattle.flush_queues.proofs.queues.run.Goals as goal

pub returns-clause-as_many : goal.returns-clause-as_many
returns-clause-as_many c =
    on_ok _ _ c.flush_flow.result
    (Flushes-as_many (tables_with c.args.prefix.now c.args.progressive c.args.segments.now c.args.boundaries.now)
    c.args.budget c.args.flow.now c.flush_flow.new.flow)
    c.flush_flow.ensures
