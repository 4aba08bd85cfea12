use Rattle.flush_queues.specs.Frames.{tables_of}
use Rattle.flush_queues.proofs.PrintingLemmas.{on_ok}
use Rattle.flush_queues.proofs.UnitLemmas.{client_unit}
use Rattle.flush_queues.proofs.sending.serve_boundary.Goals as goal

pub returns-in-ClientRendered : goal.returns-in-ClientRendered
returns-in-ClientRendered c =
    on_ok _ _ c.refuse.result
    (client_unit (tables_of c.args.page) c.args.queue c.args.boundary c.args.flow.now c.refuse.new.flow c.in-ClientRendered.is)
    c.refuse.ensures
