use Rattle.flush_queues.specs.Flushing.{goes_on}
use Rattle.flush_queues.proofs.PrintingLemmas.{on_ok}
use Rattle.flush_queues.proofs.flushing.flush_flow.Goals as goal

pub returns-in-None : goal.returns-in-None
returns-in-None c =
    on_ok _ _ c.serve_in_order.result (goes_on c.args.flow.now c.serve_in_order.new.flow c.in-None.is) c.serve_in_order.ensures
