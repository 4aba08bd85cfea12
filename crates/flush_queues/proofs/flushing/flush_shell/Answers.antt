use Rattle.flush_queues.specs.Flushing.{begins, stops_at_shell}
use Rattle.flush_queues.proofs.PrintingLemmas.{on_ok}
use Rattle.flush_queues.proofs.UnitLemmas.{not_true}
use Rattle.flush_queues.proofs.flushing.flush_shell.Goals as goal

pub returns-then-is_enough : goal.returns-then-is_enough
returns-then-is_enough c shell_is =
    stops_at_shell c.args.shell c.args.flow.now c.print_segment.new.flow shell_is c.in_ok-print_segment.ensures
    (c.is_enough.ensures.0 c.if-is_enough.true)

pub returns : goal.returns
returns c =
    on_ok _ _ c.serve_in_order.result
    (λ later shell_is. begins c.args.shell c.args.flow.now c.print_segment.new.flow c.serve_in_order.new.flow shell_is
    c.in_ok-print_segment.ensures
    (λ enough. not_true c.is_enough.result c.if-is_enough.false (c.is_enough.ensures.1 enough)) later)
    c.serve_in_order.ensures
