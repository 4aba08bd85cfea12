use Rattle.std.proofs.Common.{sym, subst, ◌∷◌}
use Rattle.flush_queues.specs.Flushing.{Serves, serves, stops, turns}
use Rattle.flush_queues.specs.Frames.{tables_of}
use Rattle.flush_queues.specs.Queues.{queue_of}
use Rattle.flush_queues.proofs.UnitLemmas.{first-none, first-some, not_true}
use Rattle.flush_queues.proofs.flushing.serve_queue.Goals as goal

pub returns-in_default : goal.returns-in_default
returns-in_default c later end more =
    c.units.invariant later end
    (turns c.args.queue later c.units.flow end (first-none (queue_of c.units.flow.queues c.args.queue) (sym c.in_default.ensures)) more)

pub returns-then-is_enough : goal.returns-then-is_enough
returns-then-is_enough c later end is =
    let found = first-some (queue_of c.units.flow.queues c.args.queue) c.in-Some.boundary (sym c.in-Some.ensures) in
    c.units.invariant later end
    (subst (λ f. Serves (tables_of c.args.page) c.args.budget (c.args.queue ∷ later) c.units.flow f) is
    (stops c.args.queue later c.units.flow c.serve_boundary.new.flow
    (c.in_ok-serve_boundary.ensures found.0 found.1) (c.is_enough.ensures.0 c.if-is_enough.true)))

pub units-preserved : goal.units-preserved
units-preserved c later end more =
    let found = first-some (queue_of c.units.flow.queues c.args.queue) c.in-Some.boundary (sym c.in-Some.ensures) in
    c.units.invariant later end
    (serves c.args.queue later c.units.flow c.serve_boundary.new.flow end
    (c.in_ok-serve_boundary.ensures found.0 found.1)
    (λ enough. not_true c.is_enough.result c.if-is_enough.false (c.is_enough.ensures.1 enough)) more)
