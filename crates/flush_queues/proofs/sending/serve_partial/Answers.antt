use Rattle.std.proofs.Common.{subst, sym}
use Rattle.flush_queues.specs.Flushing.{Unit, leaves, sends_partial}
use Rattle.flush_queues.specs.Frames.{tables_of}
use Rattle.flush_queues.specs.Queues.{ready_of}
use Rattle.flush_queues.specs.declared.queues.Queue.TheVariants.{Partial}
use Rattle.flush_queues.proofs.UnitLemmas.{first-none, first-some}
use Rattle.flush_queues.proofs.sending.serve_partial.Goals as goal

pub returns-in_ok-send-in-Some : goal.returns-in_ok-send-in-Some
returns-in_ok-send-in-Some c others first =
    let ready = ready_of c.args.flow.now.queues c.args.boundary in
    let found = first-some ready c.in-Some.segment (sym c.in-Some.ensures) in
    subst (λ q. Unit (tables_of c.args.page) Partial c.args.flow.now (record c.send.new.flow { queues = q }))
    (sym c.leave_if_none.ensures)
    (sends_partial c.args.boundary c.in-Some.segment others found.0 c.args.flow.now c.send.new.flow
    first found.1 c.in_ok-send-in-Some.ensures)

pub returns-in-None : goal.returns-in-None
returns-in-None c others first =
    let ready = ready_of c.args.flow.now.queues c.args.boundary in
    subst (λ q. Unit (tables_of c.args.page) Partial c.args.flow.now (record c.args.flow.now { queues = q }))
    (sym c.leave.ensures)
    (leaves c.args.boundary others c.args.flow.now first (first-none ready (sym c.in-None.ensures)))
