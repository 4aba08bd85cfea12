use Rattle.std.proofs.Common.{subst, sym}
use Rattle.flush_queues.specs.Flushing.{Unit, reveals, sends_complete}
use Rattle.flush_queues.specs.Frames.{tables_of}
use Rattle.flush_queues.specs.Queues.{ready_of}
use Rattle.flush_queues.specs.declared.queues.Queue.TheVariants.{Completed}
use Rattle.flush_queues.proofs.PrintingLemmas.{on_ok}
use Rattle.flush_queues.proofs.UnitLemmas.{first-none, first-some}
use Rattle.flush_queues.proofs.sending.serve_complete.Goals as goal

pub returns-in-Some : goal.returns-in-Some
returns-in-Some c =
    let ready = ready_of c.args.flow.now.queues c.args.boundary in
    let found = first-some ready c.in-Some.segment (sym c.in-Some.ensures) in
    on_ok _ _ c.send.result
    (λ sent others first. sends_complete c.args.boundary c.in-Some.segment others found.0 c.args.flow.now c.send.new.flow
    first found.1 sent)
    c.send.ensures

pub returns-in-None : goal.returns-in-None
returns-in-None c =
    let ready = ready_of c.args.flow.now.queues c.args.boundary in
    on_ok _ _ c.reveal.result
    (λ is others first. subst (λ f. Unit (tables_of c.args.page) Completed c.args.flow.now f) (sym is)
    (reveals c.args.boundary others c.args.flow.now first (first-none ready (sym c.in-None.ensures))))
    c.reveal.ensures
