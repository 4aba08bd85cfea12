use Rattle.std.proofs.Common.{◌≡◌, [], subst, sym, refl, arith}
use Rattle.std.proofs.lemmas.List.{nil_from_length}
use Rattle.flush_queues.specs.Frames.{Runs, tables_of}
use Rattle.flush_queues.proofs.PrintingLemmas.{Runs-with, printed_whole}
use Rattle.flush_queues.proofs.printing.print_segment.Goals as goal

pub returns-in-None : goal.returns-in-None
returns-in-None c =
    let t = tables_of c.args.page in
    let empty : c.frames.stack.items ≡ [] =
    nil_from_length c.frames.stack.items (omega (arith, c.in-None.ensures.cases.0, c.frames.stack.ok.0)) in
    printed_whole t c.args.id c.args.flow.now c.frames.flow
    (c.frames.invariant c.frames.flow
    (subst (λ items. Runs t items c.frames.flow c.frames.flow) (sym empty) refl))

pub frames-preserved : goal.frames-preserved
frames-preserved c end runs =
    let t = tables_of c.args.page in
    c.frames.invariant end
    (subst (λ items. Runs t items c.frames.flow end) (sym c.in-Some.ensures.items)
    (Runs-with t c.pop.new.self.items c.in-Some.frame c.frames.flow end (c.in_ok-step-in-Some.ensures end runs)))
