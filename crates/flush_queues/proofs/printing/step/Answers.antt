use Rattle.std.proofs.Common.{subst}
use Rattle.flush_queues.specs.Frames.{RunsKid, tables_of}
use Rattle.flush_queues.proofs.PrintingLemmas.{frame_ends, frame_goes_on, on_ok}
use Rattle.flush_queues.proofs.printing.step.Goals as goal

pub returns-in_default : goal.returns-in_default
returns-in_default c =
    on_ok _ _ c.close.result
    (λ is. frame_ends (tables_of c.args.page) c.args.frame c.args.stack.now.items c.args.flow.now
    c.bytes_of-bytes.result.now c.bytes_of-bytes.ensures c.onward.result.now c.write.new.flow c.close.new.flow
    c.in_default.is c.onward.ensures c.in_ok-write.ensures is)
    c.close.ensures

pub returns : goal.returns
returns c =
    on_ok _ _ c.start_kid.result
    (λ runs end later. frame_goes_on (tables_of c.args.page) c.args.frame c.args.stack.now.items c.args.flow.now
    c.bytes_of-bytes.result.now c.bytes_of-bytes.ensures c.in-Some.kid c.place-to.result c.next_kid-kid_after.result
    c.between.result.now c.write-2.new.flow c.in-Some.is c.place-to.ensures c.between.ensures c.in_ok-write-2.ensures
    c.next_kid-kid_after.ensures.kids c.next_kid-kid_after.ensures.is_kid end
    (subst (λ items. RunsKid (tables_of c.args.page) c.in-Some.kid items c.write-2.new.flow end)
    c.in_ok-push.ensures.items (runs end later)))
    c.start_kid.ensures
