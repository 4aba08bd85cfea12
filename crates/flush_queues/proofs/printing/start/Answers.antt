use Rattle.std.proofs.Common.{subst}
use Rattle.flush_queues.specs.Frames.{Runs, tables_of}
use Rattle.flush_queues.proofs.PrintingLemmas.{on_ok, segment_begun, segment_named, segment_passes}
use Rattle.flush_queues.proofs.printing.start.Goals as goal

pub returns-in-Passed : goal.returns-in-Passed
returns-in-Passed c =
    on_ok _ _ c.close.result
    (λ is. segment_passes (tables_of c.args.page) c.args.segment c.args.closing c.args.stack.now.items c.args.flow.now
    c.close.new.flow c.in-Passed.ensures.stage is)
    c.close.ensures

pub returns-in_ok-write_placeholder-in-Pending : goal.returns-in_ok-write_placeholder-in-Pending
returns-in_ok-write_placeholder-in-Pending c =
    on_ok _ _ c.close-in-Pending.result
    (λ is. segment_named (tables_of c.args.page) c.args.segment c.args.closing c.args.stack.now.items c.args.flow.now
    c.write_placeholder.new.flow c.close-in-Pending.new.flow c.in-Pending.ensures.stage
    c.in_ok-write_placeholder-in-Pending.ensures is)
    c.close-in-Pending.ensures

pub returns-in_ok-push-in-Complete : goal.returns-in_ok-push-in-Complete
returns-in_ok-push-in-Complete c end runs =
    segment_begun (tables_of c.args.page) c.args.segment c.args.closing c.args.stack.now.items c.args.flow.now
    c.begin.new.flow c.first_kid-kid.result c.in-Complete.ensures.stage c.begin.ensures
    c.first_kid-kid.ensures.kids c.first_kid-kid.ensures.is_kid end
    (subst (λ items. Runs (tables_of c.args.page) items c.begin.new.flow end) c.in_ok-push-in-Complete.ensures.items runs)
