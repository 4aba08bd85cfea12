use Rattle.std.proofs.Common.{ap}
use Rattle.flush_queues.specs.Frames.{tables_of}
use Rattle.flush_queues.proofs.PrintingLemmas.{kid_of_child, kid_of_failed, kid_of_inline, kid_of_late, on_ok}
use Rattle.flush_queues.proofs.printing.start_kid.Goals as goal

pub returns-in_default : goal.returns-in_default
returns-in_default c =
    on_ok _ _ c.start.result
    (λ runs end later. kid_of_child (tables_of c.args.page) c.args.kid c.args.stack.now.items c.args.flow.now
    c.in_default.ensures end (runs end later))
    c.start.ensures

pub returns-in_ok-write_failed-in-Failed : goal.returns-in_ok-write_failed-in-Failed
returns-in_ok-write_failed-in-Failed c =
    on_ok _ _ c.start-in-Failed.result
    (λ runs end later. kid_of_failed (tables_of c.args.page) c.args.kid c.args.stack.now.items c.args.flow.now
    c.in-Some.boundary c.in-Failed.digest.now (record c.args.flow.now { out = c.write_failed.new.self })
    c.in-Some.ensures c.in-Failed.ensures
    (ap (λ o. record c.args.flow.now { out = o }) c.in_ok-write_failed-in-Failed.ensures) end (runs end later))
    c.start-in-Failed.ensures

pub returns-in_ok-begin_inline-in-Inline : goal.returns-in_ok-begin_inline-in-Inline
returns-in_ok-begin_inline-in-Inline c =
    on_ok _ _ c.start-in-Inline.result
    (λ runs end later. kid_of_inline (tables_of c.args.page) c.args.kid c.args.stack.now.items c.args.flow.now
    c.in-Some.boundary c.root.result c.begin_inline.new.flow c.in-Some.ensures c.in-Inline.ensures
    c.root.ensures c.in_ok-begin_inline-in-Inline.ensures end (runs end later))
    c.start-in-Inline.ensures

pub returns-in_ok-begin_late-in-Late : goal.returns-in_ok-begin_late-in-Late
returns-in_ok-begin_late-in-Late c =
    on_ok _ _ c.start-in-Late.result
    (λ runs end later. kid_of_late (tables_of c.args.page) c.args.kid c.args.stack.now.items c.args.flow.now
    c.in-Some.boundary c.begin_late.new.flow c.in-Some.ensures c.in-Late.ensures
    c.in_ok-begin_late-in-Late.ensures end (runs end later))
    c.start-in-Late.ensures
