use Rattle.std.proofs.Common.{subst}
use Rattle.std.proofs.lemmas.Result.{err_from_is_err_and}
use Rattle.request_state.specs.Core.{Core, core_of}
use Rattle.inline_run.specs.Runs.{EndsEarly, Runs}
use Rattle.inline_run.proofs.RunLemmas.{fault_of, if_err_map, if_ok_map, unreported}
use Rattle.inline_run.proofs.run.drive_inline.Goals as goal

pub returns-in_err-run-clause-ended : goal.returns-in_err-run-clause-ended
returns-in_err-run-clause-ended g c =
    let p = err_from_is_err_and c.from_residual.result c.from_residual.ensures.1 in
    fault_of _ c.from_residual.result p.0 _ p.1 p.2 (rw c.events.ensures at c.in_err-run.ensures.ended)

pub returns-clause-done : goal.returns-clause-done
returns-clause-done g c =
    if_ok_map c.report_of.result _ _ c.report_of.ensures.told (λ report told. record {
      end = core_of c.run.new.state;
      runs = rw c.events.ensures at c.in_ok-run.ensures.runs;
      sent = c.in_ok-run.ensures.sent;
      written = told.written;
      marks = told.marks;
    })

pub returns-clause-ended : goal.returns-clause-ended
returns-clause-ended g c =
    if_err_map c.report_of.result _ _ c.report_of.ensures.memory (λ fault is. unreported c.args.state.now.plan c.args.script.now
    (core_of c.args.state.now) (core_of c.run.new.state) _ _ _ _ fault is (rw c.events.ensures at c.in_ok-run.ensures.runs)
    c.in_ok-run.ensures.sent)
