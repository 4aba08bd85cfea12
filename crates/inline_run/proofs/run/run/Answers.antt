use Rattle.std.proofs.Common.{◌++◌, map, subst, sym, refl}
use Rattle.std.proofs.lemmas.List.{append-nil}
use Rattle.std.proofs.lemmas.Result.{err_from_is_err_and}
use Rattle.fizz_piece.specs.declared.plan.Plan.{Plan}
use Rattle.request_state.specs.Core.{Core, core_of}
use Rattle.inline_run.specs.Steps.{line}
use Rattle.inline_run.proofs.RunLemmas.{ends_at_finish, ends_at_lines, failed_before, fault_of, if_err_map, on_ok_map, run_over}
use Rattle.inline_run.proofs.run.run.Goals as goal

pub returns-in_err-go_on-clause-ended : goal.returns-in_err-go_on-clause-ended
returns-in_err-go_on-clause-ended g c =
    let p = err_from_is_err_and c.from_residual.result c.from_residual.ensures.1 in
    fault_of _ c.from_residual.result p.0 _ p.1 p.2
    (failed_before c.args.state.now.plan c.args.lines.now (core_of c.args.state.now) _ _ _ _ _ c.in_err-go_on.ensures.ended)

pub returns-in_err-serve_lines-clause-ended : goal.returns-in_err-serve_lines-clause-ended
returns-in_err-serve_lines-clause-ended g c =
    let p = err_from_is_err_and c.from_residual-in_err-serve_lines.result c.from_residual-in_err-serve_lines.ensures.1 in
    fault_of _ c.from_residual-in_err-serve_lines.result p.0 _ p.1 p.2
    (ends_at_lines c.args.state.now.plan c.args.lines.now (core_of c.args.state.now) _ _ _ _ _ _ _ c.requires.unsent
    c.in_ok-go_on.ensures.sent c.in_ok-go_on.ensures.later c.in_err-serve_lines.ensures.ended)

pub returns-clause-runs : goal.returns-clause-runs
returns-clause-runs g c =
    on_ok_map c.finish.result _ _ c.finish.ensures.finished
    (run_over c.args.state.now.plan c.serve_lines.new.state.plan c.serve_lines.ensures.plan c.args.lines.now
    (core_of c.args.state.now) (core_of c.serve_lines.new.state) (core_of c.finish.new.state) _ _ _ _ _ _
    c.in_ok-serve_lines.ensures.stepped)

pub returns-clause-ended : goal.returns-clause-ended
returns-clause-ended g c =
    if_err_map c.finish.result _ _ c.finish.ensures.ended
    (λ fault. ends_at_finish c.args.state.now.plan c.serve_lines.new.state.plan c.serve_lines.ensures.plan c.args.lines.now
    (core_of c.args.state.now) (core_of c.serve_lines.new.state) _ _ _ _ _ _ _ _ fault c.requires.unsent
    c.in_ok-go_on.ensures.sent c.in_ok-go_on.ensures.later c.in_ok-serve_lines.ensures.stepped)
