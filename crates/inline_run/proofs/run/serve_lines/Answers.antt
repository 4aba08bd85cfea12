use Rattle.std.proofs.Common.{◌+◌, ◌++◌, ◌∷◌, [], map, take, drop, refl, subst, sym, ◌∙◌, ap}
use Rattle.std.proofs.lemmas.Result.{err_from_is_err_and}
use Rattle.fizz_piece.specs.declared.plan.Plan.{Plan}
use Rattle.request_state.specs.Core.{Core, core_of}
use Rattle.inline_run.specs.Steps.{Step, line}
use Rattle.inline_run.proofs.RunLemmas.{ends_of_line, lines_more, none_taken, steps_of_line}
use Rattle.inline_run.proofs.run.serve_lines.Goals as goal

pub lines-init : goal.lines-init
lines-init g c = record {
  stepped = none_taken c.args.state.now.plan (core_of c.args.state.now) _ _ c.requires.sound c.requires.works;
  plan = refl;
}

pub lines-preserved : goal.lines-preserved
lines-preserved g c = record {
  stepped = steps_of_line c.args.state.now.plan c.lines.state.plan c.lines.invariant.plan c.args.lines.now c.lines.line-index
      c.line-item.result _ _ _ _ _ _ _ _ _ c.lines-test.true (sym c.line-item.is) c.lines.invariant.stepped
      c.in_ok-serve.ensures.stepped;
  plan = c.in_ok-serve.ensures.plan ∙ c.lines.invariant.plan;
}

pub returns-in_err-serve-clause-ended : goal.returns-in_err-serve-clause-ended
returns-in_err-serve-clause-ended g c =
    let p = err_from_is_err_and c.from_residual.result c.from_residual.ensures.1 in
    ends_of_line c.args.state.now.plan c.lines.state.plan c.lines.invariant.plan c.args.lines.now c.lines.line-index
    c.line-item.result _ _ _ _ _ _ _ _ _ c.from_residual.result p.0 p.1 p.2 c.lines-test.true (sym c.line-item.is)
    c.lines.invariant.stepped c.in_err-serve.ensures.ended
