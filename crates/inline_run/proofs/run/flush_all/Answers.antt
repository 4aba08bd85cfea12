use Rattle.std.proofs.Common.{rules, ◌+◌, refl, ◌∙◌}
use Rattle.std.proofs.lemmas.Result.{err_from_is_err_and}
use Rattle.request_state.specs.Core.{core_of}
use Rattle.inline_run.proofs.RunLemmas.{ends_of_flush, none_taken, steps_of_flush, too_many}
use Rattle.inline_run.proofs.run.flush_all.Goals as goal

pub flushes-init : goal.flushes-init
flushes-init g c = record {
  stepped = none_taken c.args.state.now.plan (core_of c.args.state.now) _ _ c.requires.sound c.requires.works;
  plan = refl;
}

pub flushes-preserved : goal.flushes-preserved
flushes-preserved g c = record {
  stepped = steps_of_flush c.args.state.now.plan c.flushes.state.plan c.flushes.invariant.plan c.flushes.done
      _ _ _ _ _ _ _ _ _ c.flushes.invariant.stepped c.in_ok-flush.ensures.stepped;
  plan = c.in_ok-flush.ensures.plan ∙ c.flushes.invariant.plan;
}

pub returns-in_err-flush-clause-ended : goal.returns-in_err-flush-clause-ended
returns-in_err-flush-clause-ended g c =
    let p = err_from_is_err_and c.from_residual.result c.from_residual.ensures.1 in
    ends_of_flush c.args.state.now.plan c.flushes.state.plan c.flushes.invariant.plan c.flushes.done _ _ _ _ _ _ _ _ _
    c.from_residual.result p.0 p.1 p.2 c.flushes.invariant.stepped c.in_err-flush.ensures.ended

pub returns-then-not-branch-clause-flushed : goal.returns-then-not-branch-clause-flushed
returns-then-not-branch-clause-flushed g c = record {
  flushes = c.flushes.done + 1;
  stepped = steps_of_flush c.args.state.now.plan c.flushes.state.plan c.flushes.invariant.plan c.flushes.done
      _ _ _ _ _ _ _ _ _ c.flushes.invariant.stepped c.in_ok-flush.ensures.stepped;
  nothing_left = search rules;
}

pub returns-clause-ended : goal.returns-clause-ended
returns-clause-ended g c = too_many c.args.state.now.plan c.flushes.done _ _ _ _ _ _ c.flushes.invariant.stepped
