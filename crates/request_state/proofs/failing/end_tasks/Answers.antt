use Rattle.std.proofs.Common.{◌≡◌, suc, ◌+◌, ◌-◌, refl, sym, ap, subst, ◌∙◌, arith}
use Rattle.fizz_task.specs.Board.{Board}
use Rattle.request_state.specs.declared.job.Job.{Job}
use Rattle.request_state.specs.Failing.{all_tasks_dropped, each_dropped}
use Rattle.request_state.proofs.failing.end_tasks.Goals as goal

pub boundaries-preserved : goal.boundaries-preserved
boundaries-preserved c =
    let more : c.args.boundaries - c.boundaries.boundary ≡ suc (c.args.boundaries - (c.boundaries.boundary + 1)) =
    omega (arith, c.boundaries-test.true) in (
      refl,
      subst (λ (b : Board Job). each_dropped (c.args.boundaries - (c.boundaries.boundary + 1)) (c.boundaries.boundary + 1) b
          ≡ all_tasks_dropped c.args.boundaries c.args.tasks.now) (sym c.drop_owned-in-boundaries.ensures)
          (sym (ap (λ n. each_dropped n c.boundaries.boundary c.boundaries.tasks) more) ∙ c.boundaries.invariant.1),
    )
