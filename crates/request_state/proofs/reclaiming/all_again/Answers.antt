use Rattle.std.proofs.Common.{◌≡◌, ◌+◌, ◌∷◌, length, sym, ap, ◌∙◌, arith}
use Rattle.request_state.specs.Reclaiming.{all_again}
use Rattle.request_state.proofs.reclaiming.all_again.Goals as goal

pub jobs-preserved : goal.jobs-preserved
jobs-preserved c =
    let steps : c.jobs.job-iterator.rest.items ≡ c.in-Some.job ∷ c.next.new.self.rest.items = c.in-Some.ensures.steps.0 in (
      omega (arith, c.jobs.invariant.0, ap length steps),
      ap (all_again (c.jobs.task + 1) c.next.new.self.rest.items) c.again.ensures
          ∙ ap (λ later. all_again c.jobs.task later c.jobs.tasks) (sym steps) ∙ c.jobs.invariant.1,
    )
