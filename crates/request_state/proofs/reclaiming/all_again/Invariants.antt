use Rattle.std.proofs.Common.{◌≡◌, ◌+◌, length}
use Rattle.request_state.specs.Reclaiming.{all_again}
use Rattle.request_state.proofs.reclaiming.all_again.Given as goal

abbrev pub invariant-jobs : goal.invariant-jobs
invariant-jobs l =
    (l.task + length l.job-iterator.rest.items ≡ length l.fn.jobs.items)
    × (all_again l.task l.job-iterator.rest.items l.tasks ≡ all_again 0 l.fn.jobs.items l.fn.tasks)
