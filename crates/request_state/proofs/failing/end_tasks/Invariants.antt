use Rattle.std.proofs.Common.{◌≡◌, ◌-◌}
use Rattle.request_state.specs.Failing.{all_tasks_dropped, each_dropped}
use Rattle.request_state.proofs.failing.end_tasks.Given as goal

abbrev pub invariant-boundaries : goal.invariant-boundaries
invariant-boundaries l =
    (l.boundaries ≡ l.fn.boundaries)
    × (each_dropped (l.boundaries - l.boundary) l.boundary l.tasks ≡ all_tasks_dropped l.fn.boundaries l.fn.tasks)
