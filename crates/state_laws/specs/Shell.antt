-- Pages whose shell has tasks, or has failed.
use Rattle.std.specs.Prelude.{◌≡◌, ℕ, ◌<◌, List, [], Some}
use Rattle.request_state.specs.Core.{Core}
use Rattle.state_laws.specs.Counts.{TasksCounted}
use Rattle.state_laws.specs.Tasks.{IsLeft}

-- No byte was sent, so no flush is marked.
pub record HasSentNothing (core : Core) : Type 0 where
  pub transcript : core.transcript ≡ []
  pub marks : core.marks ≡ []

-- While the shell has a task nothing is sent. Where it has failed nothing was sent, and no task is left.
pub record ShellHolds (core : Core) : Type 0 where
  pub counted : TasksCounted core
  pub working : 0 < core.shell_tasks → HasSentNothing core
  pub failed : (digest : List ℕ) → core.failure ≡ Some digest
      → HasSentNothing core × ((task : ℕ) → IsLeft core task → ⊥)
