-- A settlement.
use Rattle.std.specs.Prelude.{◌≡◌, ℕ, ◌+◌, List, Some}
use Rattle.settle_script.specs.declared.value.Entry.{Entry}
use Rattle.settle_script.specs.declared.outcome.Outcome.{Outcome}
use Rattle.settle_script.specs.Settlements.{name_at}
use Rattle.fizz_task.specs.Calls.{settled}
use Rattle.request_state.specs.Core.{Core}

-- The tasks that wait for this resource become runnable.
abbrev pub with_settled : List ℕ → Core → Core
with_settled name core = record core { settled = core.settled + 1; tasks = settled name core.tasks }

-- The next of these outcomes is settled.
pub record Settles (outcomes : List (Entry Outcome)) (old new : Core) : Type 0 where
  pub name : List ℕ
  pub next : name_at outcomes old.settled ≡ Some name
  pub settled : new ≡ with_settled name old
