-- A flush of the state.
use Rattle.std.specs.Prelude.{◌≡◌, ℕ, zero, suc, ◌==◌, if◌then◌else◌, List, [], ◌∷◌, ◌++◌, length, Option, Some, None}
use Rattle.fizz_piece.specs.declared.plan.Plan.{Plan}
use Rattle.flush_queues.specs.Flushed.{IsFlushed}
use Rattle.fizz_task.specs.Board.{count_of, is_claimed, is_runnable, is_waiting}
use Rattle.flush_queues.specs.Queues.{HasNothingQueued}
use Rattle.request_state.specs.declared.state.Fate.{Fate}
use Rattle.request_state.specs.declared.state.Fate.TheVariants.{Running, Ended, ShellFailed}
use Rattle.request_state.specs.Core.{Core}

-- a mark is made where something was appended
abbrev pub marks_with : List ℕ → (from to : ℕ) → List ℕ
marks_with marks from to = if from == to then marks else marks ++ to ∷ []

-- One flush was appended to the transcript.
pub record AppendsFlush (plan : Plan) (budget : ℕ) (old new : Core) : Type 0 where
  pub flushed : IsFlushed plan.options.now.prefix plan.options.now.progressive budget old.segments new.segments
      old.boundaries new.boundaries old.queues new.queues old.transcript new.transcript
  pub changed : new ≡ record old {
    segments = new.segments;
    boundaries = new.boundaries;
    queues = new.queues;
    transcript = new.transcript;
    marks = marks_with old.marks (length old.transcript) (length new.transcript);
  }

abbrev pub FlushesUnless : ℕ → Option (List ℕ) → Plan → ℕ → Core → Core → Type 0
FlushesUnless zero None plan budget old new = AppendsFlush plan budget old new
FlushesUnless zero (Some digest) plan budget old new = new ≡ old
FlushesUnless (suc tasks) failure plan budget old new = new ≡ old

-- While the shell has a task, and after it has failed, a flush appends nothing.
abbrev pub FlushesState : Plan → ℕ → Core → Core → Type 0
FlushesState plan budget old new = FlushesUnless old.shell_tasks old.failure plan budget old new

-- The shell is sent, no task is left, and nothing waits to be sent.
pub record HasEnded (core : Core) : Type 0 where
  pub runnable : count_of is_runnable core.tasks.states ≡ 0
  pub claimed : count_of is_claimed core.tasks.states ≡ 0
  pub waiting : count_of is_waiting core.tasks.states ≡ 0
  pub shell : core.queues.shell ≡ None
  pub queued : HasNothingQueued core.queues

abbrev pub HasFate : Option (List ℕ) → Core → Fate → Type 0
HasFate None core Running = ¬ HasEnded core
HasFate None core Ended = HasEnded core
HasFate None core (ShellFailed digest) = ⊥
HasFate (Some failure) core Running = ⊥
HasFate (Some failure) core Ended = ⊥
HasFate (Some failure) core (ShellFailed digest) = digest.now ≡ failure

-- how far a page is
abbrev pub IsFate : Core → Fate → Type 0
IsFate core = HasFate core.failure core
