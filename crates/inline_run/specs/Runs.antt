-- Runs of a script on one thread, and what a sink takes of them.
use Rattle.std.specs.Prelude.{◌≡◌, ℕ, List, [], ◌∷◌, ◌++◌, length, map, replicate, take, Option, Some, None}
use Rattle.std.specs.Io.KnownBytes.{Appends}
use Rattle.settle_script.specs.declared.event.Event.{Event}
use Rattle.settle_script.specs.declared.event.Event.TheVariants.{Work, Flush}
use Rattle.fizz_outside.specs.Faults.{FaultCounted}
use Rattle.fizz_piece.specs.declared.plan.Plan.{Plan}
use Rattle.flush_queues.specs.Queues.{HasNothingQueued}
use Rattle.request_state.specs.Core.{Core, free, new_core}
use Rattle.inline_run.specs.Steps.{Step, TakesStep, close, line, reclaim}
use Rattle.inline_run.specs.declared.run.Report.{Report}
use Rattle.inline_run.specs.declared.run.RunFault.{RunFault}
use Rattle.inline_run.specs.declared.run.RunFault.TheVariants.{ShellFailed, SinkFault, OutOfMemory}

-- Steps one after another from a state on. The shell has failed before none of them.
pub data TakesSteps (plan : Plan) (start : Core) : List Step → Core → Type 0 where
  begins : TakesSteps plan start [] start
  goes_on : (steps : List Step) (step : Step) (old new : Core) → TakesSteps plan start steps old → old.failure ≡ None
      → TakesStep plan step old new → TakesSteps plan start (steps ++ step ∷ []) new

-- The steps after the lines: what is claimed is given back, all that can be is rendered, what waits fails, and so many
-- flushes send what is left.
abbrev pub last_steps : ℕ → List Step
last_steps flushes = reclaim ∷ line (Work 0) ∷ close ∷ replicate flushes (line (Flush 0))

-- the steps of a run
abbrev pub steps_of : List Event → ℕ → List Step
steps_of lines flushes = map line lines ++ last_steps flushes

-- A run is over: the shell has not failed, and nothing is left to be sent.
pub record Runs (plan : Plan) (lines : List Event) (start end : Core) : Type 0 where
  pub flushes : ℕ
  pub taken : TakesSteps plan start (steps_of lines flushes) end
  pub sound : end.failure ≡ None
  pub nothing_left : HasNothingQueued end.queues

-- A run comes to this state after one of its steps, or before the first.
pub record ComesTo (plan : Plan) (lines : List Event) (start now : Core) : Type 0 where
  pub flushes : ℕ
  pub steps : List Step
  pub later : List Step
  pub split : steps ++ later ≡ steps_of lines flushes
  pub taken : TakesSteps plan start steps now

-- A run from this state on is over, and a sink has taken what it sent.
pub record RunsInto (plan : Plan) (lines : List Event) (start : Core) (held held_after : Option (List ℕ)) (report : Report)
    : Type 0 where
  pub end : Core
  pub runs : Runs plan lines start end
  pub sent : Appends held held_after end.transcript
  pub written : report.written ≡ length end.transcript
  pub marks : report.marks ≡ length end.marks

-- Why a run ends early: the shell has failed with this digest before anything was sent, the sink counted a fault, or there
-- was no memory.
abbrev pub IsWhy : RunFault → Core → (faults faults_after : ℕ) → Type 0
IsWhy (ShellFailed digest) last faults faults_after = (last.failure ≡ Some digest) × (last.transcript ≡ [])
IsWhy SinkFault last faults faults_after = FaultCounted faults faults_after
IsWhy OutOfMemory last faults faults_after = Unit {0}

-- A run from this state on ended early, and a sink has taken a part of what it sent.
pub record EndsEarly (plan : Plan) (lines : List Event) (start : Core) (held held_after : Option (List ℕ))
    (faults faults_after : ℕ) (fault : RunFault) : Type 0 where
  pub last : Core
  pub comes : ComesTo plan lines start last
  pub size : ℕ
  pub sent : Appends held held_after (take size last.transcript)
  pub why : IsWhy fault last faults faults_after

-- The same of a run from the beginning on.
pub record IsRun (plan : Plan) (lines : List Event) (held held_after : Option (List ℕ)) (report : Report) : Type 0 where
  pub start : Core
  pub new : free start ≡ new_core
  pub runs : RunsInto plan lines start held held_after report

pub record IsCutRun (plan : Plan) (lines : List Event) (held held_after : Option (List ℕ)) (faults faults_after : ℕ)
    (fault : RunFault) : Type 0 where
  pub start : Core
  pub new : free start ≡ new_core
  pub ends : EndsEarly plan lines start held held_after faults faults_after fault
