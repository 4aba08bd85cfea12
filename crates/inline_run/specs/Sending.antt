-- How a run is under way. Private functions cite it.
use Rattle.std.specs.Prelude.{◌≡◌, ℕ, ◌≤◌, List, [], ◌++◌, length, take, replicate, Option, Some, None}
use Rattle.std.specs.Io.KnownBytes.{Appends}
use Rattle.settle_script.specs.declared.event.Event.TheVariants.{Flush}
use Rattle.flush_queues.specs.Queues.{HasNothingQueued}
use Rattle.fizz_outside.specs.Faults.{FaultCounted}
use Rattle.fizz_piece.specs.declared.plan.Plan.{Plan}
use Rattle.request_laws.specs.Transcripts.{Sends}
use Rattle.request_laws.specs.Works.{WorksStand}
use Rattle.request_state.specs.Core.{Core}
use Rattle.inline_run.specs.Runs.{IsWhy, TakesSteps, last_steps}
use Rattle.inline_run.specs.Steps.{Step, TakesStep, line}
use Rattle.inline_run.specs.declared.run.Report.{Report}
use Rattle.inline_run.specs.declared.run.RunFault.{RunFault}
use Rattle.inline_run.specs.declared.run.RunFault.TheVariants.{ShellFailed, SinkFault, OutOfMemory}

-- What a step leaves: the works of all tasks are good, and the transcript is longer by some bytes.
pub record Steps (plan : Plan) (step : Step) (old new : Core) : Type 0 where
  pub taken : TakesStep plan step old new
  pub works : WorksStand plan new
  pub bytes : List ℕ
  pub sends : Sends bytes old new

-- Steps are taken from a state on. After them the shell has not failed, the works of all tasks are good, and a sink has
-- taken the bytes that they sent.
pub record StepsOn (plan : Plan) (steps : List Step) (old new : Core) (held held_after : Option (List ℕ))
    (faults faults_after : ℕ) : Type 0 where
  pub taken : TakesSteps plan old steps new
  pub sound : new.failure ≡ None
  pub works : WorksStand plan new
  pub bytes : List ℕ
  pub sends : Sends bytes old new
  pub appended : Appends held held_after bytes
  pub later : faults ≤ faults_after

-- Of these steps some are taken, and then the run ends early: the sink has taken a part of the bytes that they sent.
pub record EndsOn (plan : Plan) (whole : List Step) (old : Core) (held held_after : Option (List ℕ))
    (faults faults_after : ℕ) (fault : RunFault) : Type 0 where
  pub last : Core
  pub steps : List Step
  pub others : List Step
  pub split : steps ++ others ≡ whole
  pub taken : TakesSteps plan old steps last
  pub bytes : List ℕ
  pub sends : Sends bytes old last
  pub size : ℕ
  pub part : Appends held held_after (take size bytes)
  pub why : IsWhy fault last faults faults_after

-- The sending of bytes ends early.
pub record EndsSending (last : Core) (bytes : List ℕ) (held held_after : Option (List ℕ)) (faults faults_after : ℕ)
    (fault : RunFault) : Type 0 where
  pub size : ℕ
  pub part : Appends held held_after (take size bytes)
  pub why : IsWhy fault last faults faults_after

-- What a shell that failed ends a run with, where these bytes were sent: its digest where there are none, unless there is no
-- memory.
abbrev pub IsFailure : List ℕ → List ℕ → RunFault → Type 0
IsFailure digest transcript (ShellFailed told) = (told ≡ digest) × (transcript ≡ [])
IsFailure digest transcript SinkFault = ⊥
IsFailure digest transcript OutOfMemory = Unit {0}

abbrev pub flushes_of : ℕ → List Step
flushes_of flushes = replicate flushes (line (Flush 0))

-- All is flushed, in so many flushes.
pub record FlushesAll (plan : Plan) (old new : Core) (held held_after : Option (List ℕ)) (faults faults_after : ℕ)
    : Type 0 where
  pub flushes : ℕ
  pub stepped : StepsOn plan (flushes_of flushes) old new held held_after faults faults_after
  pub nothing_left : HasNothingQueued new.queues

pub record EndsAtFlush (plan : Plan) (old : Core) (held held_after : Option (List ℕ)) (faults faults_after : ℕ)
    (fault : RunFault) : Type 0 where
  pub flushes : ℕ
  pub ended : EndsOn plan (flushes_of flushes) old held held_after faults faults_after fault

-- The steps after the lines are taken.
pub record Finishes (plan : Plan) (old new : Core) (held held_after : Option (List ℕ)) (faults faults_after : ℕ)
    : Type 0 where
  pub flushes : ℕ
  pub stepped : StepsOn plan (last_steps flushes) old new held held_after faults faults_after
  pub nothing_left : HasNothingQueued new.queues

pub record EndsAtFinish (plan : Plan) (old : Core) (held held_after : Option (List ℕ)) (faults faults_after : ℕ)
    (fault : RunFault) : Type 0 where
  pub flushes : ℕ
  pub ended : EndsOn plan (last_steps flushes) old held held_after faults faults_after fault

-- A report tells how much was sent, and in how many flushes.
pub record IsReportOf (core : Core) (report : Report) : Type 0 where
  pub written : report.written ≡ length core.transcript
  pub marks : report.marks ≡ length core.marks
