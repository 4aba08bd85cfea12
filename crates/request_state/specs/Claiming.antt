-- Claims: how a task's work is handed out, and how it comes back.
use Rattle.std.specs.Prelude.{◌≡◌, ℕ, ◌==◌, Bool, true, false, not, ◌&&◌, List, slice_index_or, slice_set, Option, Some, None}
use Rattle.std.specs.Str.{bytes_eq}
use Rattle.fizz_piece.specs.declared.work.Flags.{Flags}
use Rattle.fizz_piece.specs.declared.work.Work.{Work}
use Rattle.fizz_segment.specs.declared.segment.Flags.{Flags as SegmentFlags}
use Rattle.fizz_segment.specs.Tree.{mark_at}
use Rattle.fizz_task.specs.Answers.{Claims}
use Rattle.fizz_task.specs.Board.{claim_of, state_at}
use Rattle.fizz_task.specs.Calls.{owner_at, returned}
use Rattle.request_state.specs.declared.job.Claim.{Claim}
use Rattle.request_state.specs.declared.job.Job.{Job}
use Rattle.request_state.specs.declared.job.Place.{Place}
use Rattle.request_state.specs.Core.{Core}

-- the flags of a piece, for those of its segment
abbrev pub piece_flags : SegmentFlags → Flags
piece_flags flags = record { lead = flags.lead; embedded = flags.embedded }

-- the flags of a segment, for those of its piece
abbrev pub segment_flags : Flags → SegmentFlags
segment_flags flags = record { lead = flags.lead; embedded = flags.embedded }

abbrev pub flags_of : Core → ℕ → Flags
flags_of core segment = piece_flags (mark_at core.segments.marks segment).flags

-- what is kept of a claimed task
abbrev pub claim_at : List (Option Claim) → ℕ → Option Claim
claim_at claims task = slice_index_or claims task None

-- what is kept of a task that is claimed: nothing of its job but its segment and one of its places
abbrev pub kept_of : Core → Job → Claim
kept_of core job = record {
  segment = job.segment;
  place = job.kept;
  settled = core.settled;
  flags = flags_of core job.segment;
}

-- the work that is handed out
abbrev pub work_of : Core → (task claim : ℕ) → Job → Work
work_of core task claim job = record {
  task = task;
  claim = claim;
  path = job.given.path;
  spot = job.given.spot;
  scope = job.given.scope;
  settled = core.settled;
  flags = flags_of core job.segment;
}

-- The first task of the queue is claimed, and its work handed out.
pub record HandsOut (old new : Core) (work : Work) : Type 0 where
  pub job : Job
  pub claimed : Claims old.tasks new.tasks (record { task = work.task; claim = work.claim; payload = job })
  pub given : work ≡ work_of old work.task work.claim job
  pub changed : new ≡ record old {
    tasks = new.tasks;
    claims = slice_set old.claims work.task (Some (kept_of old job));
  }

abbrev pub same_bool : Bool → Bool → Bool
same_bool true b = b
same_bool false b = not b

-- whether what is kept of a task is this work, but for what stands at its position
abbrev pub is_kept_as : Work → Option Claim → Bool
is_kept_as work None = false
is_kept_as work (Some claim) = bytes_eq claim.place.path work.path && (claim.settled == work.settled)
    && same_bool claim.flags.lead work.flags.lead && same_bool claim.flags.embedded work.flags.embedded

abbrev pub is_claim : ℕ → Option ℕ → Bool
is_claim claim None = false
is_claim claim (Some number) = number == claim

-- Whether a work is one that was handed out and didn't come back: its task is claimed under its number, and what is kept
-- of the task is equal to it.
abbrev pub keeps : Core → Work → Bool
keeps core work = is_claim work.claim (claim_of (state_at core.tasks.states work.task))
    && is_kept_as work (claim_at core.claims work.task)

-- the number under which a work's task is claimed
abbrev pub number_now : Core → Work → Option ℕ
number_now core work = claim_of (state_at core.tasks.states work.task)

-- the position of a work
abbrev pub place_in : Work → Place
place_in work = record { path = work.path; spot = work.spot; scope = work.scope }

-- what a task is to do again whose work came back
abbrev pub job_again : Work → Claim → Job
job_again work claim = record { segment = claim.segment; given = place_in work; kept = claim.place }

abbrev pub given_back_to : Work → Option Claim → Core → Core
given_back_to work None core = core
given_back_to work (Some claim) core = record core {
  tasks = returned work.task (job_again work claim) core.tasks;
  claims = slice_set core.claims work.task None;
}

-- A work comes back as it was handed out: its task is the last of the runnable ones.
abbrev pub given_back : Work → Core → Core
given_back work core = given_back_to work (claim_at core.claims work.task) core

-- the owner of a work's task
abbrev pub owner_of : Core → Work → Option ℕ
owner_of core work = owner_at core.tasks.owners work.task
