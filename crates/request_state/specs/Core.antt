-- The state of a page that is being rendered, as plain data.
use Rattle.std.specs.Prelude.{ℕ, List, [], ◌∷◌, Option, Some, None}
use Rattle.jsx_value.specs.declared.spot.Spot.TheVariants.{Root}
use Rattle.fizz_task.specs.Board.{Board}
use Rattle.fizz_task.specs.Calls.{no_tasks, spawned}
use Rattle.fizz_segment.specs.Tree.{Tree, no_flags}
use Rattle.fizz_segment.specs.Calls.{added, no_segments, root_of}
use Rattle.fizz_boundary.specs.Bounds.{Bounds}
use Rattle.fizz_boundary.specs.Calls.{no_boundaries}
use Rattle.flush_queues.specs.declared.queues.Queues.{Queues}
use Rattle.flush_queues.specs.Queues.{bare, new_queues, with_queues, with_segment, without_room}
use Rattle.id_lists.specs.Lists.{Lists}
use Rattle.id_lists.specs.Calls.{no_lists, with_id}
use Rattle.request_state.specs.declared.job.Claim.{Claim}
use Rattle.request_state.specs.declared.job.Job.{Job}
use Rattle.request_state.specs.declared.job.Place.{Place}
use Rattle.request_state.specs.declared.state.State.{State}

-- How many outcomes are settled; the tasks, and by task what is kept of a claimed one; how many tasks the shell has; the
-- segments, by boundary its own ones, and the boundaries; what is to be sent; what was sent, and how far after each
-- flush; and the shell's digest if it has failed.
pub record Core : Type 0 where
  pub settled : ℕ
  pub tasks : Board Job
  pub claims : List (Option Claim)
  pub shell_tasks : ℕ
  pub segments : Tree
  pub own : Lists
  pub boundaries : Bounds
  pub queues : Queues
  pub transcript : List ℕ
  pub marks : List ℕ
  pub failure : Option (List ℕ)

abbrev pub core_of : State → Core
core_of state = record {
  settled = state.settled;
  tasks = state.tasks;
  claims = state.claims.items;
  shell_tasks = state.shell_tasks;
  segments = state.segments;
  own = state.own;
  boundaries = state.boundaries;
  queues = state.queues;
  transcript = state.transcript.items;
  marks = state.marks.items;
  failure = state.failure;
}

-- a state but for the room that is kept for more
abbrev pub free : Core → Core
free core = record core {
  tasks = record core.tasks { spare = 0 };
  segments = record core.segments { spare = 0 };
  own = bare core.own;
  boundaries = record core.boundaries { spare = 0 };
  queues = without_room core.queues;
}

-- what a task is to do whose segment and position these are
abbrev pub job_of : ℕ → Place → Job
job_of segment place = record { segment = segment; given = place; kept = place }

-- the call of `App`
abbrev pub root_place : Place
root_place = record { path = []; spot = Root; scope = [] }

abbrev pub root_job : ℕ → Job
root_job segment = job_of segment root_place

-- the shell's task, which is runnable
abbrev pub new_tasks : Board Job
new_tasks = spawned None (root_job 0) None no_tasks

-- the shell's segment
abbrev pub new_segments : Tree
new_segments = added (root_of None) no_flags no_segments

-- nothing is to be sent but the shell
abbrev pub first_queues : Queues
first_queues = with_segment (with_queues (new_queues 0 (Some 0)))

-- Nothing is rendered: the shell has a segment and a runnable task.
abbrev pub new_core : Core
new_core = record {
  settled = 0;
  tasks = new_tasks;
  claims = None ∷ [];
  shell_tasks = 1;
  segments = new_segments;
  own = with_id no_lists;
  boundaries = no_boundaries;
  queues = first_queues;
  transcript = [];
  marks = [];
  failure = None;
}
