-- What is still to be sent of a page: which segments are ready, and which boundaries wait for what.
use Rattle.std.specs.Prelude.{◌≡◌, ◌≤◌, ◌+◌, ℕ, List, [], ◌∷◌, Option}
use Rattle.fizz_instructions.specs.Sending.{no_function_sent}
use Rattle.id_lists.specs.Lists.{Lists, list_at}
use Rattle.id_lists.specs.Calls.{no_lists, with_id, with_list, with_pushed, without}
use Rattle.flush_queues.specs.declared.queues.Queue.{Queue}
use Rattle.flush_queues.specs.declared.queues.Queue.TheVariants.{ClientRendered, Completed, Partial}
use Rattle.flush_queues.specs.declared.queues.Queues.{Queues}

-- where a queue stands among the lists of boundaries
abbrev pub number_of : Queue → ℕ
number_of ClientRendered = 0
number_of Completed = 1
number_of Partial = 2

-- the segments of a boundary that are ready, the first to be sent first
abbrev pub ready_of : Queues → ℕ → List ℕ
ready_of queues boundary = list_at queues.ready.lists boundary

-- the boundaries of a queue, the first to be served first
abbrev pub queue_of : Queues → Queue → List ℕ
queue_of queues queue = list_at queues.boundaries.lists (number_of queue)

-- nothing is printed, and nothing was made yet
abbrev pub new_queues : ℕ → Option ℕ → Queues
new_queues next shell =
    record { ready = no_lists; boundaries = no_lists; next = next; sent = no_function_sent; shell = shell }

pub record HasNothingQueued (queues : Queues) : Type 0 where
  pub no_client_rendered : queue_of queues ClientRendered ≡ []
  pub no_completed : queue_of queues Completed ≡ []
  pub no_partial : queue_of queues Partial ≡ []

-- a segment isn't ready any more
abbrev pub without_ready : ℕ → Queues → Queues
without_ready segment queues =
    record queues { ready = record queues.ready { lists = without segment queues.ready.lists } }

-- a boundary leaves its queue
abbrev pub without_boundary : ℕ → Queues → Queues
without_boundary boundary queues =
    record queues { boundaries = record queues.boundaries { lists = without boundary queues.boundaries.lists } }

-- a boundary leaves its queue and becomes the last of this one
abbrev pub with_entered : Queue → ℕ → Queues → Queues
with_entered queue boundary queues = record queues {
  boundaries = record queues.boundaries {
    lists = with_pushed (number_of queue) boundary (without boundary queues.boundaries.lists);
  };
}

-- the next id is drawn
abbrev pub with_next_drawn : Queues → Queues
with_next_drawn queues = record queues { next = queues.next + 1 }

-- lists but for the room that is kept for more
abbrev pub bare : Lists → Lists
bare all = record all { spare_lists = 0; spare_ids = 0 }

-- queues but for the room that is kept for more
abbrev pub without_room : Queues → Queues
without_room queues = record queues { ready = bare queues.ready; boundaries = bare queues.boundaries }

abbrev pub queues_made : List (List ℕ) → List (List ℕ)
queues_made [] = [] ∷ [] ∷ [] ∷ []
queues_made (list ∷ lists) = list ∷ lists

-- the three queues are there
abbrev pub with_queues : Queues → Queues
with_queues queues = record queues {
  boundaries = record queues.boundaries { lists = queues_made queues.boundaries.lists };
}

-- a segment more
abbrev pub with_segment : Queues → Queues
with_segment queues = record queues { ready = with_id queues.ready }

-- a boundary more
abbrev pub with_boundary : Queues → Queues
with_boundary queues = record queues { ready = with_list queues.ready; boundaries = with_id queues.boundaries }

-- there is room for so many segments and boundaries more
pub record HasRoom (segments boundaries : ℕ) (queues : Queues) : Type 0 where
  pub for_segments : segments ≤ queues.ready.spare_ids
  pub for_lists : boundaries ≤ queues.ready.spare_lists
  pub for_boundaries : boundaries ≤ queues.boundaries.spare_ids
