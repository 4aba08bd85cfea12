-- What a flush makes of segments, boundaries and queues, and what it writes.
use Rattle.std.specs.Prelude.{◌≡◌, ℕ, List, [], ◌++◌, length}
use Rattle.fizz_segment.specs.Tree.{Tree}
use Rattle.fizz_boundary.specs.Bounds.{Bounds}
use Rattle.flush_queues.specs.Flows.{Tables}
use Rattle.flush_queues.specs.Flushing.{Flushes, Serves}
use Rattle.flush_queues.specs.declared.flow.Flow.{Flow}
use Rattle.flush_queues.specs.declared.flushing.Ended.{Ended}
use Rattle.flush_queues.specs.declared.flushing.Ended.TheVariants.{Empty, Enough}
use Rattle.flush_queues.specs.declared.queues.Queue.{Queue}
use Rattle.flush_queues.specs.declared.queues.Queues.{Queues}

abbrev pub tables_with : List ℕ → ℕ → Tree → Bounds → Tables
tables_with prefix progressive tree bounds =
    record { prefix = prefix; progressive = progressive; parts = tree.parts; bounds = bounds.bounds }

-- where a flush begins: nothing is written
abbrev pub flow_at : Tree → Bounds → Queues → Flow
flow_at tree bounds queues =
    record { segments = tree.marks; boundaries = bounds.marks; queues = queues; out = [] }

-- Segments, boundaries and queues are those after a flush, and what it wrote was appended.
pub record IsFlushed (prefix : List ℕ) (progressive budget : ℕ) (tree new_tree : Tree) (bounds new_bounds : Bounds)
    (queues new_queues : Queues) (out new_out : List ℕ) : Type 0 where
  pub end : Flow
  pub flushes : Flushes (tables_with prefix progressive tree bounds) budget (flow_at tree bounds queues) end
  pub segments : new_tree ≡ record tree { marks = end.segments }
  pub boundaries : new_bounds ≡ record bounds { marks = end.boundaries }
  pub queued : new_queues ≡ end.queues
  pub written : new_out ≡ out ++ end.out

-- For private functions: where the serving of a queue ended, the later queues are served, or enough is written.
abbrev pub GoesOn : Tables → ℕ → Ended → List Queue → Flow → Flow → Type 0
GoesOn t budget Empty later flow end = Serves t budget later flow end
GoesOn t budget Enough later flow end = flow ≡ end

pub record AreAsMany (old new : Flow) : Type 0 where
  pub segments : length new.segments ≡ length old.segments
  pub boundaries : length new.boundaries ≡ length old.boundaries
