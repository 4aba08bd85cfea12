-- The steps of a run, and what each does to the state of a page.
use Rattle.std.specs.Prelude.{◌≡◌, ◌⊎◌, ℕ, zero, suc, ◌≤◌, length}
use Rattle.settle_script.specs.declared.event.Event.{Event}
use Rattle.settle_script.specs.declared.event.Event.TheVariants.{Resolve, Reject, Work, Flush}
use Rattle.fizz_piece.specs.declared.piece.Piece.{Piece}
use Rattle.fizz_piece.specs.declared.plan.Plan.{Plan}
use Rattle.fizz_piece.specs.declared.work.Work.{Work as WorkOf}
use Rattle.fizz_piece.specs.Pieces.{IsPieceOf}
use Rattle.fizz_task.specs.Calls.{HasNoClaim}
use Rattle.request_state.specs.Claiming.{HandsOut}
use Rattle.request_state.specs.Closing.{Closes, IsIdle}
use Rattle.request_state.specs.Committing.{CommitsPiece}
use Rattle.request_state.specs.Core.{Core}
use Rattle.request_state.specs.Flushing.{FlushesState}
use Rattle.request_state.specs.Reclaiming.{with_reclaimed}
use Rattle.request_state.specs.Settling.{Settles}

-- A work is handed out and rendered, and its piece is taken.
pub record WorksOnce (plan : Plan) (old new : Core) : Type 0 where
  pub handed : Core
  pub work : WorkOf
  pub piece : Piece
  pub claimed : HandsOut old handed work
  pub rendered : IsPieceOf plan work piece
  pub taken : CommitsPiece plan.outcomes.now piece handed new

-- so often, one after another
abbrev pub WorksTimes : Plan → ℕ → Core → Core → Type 0
WorksTimes plan zero old new = new ≡ old
WorksTimes plan (suc times) old new = (between : Core) × WorksTimes plan times old between × WorksOnce plan between new

-- So often is enough for a line with this count, where 0 stands for all: it is the count, or nothing can be claimed any more.
abbrev pub IsEnough : (count times : ℕ) → Core → Type 0
IsEnough zero times new = HasNoClaim new.tasks
IsEnough (suc count) times new = (times ≡ suc count) ⊎ ((times ≤ suc count) × HasNoClaim new.tasks)

-- Works are rendered, as many as a line says, fewer where nothing can be claimed.
pub record WorksLine (plan : Plan) (count : ℕ) (old new : Core) : Type 0 where
  pub times : ℕ
  pub worked : WorksTimes plan times old new
  pub enough : IsEnough count times new

-- The next outcome of the plan is settled, if there is one.
abbrev pub SettlesLine : Plan → Core → Core → Type 0
SettlesLine plan old new =
    Settles plan.outcomes.now old new ⊎ ((length plan.outcomes.now ≤ old.settled) × (new ≡ old))

-- what a line of a script does
abbrev pub ServesLine : Plan → Event → Core → Core → Type 0
ServesLine plan (Resolve name value) old new = SettlesLine plan old new
ServesLine plan (Reject name digest) old new = SettlesLine plan old new
ServesLine plan (Work count) old new = WorksLine plan count old new
ServesLine plan (Flush budget) old new = FlushesState plan budget old new

-- All is rendered and settled, and what waits for what is never settled fails.
pub record ClosesIdle (plan : Plan) (old new : Core) : Type 0 where
  pub idle : IsIdle plan.outcomes.now old
  pub failed : ℕ
  pub closes : Closes old.shell_tasks old new failed

-- A line of a script; what is claimed becomes runnable again; what waits for what is never settled fails.
pub data Step : Type 0 where
  line : Event → Step
  reclaim : Step
  close : Step

abbrev pub TakesStep : Plan → Step → Core → Core → Type 0
TakesStep plan (line event) old new = ServesLine plan event old new
TakesStep plan reclaim old new = new ≡ with_reclaimed old
TakesStep plan close old new = ClosesIdle plan old new
