-- A page's state that is driven by calls, with works that were handed out.
use Rattle.std.specs.Prelude.{◌≡◌, List, All, Option, Some, None}
use Rattle.fizz_piece.specs.declared.piece.Piece.{Piece}
use Rattle.fizz_piece.specs.declared.plan.Plan.{Plan}
use Rattle.fizz_piece.specs.declared.work.Work.{Work}
use Rattle.fizz_piece.specs.Pieces.{IsGoodWork}
use Rattle.request_state.specs.declared.state.State.{State}
use Rattle.request_state.specs.Committing.{CommitsPiece}
use Rattle.request_state.specs.Core.{core_of, free}
use Rattle.request_laws.specs.Works.{WorksStand}

-- What each task is to do stands at its path, and each work that is held is good.
pub record IsDriven (state : State) (held : List Work) : Type 0 where
  pub works : WorksStand state.plan (core_of state)
  pub good : All (IsGoodWork state.plan) held

-- A piece is taken, or refused, which leaves all as it was but for the room that is kept for more.
abbrev pub TakesOrKeeps : {A : Type 0} → Piece → State → State → Option A → Type 0
TakesOrKeeps piece old new None = CommitsPiece old.plan.outcomes.now piece (core_of old) (core_of new)
TakesOrKeeps piece old new (Some refusal) = free (core_of new) ≡ free (core_of old)
