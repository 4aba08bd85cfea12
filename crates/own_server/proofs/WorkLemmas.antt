-- What was handed out is rendered, and its piece taken.
use Rattle.std.proofs.Common.{◌≡◌, Result, Ok, Err, OnOk, subst}
use Rattle.fizz_piece.specs.Pieces.{IsGoodWork, IsPieceOf}
use Rattle.fizz_piece.specs.declared.piece.Piece.{Piece}
use Rattle.fizz_piece.specs.declared.plan.Plan.{Plan}
use Rattle.fizz_piece.specs.declared.work.Work.{Work}
use Rattle.request_state.specs.Committing.{CommitsPiece}
use Rattle.request_state.specs.Core.{Core}
use Rattle.request_laws.specs.Works.{WorksStand}

pub on_ok : {A E : Type 0} (result : Result A E) {P Q : Type 0} → OnOk result P → (P → Q) → OnOk result Q
on_ok (Ok a) holds more = more holds
on_ok (Err e) holds more = tt

pub works_after : (plan read kept : Plan) (old handed new : Core) (work : Work) (piece : Piece) → read ≡ plan → kept ≡ plan
    → (WorksStand plan handed → IsGoodWork plan work → IsPieceOf plan work piece
    → CommitsPiece plan.outcomes.now piece handed new → WorksStand plan new)
    → WorksStand plan handed × IsGoodWork plan work → IsPieceOf read work piece
    → CommitsPiece kept.outcomes.now piece handed new → WorksStand plan new
works_after plan read kept old handed new work piece same also law good rendered taken =
    law good.0 good.1 (subst (λ (p : Plan). IsPieceOf p work piece) same rendered)
    (subst (λ (p : Plan). CommitsPiece p.outcomes.now piece handed new) also taken)
