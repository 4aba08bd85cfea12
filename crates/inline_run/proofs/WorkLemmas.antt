-- Works, one after another.
use Rattle.std.proofs.Common.{◌≡◌, ℕ, suc, ◌+◌, ◌≤◌, ◌⊎◌, ◌↔◌, zero, length, Option, Some, None, IsNone, IfNone, IfSome, Result, Ok, Err, IfOk, OnOk, refl, sym, ap, subst, ◌∙◌, inl, inr, arith}
use Rattle.fizz_piece.specs.declared.piece.Piece.{Piece}
use Rattle.fizz_piece.specs.declared.plan.Plan.{Plan}
use Rattle.fizz_piece.specs.declared.work.Work.{Work}
use Rattle.fizz_piece.specs.Pieces.{IsGoodWork, IsPieceOf}
use Rattle.fizz_task.specs.Calls.{HasNoClaim}
use Rattle.request_state.specs.Claiming.{HandsOut}
use Rattle.request_state.specs.Committing.{CommitsPiece}
use Rattle.request_state.specs.Core.{Core}
use Rattle.request_state.specs.Settling.{Settles}
use Rattle.request_laws.specs.Works.{WorksStand}
use Rattle.request_laws.specs.Transcripts.{SendsNothing}
use Rattle.inline_run.specs.Steps.{IsEnough, SettlesLine, WorksOnce, WorksTimes}

pub on_ok : {A E : Type 0} (result : Result A E) (Q : A → Type 0) (P : Type 0) → IfOk result Q → ((a : A) → Q a → P)
    → OnOk result P
on_ok (Ok a) Q P holds on = on a holds
on_ok (Err e) Q P holds on = tt

-- a work that is handed out is rendered, and its piece taken
pub works_after : (plan read kept : Plan) (old handed new : Core) (work : Work) (piece : Piece) → read ≡ plan → kept ≡ plan
    → (WorksStand plan handed → IsGoodWork plan work → IsPieceOf plan work piece
    → CommitsPiece plan.outcomes.now piece handed new → WorksStand plan new)
    → WorksStand plan handed × IsGoodWork plan work → IsPieceOf read work piece
    → CommitsPiece kept.outcomes.now piece handed new → WorksStand plan new
works_after plan read kept old handed new work piece same also law good rendered taken =
    law good.0 good.1 (subst (λ (p : Plan). IsPieceOf p work piece) same rendered)
    (subst (λ (p : Plan). CommitsPiece p.outcomes.now piece handed new) also taken)

pub times_more : (plan : Plan) (times : ℕ) (a b c : Core) → WorksTimes plan times a b → WorksOnce plan b c
    → WorksTimes plan (times + 1) a c
times_more plan times a b c worked once =
    subst (λ n. WorksTimes plan n a c) more (b, worked, once)
  where
    more : suc times ≡ times + 1
    more = omega arith

pub silent_more : (a b c : Core) → SendsNothing a b → SendsNothing b c → SendsNothing a c
silent_more a b c first second = record {
  transcript = second.transcript ∙ first.transcript;
  marks = second.marks ∙ first.marks;
}

pub enough : (count times : ℕ) (new : Core) → 1 ≤ count → (times ≡ count) ⊎ ((times ≤ count) × HasNoClaim new.tasks)
    → IsEnough count times new
enough zero times new some how = absurd (omega (arith, some))
enough (suc count) times new some how = how

-- The next outcome is settled, or there is none.
pub settles_if : (plan : Plan) (old new : Core) (result : Option ℕ) (number : ℕ)
    → (IsNone result ↔ (length plan.outcomes.now ≤ old.settled)) → IfNone result (new ≡ old)
    → IfSome result (λ n. (n ≡ number) × Settles plan.outcomes.now old new) → SettlesLine plan old new
settles_if plan old new None number exactly none some = inr (exactly.0 refl, none)
settles_if plan old new (Some n) number exactly none some = inl some.1

pub settles_keep : (plan : Plan) (old new : Core) (P : Core → Type 0) → P old
    → (Settles plan.outcomes.now old new → P new) → SettlesLine plan old new → P new
settles_keep plan old new P before after (inl settles) = after settles
settles_keep plan old new P before after (inr past) = subst P (sym past.1) before
