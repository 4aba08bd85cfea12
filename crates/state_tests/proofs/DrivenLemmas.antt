-- How a page is driven on.
use Rattle.std.proofs.Common.{◌≡◌, ◌≤◌, List, Option, Some, None, Result, Ok, Err, IfNone, IfSome, IfOk, OnOk, OnErr, ℕ, length, true, sym, subst}
use Rattle.std.specs.Prelude.{All}
use Rattle.fizz_piece.specs.declared.piece.Piece.{Piece}
use Rattle.fizz_piece.specs.declared.plan.Plan.{Plan}
use Rattle.fizz_piece.specs.declared.work.Work.{Work}
use Rattle.fizz_piece.specs.Pieces.{IsGoodWork, IsPieceOf}
use Rattle.request_state.specs.declared.state.State.{State}
use Rattle.request_state.specs.Claiming.{given_back, keeps}
use Rattle.request_state.specs.Committing.{CommitsPiece}
use Rattle.request_state.specs.Core.{Core, core_of, free}
use Rattle.request_state.specs.Settling.{Settles}
use Rattle.request_laws.specs.Works.{ClaimStands, TaskStands, WorksStand}
use Rattle.state_tests.specs.Driven.{IsDriven, TakesOrKeeps}

-- The plan stays, and so do the works that are held.
pub driven_on : (old new : State) (held : List Work) → new.plan ≡ old.plan → WorksStand old.plan (core_of new)
    → All (IsGoodWork old.plan) held → IsDriven new held
driven_on old new held same works good = record {
  works = subst (λ (p : Plan). WorksStand p (core_of new)) (sym same) works;
  good = subst (λ (p : Plan). All (IsGoodWork p) held) (sym same) good;
}

-- The room that is kept for more doesn't matter.
pub stands_freely : (plan : Plan) (old new : Core) → free new ≡ free old → WorksStand plan old → WorksStand plan new
stands_freely plan old new same works = record {
  within = subst (λ (c : Core). c.settled ≤ length plan.outcomes.now) (sym same) works.within;
  tasks = subst (λ (c : Core). All (TaskStands plan c.settled) c.tasks.states) (sym same) works.tasks;
  claims = subst (λ (c : Core). All (ClaimStands plan c.settled) c.claims) (sym same) works.claims;
}

-- A work comes back, or is stale.
pub comes_back : {A E : Type 0} (plan : Plan) (old new : Core) (work : Work) (result : Result A E) → WorksStand plan old
    → (keeps old work ≡ true → WorksStand plan (given_back work old))
    → OnOk result ((keeps old work ≡ true) × (new ≡ given_back work old)) → OnErr result (new ≡ old)
    → WorksStand plan new
comes_back plan old new work (Ok done) stands law back stale = subst (WorksStand plan) (sym back.1) (law back.0)
comes_back plan old new work (Err refusal) stands law back stale = subst (WorksStand plan) (sym stale) stands

-- The piece of a good work is taken, or is stale.
pub offered : {A E : Type 0} (read : Plan) (old new : State) (work : Work) (piece : Piece) (result : Result (Option A) E)
    → read ≡ old.plan → WorksStand old.plan (core_of old) → IsGoodWork old.plan work → IsPieceOf read work piece
    → (WorksStand old.plan (core_of old) → IsGoodWork old.plan work → IsPieceOf old.plan work piece
    → CommitsPiece old.plan.outcomes.now piece (core_of old) (core_of new) → WorksStand old.plan (core_of new))
    → IfOk result (TakesOrKeeps piece old new) → OnOk result (WorksStand old.plan (core_of new))
offered read old new work piece (Ok None) same stands good rendered law taken =
    law stands good (subst (λ (p : Plan). IsPieceOf p work piece) same rendered) taken
offered read old new work piece (Ok (Some stale)) same stands good rendered law taken =
    stands_freely old.plan (core_of old) (core_of new) taken stands
offered read old new work piece (Err fault) same stands good rendered law taken = tt

-- The next outcome is settled, or there is none.
pub settles_on : (plan : Plan) (old new : Core) (result : Option ℕ) (number : ℕ) → WorksStand plan old
    → (Settles plan.outcomes.now old new → WorksStand plan new) → IfNone result (new ≡ old)
    → IfSome result (λ n. (n ≡ number) × Settles plan.outcomes.now old new) → WorksStand plan new
settles_on plan old new None number stands law none some = subst (WorksStand plan) (sym none) stands
settles_on plan old new (Some n) number stands law none some = law some.1

-- The same once a piece is offered, if memory sufficed.
pub driven_if : {A E : Type 0} (old new : State) (held : List Work) (result : Result A E) → new.plan ≡ old.plan
    → OnOk result (WorksStand old.plan (core_of new)) → All (IsGoodWork old.plan) held → OnOk result (IsDriven new held)
driven_if old new held (Ok done) same works good = driven_on old new held same works good
driven_if old new held (Err fault) same works good = tt
