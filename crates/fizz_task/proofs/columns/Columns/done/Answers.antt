use Rattle.std.proofs.Common.{◌≡◌, ◌≤◌, ℕ, List, Some, slice_set, sym, ap, ◌∙◌, arith}
use Rattle.fizz_task.specs.declared.state.State.{State}
use Rattle.fizz_task.specs.declared.state.State.TheVariants.{Gone}
use Rattle.fizz_task.specs.Board.{claim_of, state_at, times}
use Rattle.fizz_task.specs.Calls.{ended}
use Rattle.fizz_task.proofs.Keeping.{claimed_absent, claimed_inside, claimed_kind, counts_set, gone_is, kept_ended, one_claimed, room_set, same_option}
use Rattle.fizz_task.specs.Stored.{runnable_in}
use Rattle.fizz_task.proofs.Views.{boarded, view_set}
use Rattle.fizz_task.proofs.columns.Columns.done.Goals as goal

pub overflow_sub-self : goal.overflow_sub-self
overflow_sub-self g c =
    let states : List (State g.row.W.Denot) = c.self.inside.states.items in
    let claims : claim_of (state_at states c.args.task) ≡ Some c.args.claim =
    ap (λ (ss : List (State g.row.W.Denot)). claim_of (state_at ss c.args.task)) (sym c.deref.ensures.value)
    ∙ sym c.claim_at-now.ensures ∙ same_option _ _ _ c.ne.ensures c.if-ne.false in
    one_claimed states c.args.task c.args.claim _ _ _ c.self.invariant.1 claims

pub invariant_of-self : goal.invariant_of-self
invariant_of-self g c =
    let states : List (State g.row.W.Denot) = c.self.inside.states.items in
    let claims : claim_of (state_at states c.args.task) ≡ Some c.args.claim =
    ap (λ (ss : List (State g.row.W.Denot)). claim_of (state_at ss c.args.task)) (sym c.deref.ensures.value)
    ∙ sym c.claim_at-now.ensures ∙ same_option _ _ _ c.ne.ensures c.if-ne.false in
    let some : 1 ≤ c.self.inside.claimed = one_claimed states c.args.task c.args.claim _ _ _ c.self.invariant.1 claims in (
      kept_ended _ states _ _ _ c.args.task c.args.claim c.self.invariant.0 claims,
      counts_set states c.args.task Gone _ _ _ _ _ _ 0 1 0 0 0 0 0 1 c.self.invariant.1
          (claimed_inside states c.args.task c.args.claim claims)
          (claimed_kind _ c.args.claim claims) gone_is (omega arith) (omega (arith, some)) (omega arith),
      room_set states c.args.task Gone _ _ _ _ c.self.invariant.2,
    )

pub returns-clause-ok : goal.returns-clause-ok
returns-clause-ok g c =
    let states : List (State g.row.W.Denot) = c.self.inside.states.items in
    let claims : claim_of (state_at states c.args.task) ≡ Some c.args.claim =
    ap (λ (ss : List (State g.row.W.Denot)). claim_of (state_at ss c.args.task)) (sym c.deref.ensures.value)
    ∙ sym c.claim_at-now.ensures ∙ same_option _ _ _ c.ne.ensures c.if-ne.false in
    let absent : times c.args.task c.self.inside.queue.items ≡ 0 =
    claimed_absent states _ c.args.task c.args.claim c.self.invariant.0.queued claims in
    let seen : runnable_in (slice_set states c.args.task Gone) c.self.inside.queue.items
    ≡ runnable_in states c.self.inside.queue.items = view_set states _ c.args.task Gone absent in
    ap (λ (queue : List ℕ). boarded c.self.inside.owners.items (slice_set states c.args.task Gone) queue
    c.self.inside.claims c.self.inside.spare) seen
    ∙ ap (ended c.args.task) c.self.view_is
