use Rattle.std.proofs.Common.{◌≡◌, ◌+◌, ◌≤◌, ◌<◌, [], ◌∷◌, ◌++◌, ℕ, List, Some, slice_set, sym, ap, ◌∙◌, arith}
use Rattle.fizz_task.specs.declared.state.State.{State}
use Rattle.fizz_task.specs.declared.state.State.TheVariants.{Runnable}
use Rattle.fizz_task.specs.Board.{claim_of, state_at, times}
use Rattle.fizz_task.specs.Calls.{returned}
use Rattle.fizz_task.specs.Stored.{runnable_in}
use Rattle.fizz_task.proofs.Keeping.{claimed_absent, claimed_inside, claimed_kind, counts_set, fits_one, kept_returned, kept_same, one_claimed, queue_fits, room_same, room_set, runnable_is, same_option}
use Rattle.fizz_task.proofs.Views.{boarded, view_returned}
use Rattle.fizz_task.proofs.columns.Columns.give_back.Goals as goal

pub push_back_reserved-requires : goal.push_back_reserved-requires
push_back_reserved-requires g c =
    let states : List (State g.row.W.Denot) = c.self.inside.states.items in
    let claims : claim_of (state_at states c.args.task) ≡ Some c.args.claim =
    ap (λ (ss : List (State g.row.W.Denot)). claim_of (state_at ss c.args.task)) (sym c.deref.ensures.value)
    ∙ sym c.claim_at-now.ensures ∙ same_option _ _ _ c.ne.ensures c.if-ne.false in
    let some : 1 ≤ c.self.inside.claimed = one_claimed states c.args.task c.args.claim _ _ _ c.self.invariant.1 claims in
    omega (arith, c.self.inside.queue.ok.0, queue_fits _ states _ _ _ _ _ _ _ _ _ c.self.invariant.0 c.self.invariant.1 c.self.invariant.2 some)

pub overflow_sub-self : goal.overflow_sub-self
overflow_sub-self g c =
    let states : List (State g.row.W.Denot) = c.self.inside.states.items in
    let claims : claim_of (state_at states c.args.task) ≡ Some c.args.claim =
    ap (λ (ss : List (State g.row.W.Denot)). claim_of (state_at ss c.args.task)) (sym c.deref.ensures.value)
    ∙ sym c.claim_at-now.ensures ∙ same_option _ _ _ c.ne.ensures c.if-ne.false in
    one_claimed states c.args.task c.args.claim _ _ _ c.self.invariant.1 claims

pub overflow_add-self : goal.overflow_add-self
overflow_add-self g c =
    let states : List (State g.row.W.Denot) = c.self.inside.states.items in
    let claims : claim_of (state_at states c.args.task) ≡ Some c.args.claim =
    ap (λ (ss : List (State g.row.W.Denot)). claim_of (state_at ss c.args.task)) (sym c.deref.ensures.value)
    ∙ sym c.claim_at-now.ensures ∙ same_option _ _ _ c.ne.ensures c.if-ne.false in
    let some : 1 ≤ c.self.inside.claimed = one_claimed states c.args.task c.args.claim _ _ _ c.self.invariant.1 claims in
    let fits : (c.self.inside.runnable + 1 < 4294967296) × (c.self.inside.waiting + 1 < 4294967296) =
    fits_one _ states _ _ _ _ _ _ c.self.invariant.0 c.self.invariant.1 some in
    omega (arith, fits.0)

pub invariant_of-self : goal.invariant_of-self
invariant_of-self g c =
    let states : List (State g.row.W.Denot) = c.self.inside.states.items in
    let claims : claim_of (state_at states c.args.task) ≡ Some c.args.claim =
    ap (λ (ss : List (State g.row.W.Denot)). claim_of (state_at ss c.args.task)) (sym c.deref.ensures.value)
    ∙ sym c.claim_at-now.ensures ∙ same_option _ _ _ c.ne.ensures c.if-ne.false in
    let some : 1 ≤ c.self.inside.claimed = one_claimed states c.args.task c.args.claim _ _ _ c.self.invariant.1 claims in (
      kept_same _ _ _ _ _ _ (kept_returned _ states _ _ _ c.args.task c.args.claim c.args.payload c.self.invariant.0 claims)
          c.push_back_reserved.ensures.items,
      counts_set states c.args.task (Runnable c.args.payload) _ _ _ _ _ _ 0 1 0 0 1 0 0 1 c.self.invariant.1
          (claimed_inside states c.args.task c.args.claim claims)
          (claimed_kind _ c.args.claim claims) (runnable_is c.args.payload) (omega arith) (omega (arith, some)) (omega (arith, some)),
      room_same _ _ _ _ _ _ (room_set states c.args.task (Runnable c.args.payload) _ _ _ _ c.self.invariant.2)
          c.push_back_reserved.ensures.capacity,
    )

pub returns-clause-ok : goal.returns-clause-ok
returns-clause-ok g c =
    let states : List (State g.row.W.Denot) = c.self.inside.states.items in
    let claims : claim_of (state_at states c.args.task) ≡ Some c.args.claim =
    ap (λ (ss : List (State g.row.W.Denot)). claim_of (state_at ss c.args.task)) (sym c.deref.ensures.value)
    ∙ sym c.claim_at-now.ensures ∙ same_option _ _ _ c.ne.ensures c.if-ne.false in
    let absent : times c.args.task c.self.inside.queue.items ≡ 0 =
    claimed_absent states _ c.args.task c.args.claim c.self.invariant.0.queued claims in
    let next : List (State g.row.W.Denot) = slice_set states c.args.task (Runnable c.args.payload) in
    let seen : runnable_in next c.push_back_reserved.new.self.items
    ≡ runnable_in states c.self.inside.queue.items ++ c.args.task ∷ [] =
    ap (runnable_in next) c.push_back_reserved.ensures.items
    ∙ view_returned states _ c.args.task c.args.payload (claimed_inside states c.args.task c.args.claim claims) absent in
    ap (λ (queue : List ℕ). boarded c.self.inside.owners.items next queue c.self.inside.claims c.self.inside.spare) seen
    ∙ ap (returned c.args.task c.args.payload) c.self.view_is
