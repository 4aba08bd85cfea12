use Rattle.std.proofs.Common.{◌≡◌, ◌+◌, ◌≤◌, ◌<◌, List, length, slice_set, refl, sym, ap, ◌∙◌, subst, arith}
use Rattle.fizz_task.specs.declared.state.State.{State}
use Rattle.fizz_task.specs.declared.state.State.TheVariants.{Gone}
use Rattle.fizz_task.specs.Answers.{Claims}
use Rattle.std.proofs.lemmas.List.{get_or_read}
use Rattle.fizz_task.specs.Board.{Board}
use Rattle.fizz_task.specs.Stored.{IsFirst, runnable_in}
use Rattle.fizz_task.proofs.Keeping.{one_runnable, room_same, runnable_inside, sound_claimed, sound_same}
use Rattle.fizz_task.proofs.Views.{boarded, claims_from, none_kept}
use Rattle.fizz_task.proofs.columns.Columns.claim.Goals as goal

pub invariant_of-self : goal.invariant_of-self
invariant_of-self g c =
    let same : c.deref.result.now ≡ c.self.inside.states.items = c.deref.ensures.value in (
      none_kept _ c.self.inside.states.items c.self.inside.queue.items _ _ _ c.self.invariant.0
          (ap (λ (ss : List (State g.row.W.Denot)). runnable_in ss c.self.inside.queue.items) (sym same) ∙ c.in_err-task.ensures.none_runnable)
          c.in_err-task.ensures.none,
      c.self.invariant.1,
      room_same _ _ _ _ _ _ c.self.invariant.2 c.in_err-task.ensures.len,
    )

pub overflow_sub-self : goal.overflow_sub-self
overflow_sub-self g c =
    let states : List (State g.row.W.Denot) = c.self.inside.states.items in
    let first : IsFirst states c.self.inside.queue.items c.first_runnable.new.queue.items c.in_ok-task.task =
    subst (λ (ss : List (State g.row.W.Denot)). IsFirst ss c.self.inside.queue.items c.first_runnable.new.queue.items c.in_ok-task.task)
    c.deref.ensures.value c.in_ok-task.ensures.first in
    one_runnable states c.in_ok-task.task _ _ _ c.self.invariant.1 first.runnable

pub invariant_of-self-2 : goal.invariant_of-self-2
invariant_of-self-2 g c =
    let states : List (State g.row.W.Denot) = c.self.inside.states.items in
    let first : IsFirst states c.self.inside.queue.items c.first_runnable.new.queue.items c.in_ok-task.task =
    subst (λ (ss : List (State g.row.W.Denot)). IsFirst ss c.self.inside.queue.items c.first_runnable.new.queue.items c.in_ok-task.task)
    c.deref.ensures.value c.in_ok-task.ensures.first in
    let some : 1 ≤ c.self.inside.runnable = one_runnable states c.in_ok-task.task _ _ _ c.self.invariant.1 first.runnable in
    sound_same _ _ _ _ _ _ _ _ _ _ _ _ _ _ _ _ _
    (sound_claimed c.self.inside.owners.items states c.self.inside.queue.items c.first_runnable.new.queue.items c.self.inside.claims
    c.self.inside.spare _ _ _ _ _ _ c.in_ok-task.task
    (record { kept = c.self.invariant.0; counts = c.self.invariant.1; room = c.self.invariant.2 }) first
    (omega (arith, c.if-self.false, c.self.invariant.0.counted)) some)
    refl (ap (slice_set states c.in_ok-task.task) c.claim_state-payload.ensures.claimed) refl refl refl c.in_ok-task.ensures.len

pub returns-clause-claimed : goal.returns-clause-claimed
returns-clause-claimed g c =
    let states : List (State g.row.W.Denot) = c.self.inside.states.items in
    let first : IsFirst states c.self.inside.queue.items c.first_runnable.new.queue.items c.in_ok-task.task =
    subst (λ (ss : List (State g.row.W.Denot)). IsFirst ss c.self.inside.queue.items c.first_runnable.new.queue.items c.in_ok-task.task)
    c.deref.ensures.value c.in_ok-task.ensures.first in
    let inside : c.in_ok-task.task < length states = runnable_inside states c.in_ok-task.task first.runnable in
    subst (λ (b : Board g.row.W.Denot). Claims b
    (boarded c.self.inside.owners.items (slice_set states c.in_ok-task.task c.claim_state-payload.new.state)
    (runnable_in (slice_set states c.in_ok-task.task c.claim_state-payload.new.state) c.first_runnable.new.queue.items)
    (c.self.inside.claims + 1) c.self.inside.spare)
    (record { task = c.in_ok-task.task; claim = c.self.inside.claims; payload = c.claim_state-payload.result }))
    c.self.view_is
    (claims_from c.self.inside.owners.items states c.self.inside.queue.items c.first_runnable.new.queue.items c.self.inside.claims
    c.self.inside.spare c.in_ok-task.task c.claim_state-payload.result c.claim_state-payload.new.state c.self.invariant.0.queued first
    (sym (get_or_read states c.in_ok-task.task c.index_mut.result.now inside c.index_mut.ensures.value Gone) ∙ c.claim_state-payload.ensures.payload)
    c.claim_state-payload.ensures.claimed)
