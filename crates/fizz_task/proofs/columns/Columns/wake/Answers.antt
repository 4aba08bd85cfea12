use Rattle.std.proofs.Common.{◌≡◌, ◌+◌, ◌≤◌, ◌<◌, true, List, length, slice_set, refl, sym, ap, ◌∙◌, subst, arith}
use Rattle.std.proofs.lemmas.List.{get_or_read}
use Rattle.fizz_task.specs.declared.state.State.{State}
use Rattle.fizz_task.specs.declared.state.State.TheVariants.{Gone}
use Rattle.fizz_task.specs.Board.{Board, state_at, waits_for}
use Rattle.fizz_task.specs.Calls.{woken, woken_one}
use Rattle.fizz_task.specs.Stored.{runnable_in}
use Rattle.fizz_task.proofs.Keeping.{sound_same}
use Rattle.fizz_task.proofs.Single.{fits_woken, some_waits, sound_woken, view_woken, waits_inside, woken_is}
use Rattle.fizz_task.proofs.Views.{board_same}
use Rattle.fizz_task.proofs.columns.Columns.wake.Goals as goal

pub push_back_reserved-requires : goal.push_back_reserved-requires
push_back_reserved-requires g c =
    let states : List (State g.row.W.Denot) = c.self.inside.states.items in
    let waits : waits_for c.args.name.now (state_at states c.args.task) ≡ true =
    subst (λ (b : Board g.row.W.Denot). waits_for c.args.name.now (state_at b.states c.args.task) ≡ true) (sym c.self.view_is) c.requires in
    let some : 1 ≤ c.self.inside.waiting =
    some_waits states c.args.task _ _ _ _ c.self.invariant.1 (waits_inside _ states c.args.task waits) (woken_is _ _ waits) in
    omega (
      arith,
      c.self.inside.queue.ok.0,
      (fits_woken _ states _ _ _ _ _ _ _ _ _
          (record { kept = c.self.invariant.0; counts = c.self.invariant.1; room = c.self.invariant.2 }) some).0,
    )

pub overflow_sub-self : goal.overflow_sub-self
overflow_sub-self g c =
    let states : List (State g.row.W.Denot) = c.self.inside.states.items in
    let waits : waits_for c.args.name.now (state_at states c.args.task) ≡ true =
    subst (λ (b : Board g.row.W.Denot). waits_for c.args.name.now (state_at b.states c.args.task) ≡ true) (sym c.self.view_is) c.requires in
    some_waits states c.args.task _ _ _ _ c.self.invariant.1 (waits_inside _ states c.args.task waits) (woken_is _ _ waits)

pub overflow_add-self : goal.overflow_add-self
overflow_add-self g c =
    let states : List (State g.row.W.Denot) = c.self.inside.states.items in
    let waits : waits_for c.args.name.now (state_at states c.args.task) ≡ true =
    subst (λ (b : Board g.row.W.Denot). waits_for c.args.name.now (state_at b.states c.args.task) ≡ true) (sym c.self.view_is) c.requires in
    let some : 1 ≤ c.self.inside.waiting =
    some_waits states c.args.task _ _ _ _ c.self.invariant.1 (waits_inside _ states c.args.task waits) (woken_is _ _ waits) in
    let fits : c.self.inside.runnable + 1 < 4294967296 = (fits_woken _ states _ _ _ _ _ _ _ _ _
    (record { kept = c.self.invariant.0; counts = c.self.invariant.1; room = c.self.invariant.2 }) some).1 in
    omega (arith, fits)

pub invariant_of-self : goal.invariant_of-self
invariant_of-self g c =
    let states : List (State g.row.W.Denot) = c.self.inside.states.items in
    let waits : waits_for c.args.name.now (state_at states c.args.task) ≡ true =
    subst (λ (b : Board g.row.W.Denot). waits_for c.args.name.now (state_at b.states c.args.task) ≡ true) (sym c.self.view_is) c.requires in
    let inside : c.args.task < length states = waits_inside _ states c.args.task waits in
    let read : c.index_mut.result.now ≡ state_at states c.args.task =
    get_or_read states c.args.task c.index_mut.result.now inside c.index_mut.ensures.value Gone in
    sound_same _ _ _ _ _ _ _ _ _ _ _ _ _ _ _ _ _
    (sound_woken c.self.inside.owners.items states c.self.inside.queue.items c.self.inside.claims c.self.inside.spare _ _ _ _ _ _ c.args.task
    (woken c.args.name.now (state_at states c.args.task))
    (record { kept = c.self.invariant.0; counts = c.self.invariant.1; room = c.self.invariant.2 }) inside (woken_is _ _ waits))
    refl (ap (slice_set states c.args.task) (c.wake.ensures ∙ ap (woken c.args.name.now) read)) c.push_back_reserved.ensures.items refl refl
    c.push_back_reserved.ensures.capacity

pub returns : goal.returns
returns g c =
    let states : List (State g.row.W.Denot) = c.self.inside.states.items in
    let waits : waits_for c.args.name.now (state_at states c.args.task) ≡ true =
    subst (λ (b : Board g.row.W.Denot). waits_for c.args.name.now (state_at b.states c.args.task) ≡ true) (sym c.self.view_is) c.requires in
    let inside : c.args.task < length states = waits_inside _ states c.args.task waits in
    let read : c.index_mut.result.now ≡ state_at states c.args.task =
    get_or_read states c.args.task c.index_mut.result.now inside c.index_mut.ensures.value Gone in
    let new : c.wake.new.state ≡ woken c.args.name.now (state_at states c.args.task) = c.wake.ensures ∙ ap (woken c.args.name.now) read in
    board_same _ _ _ _ _ _ c.self.inside.claims c.self.inside.spare refl (ap (slice_set states c.args.task) new)
    (ap (λ (s : State g.row.W.Denot). runnable_in (slice_set states c.args.task s) c.push_back_reserved.new.self.items) new
    ∙ ap (runnable_in (slice_set states c.args.task (woken c.args.name.now (state_at states c.args.task)))) c.push_back_reserved.ensures.items
    ∙ view_woken states c.self.inside.queue.items c.args.task _ c.self.invariant.0.queued inside (woken_is _ _ waits))
    ∙ ap (woken_one c.args.name.now c.args.task) c.self.view_is
