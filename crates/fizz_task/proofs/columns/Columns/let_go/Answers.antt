use Rattle.std.proofs.Common.{◌≡◌, ◌<◌, List, length, slice_set, refl, sym, ap, ◌∙◌, subst, arith}
use Rattle.std.proofs.lemmas.List.{get_or_read}
use Rattle.fizz_task.specs.declared.state.State.{State}
use Rattle.fizz_task.specs.declared.state.State.TheVariants.{Gone}
use Rattle.fizz_task.specs.Board.{Board, is_claimed, is_runnable, is_waiting, one, state_at}
use Rattle.fizz_task.specs.Calls.{let_go}
use Rattle.fizz_task.specs.Stored.{runnable_in}
use Rattle.fizz_task.proofs.Keeping.{sound_same}
use Rattle.fizz_task.proofs.Single.{fits_gone, sound_gone, view_gone}
use Rattle.fizz_task.proofs.Views.{board_kept, board_same}
use Rattle.fizz_task.proofs.columns.Columns.let_go.Goals as goal

pub overflow_sub-self : goal.overflow_sub-self
overflow_sub-self g c =
    let inside : c.args.task < length c.self.inside.states.items = subst (λ (b : Board g.row.W.Denot). c.args.task < length b.states) (sym c.self.view_is) c.requires in
    let read : c.index_mut.result.now ≡ state_at c.self.inside.states.items c.args.task =
    get_or_read c.self.inside.states.items c.args.task c.index_mut.result.now inside c.index_mut.ensures.value Gone in
    omega (
      arith,
      c.drop_one-gone.ensures.runnable ∙ ap (λ (s : State g.row.W.Denot). one (is_runnable s)) read,
      (fits_gone c.self.inside.states.items c.args.task _ _ _ c.self.invariant.1 inside).0,
    )

pub overflow_sub-self-2 : goal.overflow_sub-self-2
overflow_sub-self-2 g c =
    let inside : c.args.task < length c.self.inside.states.items = subst (λ (b : Board g.row.W.Denot). c.args.task < length b.states) (sym c.self.view_is) c.requires in
    let read : c.index_mut.result.now ≡ state_at c.self.inside.states.items c.args.task =
    get_or_read c.self.inside.states.items c.args.task c.index_mut.result.now inside c.index_mut.ensures.value Gone in
    omega (
      arith,
      c.drop_one-gone.ensures.claimed ∙ ap (λ (s : State g.row.W.Denot). one (is_claimed s)) read,
      (fits_gone c.self.inside.states.items c.args.task _ _ _ c.self.invariant.1 inside).1,
    )

pub overflow_sub-self-3 : goal.overflow_sub-self-3
overflow_sub-self-3 g c =
    let inside : c.args.task < length c.self.inside.states.items = subst (λ (b : Board g.row.W.Denot). c.args.task < length b.states) (sym c.self.view_is) c.requires in
    let read : c.index_mut.result.now ≡ state_at c.self.inside.states.items c.args.task =
    get_or_read c.self.inside.states.items c.args.task c.index_mut.result.now inside c.index_mut.ensures.value Gone in
    omega (
      arith,
      c.drop_one-gone.ensures.waiting ∙ ap (λ (s : State g.row.W.Denot). one (is_waiting s)) read,
      (fits_gone c.self.inside.states.items c.args.task _ _ _ c.self.invariant.1 inside).2,
    )

pub invariant_of-self : goal.invariant_of-self
invariant_of-self g c =
    let states : List (State g.row.W.Denot) = c.self.inside.states.items in
    let inside : c.args.task < length states = subst (λ (b : Board g.row.W.Denot). c.args.task < length b.states) (sym c.self.view_is) c.requires in
    let read : c.index_mut.result.now ≡ state_at states c.args.task =
    get_or_read states c.args.task c.index_mut.result.now inside c.index_mut.ensures.value Gone in
    sound_same _ _ _ _ _ _ _ _ _ _ _ _ _ _ _ _ _
    (sound_gone c.self.inside.owners.items states c.self.inside.queue.items c.self.inside.claims c.self.inside.spare _ _ _ _ _ _ c.args.task
    c.drop_one-gone.result.runnable c.drop_one-gone.result.claimed c.drop_one-gone.result.waiting
    (record { kept = c.self.invariant.0; counts = c.self.invariant.1; room = c.self.invariant.2 }) inside
    (c.drop_one-gone.ensures.runnable ∙ ap (λ (s : State g.row.W.Denot). one (is_runnable s)) read)
    (c.drop_one-gone.ensures.claimed ∙ ap (λ (s : State g.row.W.Denot). one (is_claimed s)) read)
    (c.drop_one-gone.ensures.waiting ∙ ap (λ (s : State g.row.W.Denot). one (is_waiting s)) read))
    refl (ap (slice_set states c.args.task) c.drop_one-gone.ensures.gone) refl refl refl refl

pub returns-clause-gone : goal.returns-clause-gone
returns-clause-gone g c =
    let states : List (State g.row.W.Denot) = c.self.inside.states.items in
    let inside : c.args.task < length states = subst (λ (b : Board g.row.W.Denot). c.args.task < length b.states) (sym c.self.view_is) c.requires in
    board_same _ _ _ _ _ _ c.self.inside.claims c.self.inside.spare refl (ap (slice_set states c.args.task) c.drop_one-gone.ensures.gone)
    (ap (λ (s : State g.row.W.Denot). runnable_in (slice_set states c.args.task s) c.self.inside.queue.items) c.drop_one-gone.ensures.gone
    ∙ view_gone states c.self.inside.queue.items c.args.task inside)
    ∙ ap (let_go c.args.task) c.self.view_is

pub returns-clause-board : goal.returns-clause-board
returns-clause-board g c = board_kept _ _ _ _ _ (invariant_of-self g c).0
