use Rattle.std.proofs.Common.{◌≡◌, ◌-◌, ◌<◌, [], ◌∷◌, ◌++◌, ℕ, List, Option, None, length, refl, sym, ap, ◌∙◌, subst, arith}
use Rattle.fizz_task.specs.declared.state.State.{State}
use Rattle.fizz_task.specs.declared.state.State.TheVariants.{Runnable}
use Rattle.fizz_task.specs.Board.{Board}
use Rattle.fizz_task.specs.Calls.{spawned}
use Rattle.fizz_task.specs.Stored.{runnable_in}
use Rattle.fizz_task.proofs.Lists.{counts_fit}
use Rattle.fizz_task.proofs.Keeping.{sound_same, sound_spawned, sound_waiting}
use Rattle.fizz_task.proofs.Views.{board_same, view_spawned}
use Rattle.fizz_task.proofs.columns.Columns.spawn.Goals as goal

pub overflow_add-self : goal.overflow_add-self
overflow_add-self g c =
    let some : 0 < c.self.inside.spare = subst (λ (b : Board g.row.W.Denot). 0 < b.spare) (sym c.self.view_is) c.requires in
    omega (arith, some, c.self.invariant.0.few, c.self.invariant.1.are_runnable, counts_fit c.self.inside.states.items)

pub invariant_of-self : goal.invariant_of-self
invariant_of-self g c =
    let some : 0 < c.self.inside.spare = subst (λ (b : Board g.row.W.Denot). 0 < b.spare) (sym c.self.view_is) c.requires in
    let task : c.len-task.result ≡ length c.self.inside.states.items = c.len-task.ensures ∙ c.self.inside.states.ok.0 in
    sound_same _ _ _ _ _ _ _ _ _ _ _ _ _ _ _ _ _
    (sound_spawned c.self.inside.owners.items c.self.inside.states.items c.self.inside.queue.items c.self.inside.claims c.self.inside.spare
    _ _ _ _ _ _ c.args.owner c.args.payload
    (record { kept = c.self.invariant.0; counts = c.self.invariant.1; room = c.self.invariant.2 }) some)
    c.push_reserved.ensures.items c.push_reserved-in-None.ensures.items
    (c.push_back_reserved.ensures.items ∙ ap (λ n. c.self.inside.queue.items ++ n ∷ []) task)
    c.push_reserved.ensures.capacity c.push_reserved-in-None.ensures.capacity c.push_back_reserved.ensures.capacity

pub invariant_of-self-in-Some : goal.invariant_of-self-in-Some
invariant_of-self-in-Some g c =
    let some : 0 < c.self.inside.spare = subst (λ (b : Board g.row.W.Denot). 0 < b.spare) (sym c.self.view_is) c.requires in
    sound_same _ _ _ _ _ _ _ _ _ _ _ _ _ _ _ _ _
    (sound_waiting c.self.inside.owners.items c.self.inside.states.items c.self.inside.queue.items c.self.inside.claims c.self.inside.spare
    _ _ _ _ _ _ c.args.owner c.in-Some.resource c.args.payload
    (record { kept = c.self.invariant.0; counts = c.self.invariant.1; room = c.self.invariant.2 }) some)
    c.push_reserved.ensures.items c.push_reserved-in-Some.ensures.items refl
    c.push_reserved.ensures.capacity c.push_reserved-in-Some.ensures.capacity refl

pub returns-in-None-clause-spawned : goal.returns-in-None-clause-spawned
returns-in-None-clause-spawned g c =
    let task : c.len-task.result ≡ length c.self.inside.states.items = c.len-task.ensures ∙ c.self.inside.states.ok.0 in
    let states : List (State g.row.W.Denot) = c.self.inside.states.items in
    let seen : runnable_in c.push_reserved-in-None.new.self.items c.push_back_reserved.new.self.items
    ≡ runnable_in states c.self.inside.queue.items ++ length states ∷ [] =
    ap (λ (ss : List (State g.row.W.Denot)). runnable_in ss c.push_back_reserved.new.self.items) c.push_reserved-in-None.ensures.items
    ∙ ap (runnable_in (states ++ Runnable c.args.payload ∷ []))
    (c.push_back_reserved.ensures.items ∙ ap (λ n. c.self.inside.queue.items ++ n ∷ []) task)
    ∙ view_spawned states c.self.inside.queue.items c.args.payload c.self.invariant.0.queued in
    board_same _ _ _ _ _ _ c.self.inside.claims (c.self.inside.spare - 1)
    c.push_reserved.ensures.items c.push_reserved-in-None.ensures.items seen
    ∙ ap (λ (b : Board g.row.W.Denot). spawned c.args.owner c.args.payload None b) c.self.view_is
    ∙ ap (λ (w : Option (List ℕ)). spawned c.args.owner c.args.payload w c.args.self.now) (sym c.in-None.is)

pub returns-in-None-clause-owned : goal.returns-in-None-clause-owned
returns-in-None-clause-owned g c =
    subst (λ (b : Board g.row.W.Denot). length b.owners ≡ length b.states) c.self.view_is c.self.invariant.0.owned

pub returns-in-Some-clause-owned : goal.returns-in-Some-clause-owned
returns-in-Some-clause-owned g c =
    subst (λ (b : Board g.row.W.Denot). length b.owners ≡ length b.states) c.self.view_is c.self.invariant.0.owned
