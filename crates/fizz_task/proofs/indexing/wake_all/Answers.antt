use Rattle.std.proofs.Common.{◌∷◌, ◌+◌, ℕ, List, drop, get_or, subst}
use Rattle.std.proofs.lemmas.List.{drop_all, drop_more}
use Rattle.fizz_task.specs.Indexed.{IsWaking}
use Rattle.fizz_task.proofs.Waking.{waking_differs, waking_done, waking_first, waking_more}
use Rattle.fizz_task.proofs.indexing.wake_all.Goals as goal

pub loop-task-init : goal.loop-task-init
loop-task-init g c =
    waking_first c.args.name.now c.args.columns.now c.args.by_owner.now c.args.by_name.now c.args.tasks.now c.requires.indexed c.requires.waiting

pub loop-task-preserved : goal.loop-task-preserved
loop-task-preserved g c =
    let task : ℕ = get_or c.args.tasks.now c.loop-task.task-index 0 in
    let later : List ℕ = drop (c.loop-task.task-index + 1) c.args.tasks.now in
    let w : IsWaking c.args.name.now c.args.columns.now c.loop-task.columns c.loop-task.by_owner c.loop-task.by_name (task ∷ later) c.args.tasks.now =
    subst (λ (l : List ℕ). IsWaking c.args.name.now c.args.columns.now c.loop-task.columns c.loop-task.by_owner c.loop-task.by_name l c.args.tasks.now)
    (drop_more c.args.tasks.now c.loop-task.task-index 0 c.loop-task-test.true) c.loop-task.invariant in
    waking_more c.args.name.now c.args.columns.now c.loop-task.columns c.loop-task.by_owner c.loop-task.by_name task later c.args.tasks.now w
    c.wake.new.self c.place.new.by_owner c.place.new.by_name c.wake.ensures
    (c.place.ensures.indexed c.loop-task.columns
    (waking_differs c.args.name.now c.args.columns.now c.loop-task.columns c.loop-task.by_owner c.loop-task.by_name task later c.args.tasks.now w
    c.wake.new.self c.wake.ensures) w.indexed)

pub returns-clause-woken : goal.returns-clause-woken
returns-clause-woken g c =
    waking_done c.args.name.now c.args.columns.now c.loop-task.columns c.loop-task.by_owner c.loop-task.by_name c.args.tasks.now
    (subst (λ (l : List ℕ). IsWaking c.args.name.now c.args.columns.now c.loop-task.columns c.loop-task.by_owner c.loop-task.by_name l c.args.tasks.now)
    (drop_all c.loop-task.task-index c.args.tasks.now c.loop-task-test.false) c.loop-task.invariant)
    c.requires.waiting
