use Rattle.std.proofs.Common.{◌<◌, ◌∷◌, ◌++◌, [], cond, ℕ, Bool, Option, Some, length, ap, sym, ◌∙◌, subst, arith}
use Rattle.std.specs.Vec.{vec_capacity}
use Rattle.id_lists.specs.Lists.{list_at}
use Rattle.fizz_task.specs.Board.{state_at, waits_for}
use Rattle.fizz_task.specs.Indexed.{IsFinding, rest}
use Rattle.fizz_task.proofs.Waking.{finding_fits, finding_more}
use Rattle.fizz_task.proofs.indexing.find_waiting.Goals as goal

pub push_if-requires : goal.push_if-requires
push_if-requires g c wanted =
    let test : ℕ → Bool = λ n. waits_for c.args.name.now (state_at c.args.columns.now.states n) in
    let f : IsFinding test (list_at c.args.by_name.now.lists c.args.list) c.loop-next.found.items (Some c.in-Some.task) =
    subst (λ (o : Option ℕ). IsFinding test (list_at c.args.by_name.now.lists c.args.list) c.loop-next.found.items o) c.in-Some.is c.loop-next.invariant.0 in
    finding_fits test c.args.by_name.now c.args.list c.loop-next.found.items c.in-Some.task c.requires.lists f (vec_capacity c.loop-next.found)
    (sym c.waits_for.ensures ∙ wanted) (omega (arith, c.requires.room, c.loop-next.invariant.1))

pub loop-next-smaller : goal.loop-next-smaller
loop-next-smaller g c =
    let test : ℕ → Bool = λ n. waits_for c.args.name.now (state_at c.args.columns.now.states n) in
    let f : IsFinding test (list_at c.args.by_name.now.lists c.args.list) c.loop-next.found.items (Some c.in-Some.task) =
    subst (λ (o : Option ℕ). IsFinding test (list_at c.args.by_name.now.lists c.args.list) c.loop-next.found.items o) c.in-Some.is c.loop-next.invariant.0 in
    subst (λ (o : Option ℕ). length (rest c.next-next.result (list_at c.args.by_name.now.lists c.args.list)) < length (rest o (list_at c.args.by_name.now.lists c.args.list)))
    (sym c.in-Some.is)
    (finding_more test c.args.by_name.now c.args.list c.loop-next.found.items c.in-Some.task c.requires.lists f c.push_if.new.found.items
    c.next-next.result c.next-next.ensures
    (c.push_if.ensures.items ∙ ap (λ (b : Bool). c.loop-next.found.items ++ cond b (c.in-Some.task ∷ []) []) c.waits_for.ensures)).1

pub loop-next-preserved : goal.loop-next-preserved
loop-next-preserved g c =
    let test : ℕ → Bool = λ n. waits_for c.args.name.now (state_at c.args.columns.now.states n) in
    let f : IsFinding test (list_at c.args.by_name.now.lists c.args.list) c.loop-next.found.items (Some c.in-Some.task) =
    subst (λ (o : Option ℕ). IsFinding test (list_at c.args.by_name.now.lists c.args.list) c.loop-next.found.items o) c.in-Some.is c.loop-next.invariant.0 in (
      (finding_more test c.args.by_name.now c.args.list c.loop-next.found.items c.in-Some.task c.requires.lists f c.push_if.new.found.items
          c.next-next.result c.next-next.ensures
          (c.push_if.ensures.items ∙ ap (λ (b : Bool). c.loop-next.found.items ++ cond b (c.in-Some.task ∷ []) []) c.waits_for.ensures)).0,
      c.push_if.ensures.room ∙ c.loop-next.invariant.1,
    )
