use Rattle.std.proofs.Common.{◌<◌, ℕ, Option, Some, length, sym, ◌∙◌, subst, arith}
use Rattle.id_lists.specs.Lists.{list_at}
use Rattle.fizz_task.specs.Indexed.{IsDropping, rest}
use Rattle.fizz_task.proofs.Owned.{dropping_done, dropping_first, dropping_gone, dropping_inside, dropping_kept, let_go_differs}
use Rattle.fizz_task.proofs.indexing.drop_all.Goals as goal

pub loop-next-init : goal.loop-next-init
loop-next-init g c =
    subst (λ (o : Option ℕ). IsDropping c.args.owner c.args.list c.args.columns.now c.args.columns.now c.args.by_owner.now c.args.by_name.now o)
    (sym c.first-next.ensures)
    (dropping_first c.args.owner c.args.list c.args.columns.now c.args.by_owner.now c.args.by_name.now c.requires.indexed c.requires.board c.requires.list)

pub let_go-requires : goal.let_go-requires
let_go-requires g c =
    dropping_inside c.args.owner c.args.list c.args.columns.now c.loop-next.columns c.loop-next.by_owner c.loop-next.by_name c.in-Some.task
    (subst (λ (o : Option ℕ). IsDropping c.args.owner c.args.list c.args.columns.now c.loop-next.columns c.loop-next.by_owner c.loop-next.by_name o)
    c.in-Some.is c.loop-next.invariant)

pub place-requires-clause-made : goal.place-requires-clause-made
place-requires-clause-made g c =
    let inside : c.in-Some.task < length c.loop-next.columns.states =
    dropping_inside c.args.owner c.args.list c.args.columns.now c.loop-next.columns c.loop-next.by_owner c.loop-next.by_name c.in-Some.task
    (subst (λ (o : Option ℕ). IsDropping c.args.owner c.args.list c.args.columns.now c.loop-next.columns c.loop-next.by_owner c.loop-next.by_name o)
    c.in-Some.is c.loop-next.invariant) in
    omega (arith, inside, (let_go_differs c.in-Some.task c.loop-next.columns c.let_go.new.self c.let_go.ensures.gone).made)

pub loop-next-smaller-then-is_owned : goal.loop-next-smaller-then-is_owned
loop-next-smaller-then-is_owned g c =
    let now : IsDropping c.args.owner c.args.list c.args.columns.now c.loop-next.columns c.loop-next.by_owner c.loop-next.by_name (Some c.in-Some.task) =
    subst (λ (o : Option ℕ). IsDropping c.args.owner c.args.list c.args.columns.now c.loop-next.columns c.loop-next.by_owner c.loop-next.by_name o)
    c.in-Some.is c.loop-next.invariant in
    subst (λ (o : Option ℕ). length (rest c.next-next.result (list_at c.place.new.by_owner.lists c.args.list)) < length (rest o (list_at c.loop-next.by_owner.lists c.args.list)))
    (sym c.in-Some.is)
    (dropping_gone c.args.owner c.args.list c.args.columns.now c.loop-next.columns c.loop-next.by_owner c.loop-next.by_name c.in-Some.task now
    c.let_go.new.self c.place.new.by_owner c.place.new.by_name c.next-next.result c.next-next.ensures (sym c.is_owned.ensures ∙ c.if-is_owned.true)
    c.let_go.ensures.gone c.let_go.ensures.board
    (c.place.ensures.indexed c.loop-next.columns (let_go_differs c.in-Some.task c.loop-next.columns c.let_go.new.self c.let_go.ensures.gone) now.indexed)
    c.place.ensures.owners).1

pub loop-next-preserved-then-is_owned : goal.loop-next-preserved-then-is_owned
loop-next-preserved-then-is_owned g c =
    let now : IsDropping c.args.owner c.args.list c.args.columns.now c.loop-next.columns c.loop-next.by_owner c.loop-next.by_name (Some c.in-Some.task) =
    subst (λ (o : Option ℕ). IsDropping c.args.owner c.args.list c.args.columns.now c.loop-next.columns c.loop-next.by_owner c.loop-next.by_name o)
    c.in-Some.is c.loop-next.invariant in
    (dropping_gone c.args.owner c.args.list c.args.columns.now c.loop-next.columns c.loop-next.by_owner c.loop-next.by_name c.in-Some.task now
    c.let_go.new.self c.place.new.by_owner c.place.new.by_name c.next-next.result c.next-next.ensures (sym c.is_owned.ensures ∙ c.if-is_owned.true)
    c.let_go.ensures.gone c.let_go.ensures.board
    (c.place.ensures.indexed c.loop-next.columns (let_go_differs c.in-Some.task c.loop-next.columns c.let_go.new.self c.let_go.ensures.gone) now.indexed)
    c.place.ensures.owners).0

pub loop-next-smaller : goal.loop-next-smaller
loop-next-smaller g c =
    let now : IsDropping c.args.owner c.args.list c.args.columns.now c.loop-next.columns c.loop-next.by_owner c.loop-next.by_name (Some c.in-Some.task) =
    subst (λ (o : Option ℕ). IsDropping c.args.owner c.args.list c.args.columns.now c.loop-next.columns c.loop-next.by_owner c.loop-next.by_name o)
    c.in-Some.is c.loop-next.invariant in
    subst (λ (o : Option ℕ). length (rest c.next-next.result (list_at c.loop-next.by_owner.lists c.args.list)) < length (rest o (list_at c.loop-next.by_owner.lists c.args.list)))
    (sym c.in-Some.is)
    (dropping_kept c.args.owner c.args.list c.args.columns.now c.loop-next.columns c.loop-next.by_owner c.loop-next.by_name c.in-Some.task now
    c.next-next.result c.next-next.ensures (sym c.is_owned.ensures ∙ c.if-is_owned.false)).1

pub loop-next-preserved : goal.loop-next-preserved
loop-next-preserved g c =
    let now : IsDropping c.args.owner c.args.list c.args.columns.now c.loop-next.columns c.loop-next.by_owner c.loop-next.by_name (Some c.in-Some.task) =
    subst (λ (o : Option ℕ). IsDropping c.args.owner c.args.list c.args.columns.now c.loop-next.columns c.loop-next.by_owner c.loop-next.by_name o)
    c.in-Some.is c.loop-next.invariant in
    (dropping_kept c.args.owner c.args.list c.args.columns.now c.loop-next.columns c.loop-next.by_owner c.loop-next.by_name c.in-Some.task now
    c.next-next.result c.next-next.ensures (sym c.is_owned.ensures ∙ c.if-is_owned.false)).0

pub returns-clause-dropped : goal.returns-clause-dropped
returns-clause-dropped g c =
    dropping_done c.args.owner c.args.list c.args.columns.now c.loop-next.columns c.loop-next.by_owner c.loop-next.by_name
    (subst (λ (o : Option ℕ). IsDropping c.args.owner c.args.list c.args.columns.now c.loop-next.columns c.loop-next.by_owner c.loop-next.by_name o)
    c.in_default.is c.loop-next.invariant)
