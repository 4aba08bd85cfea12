use Rattle.std.proofs.Common.{ℕ, Option, ap, ◌∙◌}
use Rattle.fizz_task.specs.Indexed.{moved, name_places, owner_places}
use Rattle.fizz_task.proofs.Guides.{added_indexed, placed_indexed}
use Rattle.fizz_task.proofs.indexing.place.Goals as goal

pub returns-clause-owners : goal.returns-clause-owners
returns-clause-owners g c =
    c.move_to.ensures.moved
    ∙ ap (λ (list : Option ℕ). record c.args.by_owner.now { lists = moved list c.args.task c.args.by_owner.now.lists })
    (c.owner_place.ensures ∙ ap (λ n. owner_places c.args.columns.now n c.args.task) c.list_count.ensures.count)

pub returns-clause-names : goal.returns-clause-names
returns-clause-names g c =
    c.move_to-2.ensures.moved
    ∙ ap (λ (list : Option ℕ). record c.args.by_name.now { lists = moved list c.args.task c.args.by_name.now.lists })
    (c.name_place.ensures ∙ ap (λ n. name_places c.args.columns.now n c.args.task) c.list_count-2.ensures.count)

pub returns-clause-indexed : goal.returns-clause-indexed
returns-clause-indexed g c old differs indexed =
    placed_indexed old c.args.columns.now c.args.task c.args.by_owner.now c.move_to.new.lists c.args.by_name.now c.move_to-2.new.lists
    c.requires.made differs indexed (returns-clause-owners g c) c.move_to.ensures.lists (returns-clause-names g c) c.move_to-2.ensures.lists

pub returns-clause-added : goal.returns-clause-added
returns-clause-added g c old last added owners guided =
    added_indexed old c.args.columns.now c.args.task c.args.by_owner.now c.move_to.new.lists c.args.by_name.now c.move_to-2.new.lists
    last added c.requires.owners c.requires.names owners guided (returns-clause-owners g c) c.move_to.ensures.lists (returns-clause-names g c) c.move_to-2.ensures.lists
