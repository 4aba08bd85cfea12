use Rattle.std.proofs.Common.{ℕ, Option, subst}
use Rattle.fizz_task.specs.Indexed.{HasList}
use Rattle.fizz_task.proofs.Guides.{can_move}
use Rattle.fizz_task.proofs.places.move_to.Goals as goal

pub push-requires : goal.push-requires
push-requires c =
    can_move c.args.lists.now c.remove.new.self c.args.id c.in-Some.list c.remove.ensures.removed c.requires.made
    (subst (λ (list : Option ℕ). HasList list c.args.lists.now.lists) c.in-Some.is c.requires.there)
