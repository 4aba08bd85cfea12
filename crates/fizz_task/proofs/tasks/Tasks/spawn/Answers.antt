use Rattle.std.proofs.Common.{◌<◌, length, sym, subst, arith}
use Rattle.id_lists.specs.Lists.{Lists}
use Rattle.fizz_task.specs.Board.{Board}
use Rattle.fizz_task.specs.Indexed.{IsAdded, IsGuide, name_places, owner_places}
use Rattle.fizz_task.proofs.Guides.{spawned_added}
use Rattle.fizz_task.proofs.tasks.Tasks.spawn.Goals as goal

pub invariant_of-self : goal.invariant_of-self
invariant_of-self g c =
    let old : Board g.row.W.Denot = c.self.inside.columns in
    let added : IsAdded old c.spawn-task.new.self =
    spawned_added c.args.owner c.args.payload c.args.waits old c.spawn-task.new.self c.spawn-task.ensures.spawned
    (subst (λ (b : Board g.row.W.Denot). 0 < b.spare) (sym c.self.view_is) c.requires) c.spawn-task.ensures.owned in (
      c.place.ensures.added old c.spawn-task.ensures.number added
          (subst (λ (all : Lists). IsGuide (length old.states) (owner_places old (length all.lists)) all.lists) (sym c.add_id.ensures.added)
          c.self.invariant.0.owners)
          (subst (λ (all : Lists). IsGuide (length old.states) (name_places old (length all.lists)) all.lists) (sym c.add_id-2.ensures.added)
          c.self.invariant.0.names),
      omega (arith, added.made, added.spare, c.self.invariant.1),
    )
