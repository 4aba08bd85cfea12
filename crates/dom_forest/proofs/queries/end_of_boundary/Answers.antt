use Rattle.std.proofs.Common.{length, refl, sym, ap, ◌∙◌}
use Rattle.dom_forest.specs.Boundary.{closing_mark}
use Rattle.dom_forest.specs.Chain.{entries_of, entry_in, rest_from, up_to}
use Rattle.dom_forest.specs.Flat.{forest_of}
use Rattle.dom_forest.specs.Forest.{first_later}
use Rattle.dom_forest.proofs.Focus.{absent}
use Rattle.dom_forest.proofs.Located.{known, none_there, closing_id}
use Rattle.dom_forest.proofs.queries.end_of_boundary.Goals as goal

pub returns-in-Some : goal.returns-in-Some
returns-in-Some c =
    let es = entries_of c.args.chain.now in
    let slot = c.in-Some.slot.now in
    let e = entry_in c.args.id slot in
    let x = known es (up_to slot.previous es) (rest_from slot.next es) e c.args.id (length c.args.chain.now.slots.items) c.requires.document c.in-Some.ensures.found.whole refl in
    c.closing_after.ensures ∙ closing_id (up_to slot.previous es) e (rest_from slot.next es) c.args.id (forest_of es) x

pub returns-in-None : goal.returns-in-None
returns-in-None c =
    let es = entries_of c.args.chain.now in
    let x = absent c.args.id (forest_of es) (none_there c.args.id es (length c.args.chain.now.slots.items) c.requires.document c.in-None.ensures.absent) in
    sym (ap (λ f. closing_mark (first_later f) 0) x.from_is)
