use Rattle.std.proofs.Common.{◌∷◌, ◌+◌, length, None, refl, sym, ap, ◌∙◌, subst, arith}
use Rattle.std.specs.List.{prefix_len}
use Rattle.std.proofs.lemmas.List.{drop_all, length-append}
use Rattle.dom_forest.specs.Chain.{entries_of, entry_in, head_id, rest_from, up_to}
use Rattle.dom_forest.specs.Flat.{IsEndOfKids, IsThereOrTop, forest_of}
use Rattle.dom_forest.specs.Runs.{below_at}
use Rattle.dom_forest.proofs.Held.{end_place}
use Rattle.dom_forest.proofs.Located.{known, none_there}
use Rattle.dom_forest.proofs.edits.end_of_kids.Goals as goal

pub returns-in_default-clause-end : goal.returns-in_default-clause-end
returns-in_default-clause-end c =
    let es = entries_of c.args.chain.now in
    (length es, subst (λ o. IsEndOfKids es o (length es) 0) (sym c.in_default.is) (refl, refl), sym (ap (λ l. head_id l None) (drop_all (length es) es (omega arith))))

pub returns-in_default-slot_of-clause-end : goal.returns-in_default-slot_of-clause-end
returns-in_default-slot_of-clause-end c =
    let es = entries_of c.args.chain.now in
    absurd (omega (arith, subst (λ o. IsThereOrTop o (forest_of es)) c.in-Some.is c.requires.there, none_there c.in-Some.parent.0 es (length c.args.chain.now.slots.items) c.requires.held.document c.in_default-slot_of.ensures.absent))

pub returns-in_default-slot_of-clause-spine : goal.returns-in_default-slot_of-clause-spine
returns-in_default-slot_of-clause-spine c =
    let es = entries_of c.args.chain.now in
    absurd (omega (arith, subst (λ o. IsThereOrTop o (forest_of es)) c.in-Some.is c.requires.there, none_there c.in-Some.parent.0 es (length c.args.chain.now.slots.items) c.requires.held.document c.in_default-slot_of.ensures.absent))

pub overflow_add-result : goal.overflow_add-result
overflow_add-result c =
    let chain = c.args.chain.now in
    let es = entries_of chain in
    let next = length chain.slots.items in
    let slot = c.in-Some-slot_of.slot.now in
    let found = c.in-Some-slot_of.ensures.found in
    let front = up_to slot.previous es in
    let rest = rest_from slot.next es in
    let x = known es front rest (entry_in c.in-Some.parent.0 slot) c.in-Some.parent.0 next c.requires.held.document found.whole refl in
    omega (arith, x.deep, ap length found.whole, length-append front (entry_in c.in-Some.parent.0 slot ∷ rest), c.requires.held.links.within, chain.slots.small, chain.slots.ok.0, chain.slots.ok.1)

pub returns-clause-end : goal.returns-clause-end
returns-clause-end c =
    let chain = c.args.chain.now in
    let es = entries_of chain in
    let next = length chain.slots.items in
    let slot = c.in-Some-slot_of.slot.now in
    let found = c.in-Some-slot_of.ensures.found in
    let front = up_to slot.previous es in
    let rest = rest_from slot.next es in
    let count = prefix_len (below_at slot.depth) rest in
    let place = length front + 1 + count in (
      place,
      subst (λ o. IsEndOfKids es o place (slot.depth + 1)) (sym c.in-Some.is) (
        length front,
        slot.depth,
        record { front = front; entry = entry_in c.in-Some.parent.0 slot; after = rest; whole = found.whole; same = refl; place = refl; level = refl; past = refl },
        refl,
      ),
      c.end_below-end.ensures.end ∙ ap (λ l. head_id l None) (sym (end_place es front rest (entry_in c.in-Some.parent.0 slot) count found.whole)),
    )
