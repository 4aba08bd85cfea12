use Rattle.std.proofs.Common.{◌∷◌, length, ap, refl, arith}
use Rattle.std.proofs.lemmas.List.{length-append}
use Rattle.std.proofs.lemmas.List.Sums.{prefix_len-le-length}
use Rattle.dom_forest.specs.Chain.{entries_of, entry_in, rest_from, up_to}
use Rattle.dom_forest.specs.Flat.{forest_of}
use Rattle.dom_forest.specs.Runs.{below_at}
use Rattle.dom_forest.proofs.Located.{known, none_there}
use Rattle.dom_forest.proofs.There.{there_from_found}
use Rattle.dom_forest.proofs.edits.part_at.Goals as goal

pub overflow_add-result : goal.overflow_add-result
overflow_add-result c =
    let chain = c.args.chain.now in
    let es = entries_of chain in
    let next = length chain.slots.items in
    let slot = c.in-Some.slot.now in
    let found = c.in-Some.ensures.found in
    let front = up_to slot.previous es in
    let rest = rest_from slot.next es in
    omega (arith, c.passed.ensures.count, prefix_len-le-length (below_at slot.depth) rest, ap length found.whole, length-append front (entry_in c.args.id slot ∷ rest), c.requires.links.within, chain.slots.small, chain.slots.ok.0, chain.slots.ok.1)

pub returns-in-Some-clause-part : goal.returns-in-Some-clause-part
returns-in-Some-clause-part c =
    let chain = c.args.chain.now in
    let es = entries_of chain in
    let next = length chain.slots.items in
    let slot = c.in-Some.slot.now in
    let found = c.in-Some.ensures.found in
    let front = up_to slot.previous es in
    let rest = rest_from slot.next es in (
      length front,
      record {
        front = front;
        entry = entry_in c.args.id slot;
        after = rest;
        whole = found.whole;
        same = refl;
        place = refl;
        level = refl;
        past = omega (arith, c.passed.ensures.count);
      },
    )

pub returns-in-Some-clause-small : goal.returns-in-Some-clause-small
returns-in-Some-clause-small c =
    let chain = c.args.chain.now in
    let es = entries_of chain in
    let next = length chain.slots.items in
    let slot = c.in-Some.slot.now in
    let found = c.in-Some.ensures.found in
    let front = up_to slot.previous es in
    let rest = rest_from slot.next es in
    omega (arith, c.passed.ensures.count, prefix_len-le-length (below_at slot.depth) rest, ap length found.whole, length-append front (entry_in c.args.id slot ∷ rest), c.requires.links.within, chain.slots.ok.0)

pub returns-in-Some-clause-there : goal.returns-in-Some-clause-there
returns-in-Some-clause-there c =
    let chain = c.args.chain.now in
    let es = entries_of chain in
    let next = length chain.slots.items in
    let slot = c.in-Some.slot.now in
    let found = c.in-Some.ensures.found in
    let front = up_to slot.previous es in
    let rest = rest_from slot.next es in
    let x = known es front rest (entry_in c.args.id slot) c.args.id next c.requires.document found.whole refl in
    there_from_found c.args.id (forest_of es) slot.node x.kids x.later x.found

pub returns-in-None-clause-absent : goal.returns-in-None-clause-absent
returns-in-None-clause-absent c =
    none_there c.args.id (entries_of c.args.chain.now) (length c.args.chain.now.slots.items) c.requires.document c.in-None.ensures.absent
