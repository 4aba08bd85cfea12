use Rattle.std.proofs.Common.{sym, ap, ◌∙◌}
use Rattle.dom_forest.specs.Chain.{end_set}
use Rattle.dom_forest.proofs.Chains.{taken_is, taken_some, take_whole}
use Rattle.dom_forest.proofs.chain.take.Goals as goal

pub returns-in_default-clause-chain : goal.returns-in_default-clause-chain
returns-in_default-clause-chain c = λ before after e chain same.
    let old = c.args.chain.now in
    absurd (taken_some old.slots.items old.first old.last before after e c.args.id chain same (sym c.take_slot.ensures.slot ∙ c.in_default.is))

pub returns-in_default-clause-slot : goal.returns-in_default-clause-slot
returns-in_default-clause-slot c = λ before after e chain same.
    let old = c.args.chain.now in
    absurd (taken_some old.slots.items old.first old.last before after e c.args.id chain same (sym c.take_slot.ensures.slot ∙ c.in_default.is))

pub returns-clause-chain : goal.returns-clause-chain
returns-clause-chain c = λ before after e chain same.
    let old = c.args.chain.now in
    let slot = c.in-Some.slot in
    take_whole old.slots.items c.take_slot.new.slots.items c.set_next.new.chain.slots.items c.set_previous.new.chain.slots.items
    old.first old.last c.set_previous.new.chain.first c.set_previous.new.chain.last before after e c.args.id slot chain same (sym c.in-Some.is ∙ c.take_slot.ensures.slot)
    c.take_slot.ensures.slots c.set_next.ensures.slots c.set_previous.ensures.slots
    (c.set_previous.ensures.len ∙ c.set_next.ensures.len ∙ c.take_slot.ensures.len)
    (c.set_previous.ensures.first ∙ c.set_next.ensures.first)
    (c.set_previous.ensures.last ∙ ap (λ o. end_set slot.next slot.previous o) c.set_next.ensures.last)

pub returns-clause-slot : goal.returns-clause-slot
returns-clause-slot c = λ before after e chain same.
    let old = c.args.chain.now in
    sym c.in-Some.is ∙ c.take_slot.ensures.slot ∙ taken_is old.slots.items old.first old.last before after e c.args.id chain same
