use Rattle.std.proofs.Common.{◌≡◌, Some, length, ap, ◌∙◌, arith}
use Rattle.std.proofs.lemmas.List.{length_push}
use Rattle.dom_forest.specs.Chain.{end_set, previous_at}
use Rattle.dom_forest.proofs.Chains.{previous_is, put_whole}
use Rattle.dom_forest.proofs.chain.put.Goals as goal

pub returns-clause-chain : goal.returns-clause-chain
returns-clause-chain c = λ before after chain next.
    let old = c.args.chain.now in
    let pushed = rw c.unwrap.ensures at c.push.ensures.items in
    let id_is : c.len-id.result ≡ length old.slots.items = omega (arith, c.len-id.ensures, old.slots.ok.0) in
    put_whole old.slots.items c.push.new.self.items c.set_next.new.chain.slots.items c.set_previous.new.chain.slots.items
    old.first old.last c.set_previous.new.chain.first c.set_previous.new.chain.last before after c.args.depth c.len-id.result c.args.node c.args.next c.previous_at-previous.result
    chain next (c.previous_at-previous.ensures ∙ ap (previous_at old) next ∙ previous_is old before after chain) id_is
    pushed c.set_next.ensures.slots c.set_previous.ensures.slots
    (c.set_previous.ensures.len ∙ c.set_next.ensures.len ∙ ap length pushed ∙ length_push old.slots.items _)
    (c.set_previous.ensures.first ∙ c.set_next.ensures.first)
    (c.set_previous.ensures.last ∙ ap (λ o. end_set c.args.next (Some c.len-id.result) o) c.set_next.ensures.last)

pub returns-clause-room : goal.returns-clause-room
returns-clause-room c = omega (arith, c.set_previous.ensures.room, c.set_next.ensures.room, c.push.ensures.capacity)
