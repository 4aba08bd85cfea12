use Rattle.std.proofs.Common.{length, ap, ◌∙◌, arith}
use Rattle.dom_forest.specs.Chain.{entries_of, rest_from}
use Rattle.dom_forest.proofs.Chains.{rest_gone}
use Rattle.dom_forest.proofs.chain.count_all.Goals as goal

pub returns-in_default-slot_of-clause-count : goal.returns-in_default-slot_of-clause-count
returns-in_default-slot_of-clause-count c =
    let es = entries_of c.args.chain.now in
    omega (arith, c.loop-next.invariant, ap (λ o. length (rest_from o es)) c.in-Some.is ∙ ap length (rest_gone c.in-Some.id es c.in_default-slot_of.ensures.absent))
