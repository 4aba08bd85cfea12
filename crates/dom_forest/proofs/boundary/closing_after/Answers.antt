use Rattle.std.proofs.Common.{refl, sym, ap, ◌∙◌, arith}
use Rattle.dom_forest.specs.Chain.{entries_of, rest_from}
use Rattle.dom_forest.specs.Runs.{closing_in}
use Rattle.dom_forest.proofs.Chains.{rest_gone}
use Rattle.dom_forest.proofs.Steps.{length-rest}
use Rattle.dom_forest.proofs.boundary.closing_after.Goals as goal

pub loop-next-init : goal.loop-next-init
loop-next-init c = (refl, omega (arith, length-rest c.args.after (entries_of c.args.chain.now)))

pub returns-in_default-slot_of : goal.returns-in_default-slot_of
returns-in_default-slot_of c =
    let es = entries_of c.args.chain.now in
    sym (ap (λ o. closing_in c.args.depth (rest_from o es) c.loop-next.inner) c.in-Some.is
    ∙ ap (λ l. closing_in c.args.depth l c.loop-next.inner) (rest_gone c.in-Some.id es c.in_default-slot_of.ensures.absent))
    ∙ c.loop-next.invariant.0
