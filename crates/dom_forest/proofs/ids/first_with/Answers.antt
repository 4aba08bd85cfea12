use Rattle.std.proofs.Common.{find, sym, ap, ◌∙◌}
use Rattle.dom_forest.specs.declared.entry.Entry.{Entry}
use Rattle.dom_forest.specs.Chain.{entries_of, rest_from}
use Rattle.dom_forest.specs.Ids.{has_id}
use Rattle.dom_forest.specs.Runs.{entry_id}
use Rattle.dom_forest.proofs.Chains.{rest_gone}
use Rattle.dom_forest.proofs.ids.first_with.Goals as goal

pub returns-in_default-slot_of : goal.returns-in_default-slot_of
returns-in_default-slot_of c =
    let es = entries_of c.args.chain.now in
    sym (ap (λ o. entry_id (find (λ (e : Entry). has_id c.args.id.now e.node) (rest_from o es))) c.in-Some.is
    ∙ ap (λ l. entry_id (find (λ (e : Entry). has_id c.args.id.now e.node) l)) (rest_gone c.in-Some.now es c.in_default-slot_of.ensures.absent))
    ∙ c.loop-next.invariant
