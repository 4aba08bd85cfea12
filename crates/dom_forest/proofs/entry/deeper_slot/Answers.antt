use Rattle.std.proofs.Common.{ap, ◌∙◌}
use Rattle.std.specs.List.{prefix_len}
use Rattle.std.proofs.lemmas.Bool.{le-ltb}
use Rattle.dom_forest.specs.Chain.{entries_of, rest_from}
use Rattle.dom_forest.specs.Runs.{below_at}
use Rattle.dom_forest.proofs.Chains.{rest_gone}
use Rattle.dom_forest.proofs.Steps.{not_deeper}
use Rattle.dom_forest.proofs.entry.deeper_slot.Goals as goal
use Rattle.dom_forest.proofs.entry.deeper_slot.Goals.{in_default-slot_of-via-in-Some-slot_of+else-depth-slot, in_default-slot_of-via-in_default-slot_of}

pub returns-in_default-slot_of-clause-not : goal.returns-in_default-slot_of-clause-not
returns-in_default-slot_of-clause-not c =
    let es = entries_of c.args.chain.now in
    ap (λ o. prefix_len (below_at c.args.depth) (rest_from o es)) c.in-Some.is
    ∙ elim c.in_default-slot_of.branch [
      | in_default-slot_of-via-in-Some-slot_of+else-depth-slot w ↦ not_deeper c.args.depth _ _ _ w.in-Some-slot_of.ensures.found.from (le-ltb c.args.depth w.in-Some-slot_of.slot.now.depth w.if-depth-slot.false)
      | in_default-slot_of-via-in_default-slot_of w ↦ ap (prefix_len (below_at c.args.depth)) (rest_gone c.in-Some.id es w.in_default-slot_of.ensures.absent)
    ]
