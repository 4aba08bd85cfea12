use Rattle.std.proofs.Common.{◌≡◌, ℕ, Option, Some, length, ap, ◌∙◌, arith}
use Rattle.std.specs.BTreeMap.{get_by_text}
use Rattle.dom_forest.specs.Chain.{entries_of, entry_in, rest_from}
use Rattle.dom_forest.proofs.Chains.{rest_gone}
use Rattle.dom_forest.proofs.IndexLemmas.{noted_all, noted_more, stays_twice}
use Rattle.dom_forest.proofs.ids.note_run.Goals as goal

pub returns-in_default-slot_of-clause-noted : goal.returns-in_default-slot_of-clause-noted
returns-in_default-slot_of-clause-noted c =
    let es = entries_of c.args.part.now in
    noted_all es (rest_from c.loop-next.next es) (length c.args.slots.now) c.loop-next.id (get_by_text c.loop-next.holders) c.loop-next.invariant.noted
    (ap (λ o. rest_from o es) c.in-Some.is ∙ rest_gone c.in-Some.now es c.in_default-slot_of.ensures.absent)

pub loop-next-preserved : goal.loop-next-preserved
loop-next-preserved c =
    let es = entries_of c.args.part.now in
    let slot = c.in-Some-slot_of.slot.now in
    record {
      noted = noted_more es (rest_from c.loop-next.next es) (rest_from slot.next es) (length c.args.slots.now) c.loop-next.id c.args.slots.now (get_by_text c.loop-next.holders)
          (get_by_text c.note_node.new.holders) (entry_in c.in-Some.now slot) c.loop-next.invariant.noted
          (ap (λ o. rest_from o es) c.in-Some.is ∙ c.in-Some-slot_of.ensures.found.from) (omega arith) c.note_node.ensures.kept c.in_ok-note_node.ensures.noted;
      kept = stays_twice c.args.slots.now (get_by_text c.args.holders.now) (get_by_text c.loop-next.holders) (get_by_text c.note_node.new.holders) c.loop-next.invariant.kept
          c.note_node.ensures.kept;
    }
