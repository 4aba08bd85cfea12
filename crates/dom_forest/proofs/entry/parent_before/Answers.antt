use Rattle.std.proofs.Common.{None, Some, ltb, sym, ap, ◌∙◌}
use Rattle.std.proofs.lemmas.Bool.{cond-true, cond-false, lt-ltb, le-ltb}
use Rattle.dom_forest.specs.Chain.{entries_of, entry_in, last_id, up_to}
use Rattle.dom_forest.specs.Runs.{id_after, parent_step}
use Rattle.dom_forest.proofs.Steps.{before_there, kept_last}
use Rattle.dom_forest.proofs.entry.parent_before.Goals as goal

pub returns-in_default-slot_of : goal.returns-in_default-slot_of
returns-in_default-slot_of c =
    let es = entries_of c.args.chain.now in
    absurd (before_there es c.in-Some.id (sym c.in-Some.is ∙ c.loop-before.invariant.1 ∙ ap (λ o. last_id None (up_to o es)) c.in-Some.is) c.in_default-slot_of.ensures.absent)

pub returns-then-slot-depth : goal.returns-then-slot-depth
returns-then-slot-depth c =
    let es = entries_of c.args.chain.now in
    let slot = c.in-Some-slot_of.slot.now in
    let above = id_after (parent_step c.args.depth) None (up_to slot.previous es) in
    let step = kept_last (parent_step c.args.depth) (up_to c.loop-before.before es) (up_to slot.previous es) (entry_in c.in-Some.id slot) (ap (λ o. up_to o es) c.in-Some.is ∙ c.in-Some-slot_of.ensures.found.to) in
    sym (cond-true (ltb slot.depth c.args.depth) (Some c.in-Some.id) above (lt-ltb slot.depth c.args.depth c.if-slot-depth.true)) ∙ sym step ∙ c.loop-before.invariant.0

pub loop-before-preserved : goal.loop-before-preserved
loop-before-preserved c =
    let es = entries_of c.args.chain.now in
    let slot = c.in-Some-slot_of.slot.now in
    let above = id_after (parent_step c.args.depth) None (up_to slot.previous es) in
    let step = kept_last (parent_step c.args.depth) (up_to c.loop-before.before es) (up_to slot.previous es) (entry_in c.in-Some.id slot) (ap (λ o. up_to o es) c.in-Some.is ∙ c.in-Some-slot_of.ensures.found.to) in
    (sym (cond-false (ltb slot.depth c.args.depth) (Some c.in-Some.id) above (le-ltb slot.depth c.args.depth c.if-slot-depth.false)) ∙ sym step ∙ c.loop-before.invariant.0, c.in-Some-slot_of.ensures.found.before)
