use Rattle.std.proofs.Common.{ℕ, length, List, Option, None, Some, String, ap, subst, sym}
use Rattle.std.specs.BTreeMap.{BTreeMap, get_by_text}
use Rattle.std.specs.declared.alloc.Global.{Global}
use Rattle.dom_forest.specs.Chain.{entries_of}
use Rattle.dom_forest.specs.Edits.{numbered_from}
use Rattle.dom_forest.specs.Flat.{forest_of, renumbered_entries}
use Rattle.dom_forest.specs.Index.{IsIndexOf, KnowsEntries, StaysKnown, known_by}
use Rattle.dom_forest.specs.declared.chain.Slot.{Slot}
use Rattle.dom_forest.specs.declared.ids.Holder.{Holder}
use Rattle.dom_forest.proofs.IndexLemmas.{knows_part, stays_held}
use Rattle.dom_forest.proofs.ids.note_part.Goals as goal

pub returns-in_err-note_run-in-Some-clause-index : goal.returns-in_err-note_run-in-Some-clause-index
returns-in_err-note_run-in-Some-clause-index c =
    let forest = forest_of (entries_of c.args.chain.now) in
    let old = known_by (Some c.in-Some.holders) in
    let new = known_by (Some c.note_run.new.holders) in
    stays_held c.args.chain.now old new c.requires.held
    (subst (λ (s : List (Option Slot)). StaysKnown s old new) c.deref.ensures.value c.note_run.ensures.kept)
    (subst (λ (o : Option (BTreeMap (String Global) Holder)). IsIndexOf o forest) c.in-Some.is c.requires.index)

pub returns-in_ok-note_run-in-Some-clause-index : goal.returns-in_ok-note_run-in-Some-clause-index
returns-in_ok-note_run-in-Some-clause-index c =
    let forest = forest_of (entries_of c.args.chain.now) in
    let old = known_by (Some c.in-Some.holders) in
    let new = known_by (Some c.note_run.new.holders) in
    stays_held c.args.chain.now old new c.requires.held
    (subst (λ (s : List (Option Slot)). StaysKnown s old new) c.deref.ensures.value c.note_run.ensures.kept)
    (subst (λ (o : Option (BTreeMap (String Global) Holder)). IsIndexOf o forest) c.in-Some.is c.requires.index)

pub returns-in_ok-note_run-in-Some-clause-noted : goal.returns-in_ok-note_run-in-Some-clause-noted
returns-in_ok-note_run-in-Some-clause-noted c =
    let part = c.args.part.now in
    knows_part (known_by (Some c.note_run.new.holders)) (length c.args.chain.now.slots.items) (length part.slots.items) (entries_of part) c.requires.part.document
    (subst (λ (s : List (Option Slot)). KnowsEntries (get_by_text c.note_run.new.holders) (renumbered_entries (length s) (entries_of part))) c.deref.ensures.value c.in_ok-note_run-in-Some.ensures.noted)

pub returns-in-None-clause-noted : goal.returns-in-None-clause-noted
returns-in-None-clause-noted c =
    let part = numbered_from (length c.args.chain.now.slots.items) (forest_of (entries_of c.args.part.now)) in
    subst (λ (o : Option (BTreeMap (String Global) Holder)). IsIndexOf o part) (sym c.in-None.is) tt
