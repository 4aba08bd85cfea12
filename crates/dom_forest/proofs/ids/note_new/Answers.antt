use Rattle.std.proofs.Common.{List, Option, Some, String, subst}
use Rattle.std.specs.BTreeMap.{BTreeMap}
use Rattle.std.specs.declared.alloc.Global.{Global}
use Rattle.dom_forest.specs.Chain.{entries_of}
use Rattle.dom_forest.specs.Flat.{forest_of}
use Rattle.dom_forest.specs.Index.{IsIndexOf, StaysKnown, known_by}
use Rattle.dom_forest.specs.declared.chain.Slot.{Slot}
use Rattle.dom_forest.specs.declared.ids.Holder.{Holder}
use Rattle.dom_forest.proofs.IndexLemmas.{stays_held}
use Rattle.dom_forest.proofs.ids.note_new.Goals as goal

pub returns-in-Some-clause-index : goal.returns-in-Some-clause-index
returns-in-Some-clause-index c =
    let forest = forest_of (entries_of c.args.chain.now) in
    let old = known_by (Some c.in-Some.holders) in
    let new = known_by (Some c.note_node.new.holders) in
    stays_held c.args.chain.now old new c.requires.held
    (subst (λ (s : List (Option Slot)). StaysKnown s old new) c.deref.ensures.value c.note_node.ensures.kept)
    (subst (λ (o : Option (BTreeMap (String Global) Holder)). IsIndexOf o forest) c.in-Some.is c.requires.index)
