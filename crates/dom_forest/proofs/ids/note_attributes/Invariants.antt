use Rattle.std.proofs.Common.{◌≡◌, List, ℕ, take, true}
use Rattle.std.specs.BTreeMap.{get_by_text}
use Rattle.std.specs.List.{list_any}
use Rattle.dom_forest.specs.Ids.{gives_id}
use Rattle.dom_forest.specs.Index.{LeadsTo, StaysKnown}
use Rattle.dom_forest.proofs.ids.note_attributes.Given as goal

abbrev pub invariant-loop-attribute : goal.invariant-loop-attribute
invariant-loop-attribute l = record {
  noted : (id : List ℕ) → list_any (gives_id id) (take l.attribute-index l.attributes) ≡ true → LeadsTo (get_by_text l.holders id) l.node;
  kept : StaysKnown l.slots (get_by_text l.fn.holders) (get_by_text l.holders);
}
