use Rattle.std.proofs.Common.{◌≡◌, ◌++◌, drop, length}
use Rattle.serde_json.specs.View.{items_view, members_view}
use Rattle.settle_script.specs.JsonValues.{values_of, fields_of, first_bad_item, first_bad_member, step}
use Rattle.settle_script.proofs.json.+read.Given as goal

-- what was read, before what is left
abbrev pub invariant-read_items-loop-item : goal.invariant-read_items-loop-item
invariant-read_items-loop-item l = record {
  at : l.at ≡ step l.item-index;
  values : l.values ++ values_of (items_view (drop l.item-index l.items)) ≡ values_of (items_view l.items);
  bad : first_bad_item l.depth l.item-index (items_view (drop l.item-index l.items)) ≡ first_bad_item l.depth 0 (items_view l.items);
}

abbrev pub invariant-read_members-loop-name : goal.invariant-read_members-loop-name
invariant-read_members-loop-name l =
    (goal.iterator-read_members-loop-name).can_next l.name-iterator ×
    (goal.iterator-read_members-loop-name).is_finite l.name-iterator ×
    (l.at ≡ step (length l.yielded)) ×
    (l.fields ++ fields_of (members_view l.name-iterator) ≡ fields_of (members_view l.members.entries)) ×
    (first_bad_member l.depth (length l.yielded) (members_view l.name-iterator) ≡ first_bad_member l.depth 0 (members_view l.members.entries))
