use Rattle.std.proofs.Common.{◌≡◌, take}
use Rattle.settle_script.proofs.value.+copy.Given as goal

abbrev pub invariant-copy_of_items-loop-item : goal.invariant-copy_of_items-loop-item
invariant-copy_of_items-loop-item l = l.copies ≡ take l.item-index l.items

abbrev pub invariant-copy_of_members-loop-member : goal.invariant-copy_of_members-loop-member
invariant-copy_of_members-loop-member l = l.copies ≡ take l.member-index l.members
