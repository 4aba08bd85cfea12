use Rattle.std.proofs.Common.{◌≡◌, drop}
use Rattle.settle_script.specs.Settlements.{entry_named}
use Rattle.jsx_value.proofs.val.member_named.Given as goal

abbrev pub invariant-loop-member : goal.invariant-loop-member
invariant-loop-member l = entry_named l.name (drop l.member-index l.members) ≡ entry_named l.name l.members
