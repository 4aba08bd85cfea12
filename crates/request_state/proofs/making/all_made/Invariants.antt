use Rattle.std.proofs.Common.{◌≡◌, map, take}
use Rattle.request_state.specs.Making.{made_of}
use Rattle.request_state.proofs.making.all_made.Given as goal

abbrev pub invariant-kids : goal.invariant-kids
invariant-kids l = l.all.items ≡ map (made_of l.outcomes l.settled) (take l.kid-index l.kids)
