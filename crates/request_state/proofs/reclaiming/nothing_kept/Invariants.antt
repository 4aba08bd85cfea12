use Rattle.std.proofs.Common.{◌≡◌, map, take}
use Rattle.request_state.specs.Reclaiming.{nothing_kept}
use Rattle.request_state.proofs.reclaiming.nothing_kept.Given as goal

abbrev pub invariant-claims : goal.invariant-claims
invariant-claims l = l.nothing.items ≡ map nothing_kept (take l.claim-index l.claims)
