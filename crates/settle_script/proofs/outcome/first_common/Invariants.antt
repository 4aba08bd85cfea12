use Rattle.std.proofs.Common.{◌≡◌, drop}
use Rattle.settle_script.specs.Settlements.{first_common}
use Rattle.settle_script.proofs.outcome.first_common.Given as goal

abbrev pub invariant-loop-settlement : goal.invariant-loop-settlement
invariant-loop-settlement l = first_common l.outcomes (drop l.settlement-index l.more) ≡ first_common l.outcomes l.more
