use Rattle.std.proofs.Common.{◌≡◌, ◌++◌, take}
use Rattle.settle_script.proofs.outcome.Outcomes.append.Given as goal

abbrev pub invariant-loop-settlement : goal.invariant-loop-settlement
invariant-loop-settlement l = l.self ≡ l.fn.self ++ take l.settlement-index l.more
