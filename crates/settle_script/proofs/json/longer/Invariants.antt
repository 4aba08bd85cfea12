use Rattle.std.proofs.Common.{◌≡◌, ◌∷◌, take}
use Rattle.settle_script.proofs.json.longer.Given as goal

abbrev pub invariant-loop-step : goal.invariant-loop-step
invariant-loop-step l = l.all ≡ l.at ∷ take l.step-index l.path
