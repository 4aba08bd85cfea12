use Rattle.state_tests.specs.Driven.{IsDriven}
use Rattle.state_tests.proofs.driven.Driven.settle_all.Given as goal

abbrev pub invariant-outcomes : goal.invariant-outcomes
invariant-outcomes l = IsDriven l.self.state l.self.held.items
