use Rattle.state_tests.specs.Driven.{IsDriven}
use Rattle.state_tests.proofs.driven.Driven.work_all.Given as goal

abbrev pub invariant-works : goal.invariant-works
invariant-works l = IsDriven l.self.state l.self.held.items
