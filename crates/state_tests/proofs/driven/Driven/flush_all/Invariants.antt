use Rattle.state_tests.specs.Driven.{IsDriven}
use Rattle.state_tests.proofs.driven.Driven.flush_all.Given as goal

abbrev pub invariant-flushes : goal.invariant-flushes
invariant-flushes l = IsDriven l.self.state l.self.held.items
