use Rattle.state_tests.specs.Driven.{IsDriven}
use Rattle.state_tests.proofs.prefixes.send_by_rounds.Given as goal

abbrev pub invariant-rounds : goal.invariant-rounds
invariant-rounds l = IsDriven l.driven.state l.driven.held.items
