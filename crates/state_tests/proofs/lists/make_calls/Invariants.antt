use Rattle.state_tests.specs.Driven.{IsDriven}
use Rattle.state_tests.proofs.lists.make_calls.Given as goal

abbrev pub invariant-calls : goal.invariant-calls
invariant-calls l = IsDriven l.driven.state l.driven.held.items
