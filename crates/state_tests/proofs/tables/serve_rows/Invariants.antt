use Rattle.state_tests.specs.Driven.{IsDriven}
use Rattle.state_tests.proofs.tables.serve_rows.Given as goal

abbrev pub invariant-rows : goal.invariant-rows
invariant-rows l = IsDriven l.driven.state l.driven.held.items
