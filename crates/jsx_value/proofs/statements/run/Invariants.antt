use Rattle.std.proofs.Common.{◌≡◌, drop}
use Rattle.settle_script.specs.Settlements.{known}
use Rattle.jsx_value.specs.Expressions.{Names}
use Rattle.jsx_value.specs.Positions.{Opened, Place, run}
use Rattle.jsx_value.proofs.statements.run.Given as goal

-- what is left of the statements goes on as all would
abbrev pub invariant-loop-stmt : goal.invariant-loop-stmt
invariant-loop-stmt l = (go : Names → Opened Place)
    → run (known l.page.outcomes.now l.page.settled) (drop l.stmt-index l.stmts) go l.scope ≡ run (known l.page.outcomes.now l.page.settled) l.stmts go l.initial.scope
