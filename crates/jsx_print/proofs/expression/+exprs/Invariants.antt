use Rattle.std.proofs.Common.{◌≡◌, ◌+◌, ◌*◌, ◌++◌, drop, map, max}
use Rattle.std.specs.String.{string_bytes}
use Rattle.jsx_print.specs.Spelling.{spelled}
use Rattle.jsx_print.specs.Printing.{printed, later_operands}
use Rattle.jsx_syntax.specs.declared.expr.Expr.TheViews.{size-Expr}
use Rattle.jsx_print.proofs.expression.+exprs.Given as goal

-- down the expression, and from an operand to what it prints
abbrev pub decreases-push_expr : goal.decreases-push_expr
decreases-push_expr l = size-Expr l.expr.now * 4

abbrev pub decreases-push_operand : goal.decreases-push_operand
decreases-push_operand l = size-Expr l.expr.now * 4 + 1

abbrev pub decreases-push_member : goal.decreases-push_member
decreases-push_member l = size-Expr l.of.now * 4 + 2

abbrev pub decreases-push_negation : goal.decreases-push_negation
decreases-push_negation l = size-Expr l.operand.now * 4 + 2

abbrev pub decreases-push_equality : goal.decreases-push_equality
decreases-push_equality l = max (size-Expr l.left.now) (size-Expr l.right.now) * 4 + 2

abbrev pub decreases-push_choice : goal.decreases-push_choice
decreases-push_choice l = max (size-Expr l.test.now) (max (size-Expr l.yes.now) (size-Expr l.no.now)) * 4 + 2

abbrev pub decreases-push_chain : goal.decreases-push_chain
decreases-push_chain l = goal.size-push_chain l * 4 + 2

-- what is left gives the result
abbrev pub invariant-push_chain-loop-operand : goal.invariant-push_chain-loop-operand
invariant-push_chain-loop-operand l =
    string_bytes l.out ++ spelled (later_operands l.sign l.least (map printed (drop l.operand-index l.others)))
    ≡ string_bytes l.initial.out ++ spelled (later_operands l.sign l.least (map printed l.others))
