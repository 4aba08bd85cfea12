use Rattle.std.proofs.Common.{◌≡◌, drop, map, fold}
use Rattle.jsx_value.specs.Values.{sum_of}
use Rattle.jsx_value.specs.Expressions.{value_of, and_of, or_of, in_scope}
use Rattle.jsx_value.proofs.expression.+eval.Given as goal

-- what is left of the chain, after what was taken from it
abbrev pub invariant-eval_sum-loop-term : goal.invariant-eval_sum-loop-term
invariant-eval_sum-loop-term l =
    fold sum_of l.sum (in_scope l.scope (map value_of (drop l.term-index l.others))) ≡ fold sum_of l.initial.sum (in_scope l.scope (map value_of l.others))

abbrev pub invariant-eval_and-loop-part : goal.invariant-eval_and-loop-part
invariant-eval_and-loop-part l =
    fold and_of l.value (in_scope l.scope (map value_of (drop l.part-index l.others))) ≡ fold and_of l.initial.value (in_scope l.scope (map value_of l.others))

abbrev pub invariant-eval_or-loop-part : goal.invariant-eval_or-loop-part
invariant-eval_or-loop-part l =
    fold or_of l.value (in_scope l.scope (map value_of (drop l.part-index l.others))) ≡ fold or_of l.initial.value (in_scope l.scope (map value_of l.others))
