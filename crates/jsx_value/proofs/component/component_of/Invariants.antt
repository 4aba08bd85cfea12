use Rattle.std.proofs.Common.{◌≡◌, ℕ, ◌≤◌, List, Option, length, reverse}
use Rattle.settle_script.specs.declared.outcome.Outcome.{Outcome}
use Rattle.jsx_value.specs.Expressions.{Names}
use Rattle.jsx_value.specs.Positions.{places, calls_of}
use Rattle.jsx_value.specs.Sizes.{total_size}
use Rattle.jsx_value.proofs.component.component_of.Given as goal

abbrev pub invariant-loop-component : goal.invariant-loop-component
invariant-loop-component l = record {
  same : (known : List ℕ → Option Outcome) (prefix : List ℕ) (args : Names)
      → calls_of places known prefix (reverse l.rest) l.name args ≡ calls_of places known prefix (reverse l.components) l.name args;
  size : total_size l.rest ≤ total_size l.components;
  fewer : length l.rest ≤ length l.components;
}

abbrev pub decreases-loop-component : goal.decreases-loop-component
decreases-loop-component l = length l.rest
