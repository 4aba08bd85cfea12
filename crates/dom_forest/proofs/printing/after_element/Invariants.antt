use Rattle.std.proofs.Common.{◌≡◌, ◌≤◌, ◌+◌, length}
use Rattle.dom_forest.specs.Documents.{levels_after, levels_of}
use Rattle.dom_forest.specs.OpenElements.{levels_past}
use Rattle.dom_forest.proofs.printing.after_element.Given as goal

-- what follows the ends that are still to come is what follows the element
abbrev pub invariant-loop-open : goal.invariant-loop-open
invariant-loop-open l = record {
  past : levels_past l.open (levels_of l.rest) ≡ levels_after (levels_of l.parts).rest;
  open_most : l.open + length l.rest ≤ length l.parts + 1;
  within : length l.rest ≤ length l.parts;
}

abbrev pub decreases-loop-open : goal.decreases-loop-open
decreases-loop-open l = length l.rest
