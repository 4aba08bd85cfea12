use Rattle.std.proofs.Common.{◌≡◌, ◌-◌, ◌≤◌, ℕ, List, ◌++◌, length}
use Rattle.fizz_text.specs.declared.attribute.Attr.{Attr}
use Rattle.html_read.specs.Building.{EndsTag}
use Rattle.html_names.specs.Printing.{attributes_spelling}
use Rattle.html_read.specs.Tokens.{AreAttributes}
use Rattle.html_read.proofs.BuildingLemmas.{Left}
use Rattle.html_read.proofs.building.attributes_at.Given as goal

abbrev pub invariant-attributes : goal.invariant-attributes
invariant-attributes l = record {
  within : l.at ≤ length l.bytes;
  left : (all : List Attr) (more : List ℕ) → AreAttributes all → EndsTag more → l.bytes ≡ attributes_spelling all ++ more → Left l.bytes l.attributes l.at all more;
}

abbrev pub decreases-attributes : goal.decreases-attributes
decreases-attributes l = length l.initial.bytes - l.at
