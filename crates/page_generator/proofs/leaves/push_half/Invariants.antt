use Rattle.std.proofs.Common.{◌≡◌, ◌≤◌, ℕ, ◌+◌, List, ◌++◌, filter, drop}
use Rattle.std.specs.List.{enumerate_from}
use Rattle.page_generator.specs.Pages.{is_lined}
use Rattle.page_generator.specs.Parts.{leaf_lines}
use Rattle.page_generator.proofs.leaves.push_half.Given as goal

abbrev pub invariant-loop-leaf : goal.invariant-loop-leaf
invariant-loop-leaf l = record {
  few : l.total ≤ l.count + l.leaf;
  script : (later : List (ℕ × ℕ)) → l.script.items ++ leaf_lines l.total (filter (is_lined l.remainder) (enumerate_from l.leaf (drop l.leaf l.picks)) ++ later)
      ≡ l.fn.script.items ++ leaf_lines l.count (filter (is_lined l.remainder) (enumerate_from 0 l.picks) ++ later);
}
