-- The parts of a script, as they are appended one after the other.
use Rattle.std.specs.Prelude.{ℕ, ◌+◌, ◌-◌, ◌%◌, min, List, ◌++◌, flat_map, codes, decimal}
use Rattle.std.specs.List.{range_with_len}
use Rattle.page_generator.specs.Draws.{draw_of, drawn}
use Rattle.page_generator.specs.Pages.{groups_of, group_text, lines_after}

-- the numbers from this one on, up to `past` without it
abbrev pub numbers_from : ℕ → ℕ → List ℕ
numbers_from first past = range_with_len first (past - first)

-- how many leaves a group takes that draws at this state, where so many leaves are left
abbrev pub group_size : ℕ → ℕ → ℕ
group_size x left = min (draw_of x % 8 + 1) left

-- the groups that are drawn from this state on, of the leaves from this one on
abbrev pub groups_from : ℕ → ℕ → ℕ → List (List ℕ)
groups_from x first size = groups_of (drawn (size - first) x) (numbers_from first size)

-- groups and numbers that stand behind others
abbrev pub later_groups : List (List ℕ) → List ℕ
later_groups groups = flat_map (λ group. codes "," ++ group_text group) groups

abbrev pub later_numbers : List ℕ → List ℕ
later_numbers numbers = flat_map (λ number. codes "," ++ decimal number) numbers

-- lines that stand behind others
abbrev pub later_lines : List (List ℕ) → List ℕ
later_lines lines = flat_map (λ line. codes "," ++ line) lines

-- the lines of these leaves, where so many leaves' lines stand before them
abbrev pub leaf_lines : ℕ → List (ℕ × ℕ) → List ℕ
leaf_lines count leaves = later_lines (lines_after count leaves)
