use Rattle.std.proofs.Common.{◌≡◌, map, drop}
use Rattle.std.specs.Map.{lookup}
use Rattle.std.specs.Str.{bytes_eq}
use Rattle.html_names.specs.Rows.{row_of}
use Rattle.html_names.proofs.names.find_row.Given as goal

-- The rows that are left decide.
abbrev pub invariant-loop-row : goal.invariant-loop-row
invariant-loop-row g l =
    lookup (bytes_eq l.name) (map row_of l.rows) ≡ lookup (bytes_eq l.name) (map row_of (drop l.row-index l.rows))
