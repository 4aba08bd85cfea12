use Rattle.std.proofs.Common.{◌≡◌, map, drop}
use Rattle.html_names.specs.Elements.{begins_name}
use Rattle.html_names.specs.Rows.{row_of}
use Rattle.html_names.proofs.names.any_begins.Given as goal

-- The rows that are left decide.
abbrev pub invariant-loop-row : goal.invariant-loop-row
invariant-loop-row l = begins_name (map row_of (drop l.row-index l.rows)) l.bytes ≡ begins_name (map row_of l.rows) l.bytes
