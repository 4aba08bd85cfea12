use Rattle.std.proofs.Common.{◌≡◌, ◌++◌, drop}
use Rattle.std.specs.String.{string_bytes}
use Rattle.jsx_print.specs.Spelling.{spelled}
use Rattle.jsx_print.specs.Printing.{later_names}
use Rattle.jsx_print.proofs.file.push_later_names.Given as goal

-- what is left gives the result
abbrev pub invariant-loop-name : goal.invariant-loop-name
invariant-loop-name l =
    string_bytes l.out ++ spelled (later_names (drop l.name-index l.names)) ≡ string_bytes l.fn.out ++ spelled (later_names l.names)
