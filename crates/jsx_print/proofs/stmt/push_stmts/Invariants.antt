use Rattle.std.proofs.Common.{◌≡◌, ◌++◌, drop}
use Rattle.std.specs.List.{flat_map}
use Rattle.std.specs.String.{string_bytes}
use Rattle.jsx_print.specs.Spelling.{spelled}
use Rattle.jsx_print.specs.Printing.{stmt_words}
use Rattle.jsx_print.proofs.stmt.push_stmts.Given as goal

-- what is left gives the result
abbrev pub invariant-loop-stmt : goal.invariant-loop-stmt
invariant-loop-stmt l =
    string_bytes l.out ++ spelled (flat_map stmt_words (drop l.stmt-index l.stmts)) ≡ string_bytes l.fn.out ++ spelled (flat_map stmt_words l.stmts)
