use Rattle.std.proofs.Common.{◌≡◌, ◌++◌, drop}
use Rattle.std.specs.String.{string_bytes}
use Rattle.jsx_print.specs.Spelling.{spelled}
use Rattle.jsx_print.specs.Printing.{names_words}
use Rattle.jsx_print.proofs.expression.push_names.Given as goal

-- what is left gives the result
abbrev pub invariant-loop-name : goal.invariant-loop-name
invariant-loop-name l =
    string_bytes l.out ++ spelled (names_words (drop l.name-index l.names)) ≡ string_bytes l.fn.out ++ spelled (names_words l.names)
