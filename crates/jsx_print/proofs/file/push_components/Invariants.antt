use Rattle.std.proofs.Common.{◌≡◌, ◌++◌, drop}
use Rattle.std.specs.List.{flat_map}
use Rattle.std.specs.String.{string_bytes}
use Rattle.jsx_print.specs.Spelling.{spelled}
use Rattle.jsx_print.specs.Printing.{component_words}
use Rattle.jsx_print.proofs.file.push_components.Given as goal

-- what is left gives the result
abbrev pub invariant-loop-component : goal.invariant-loop-component
invariant-loop-component l =
    string_bytes l.out ++ spelled (flat_map component_words (drop l.component-index l.components))
    ≡ string_bytes l.fn.out ++ spelled (flat_map component_words l.components)
