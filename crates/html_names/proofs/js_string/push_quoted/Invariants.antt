use Rattle.std.proofs.Common.{◌≡◌, ◌++◌, ◌∷◌}
use Rattle.std.specs.List.{flat_map}
use Rattle.html_names.specs.JsStrings.{char_spelling}
use Rattle.html_names.proofs.js_string.push_quoted.Given as goal

abbrev pub invariant-loop-c : goal.invariant-loop-c
invariant-loop-c l = l.out.items ≡ l.fn.out.items ++ 34 ∷ flat_map char_spelling l.yielded
