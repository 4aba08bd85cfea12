use Rattle.std.proofs.Common.{◌≡◌, ◌++◌, ◌∷◌, length}
use Rattle.std.specs.List.{flat_map}
use Rattle.std.specs.Str.{IsUtf8, chars}
use Rattle.html_names.specs.JsStrings.{char_spelling}
use Rattle.html_names.proofs.js_string.read_js_string.Given as goal

abbrev pub invariant-loop-c : goal.invariant-loop-c
invariant-loop-c l = record {
  utf8 : IsUtf8 l.text.items;
  spelled : l.bytes ≡ 34 ∷ (flat_map char_spelling (chars l.text.items) ++ l.rest);
}

abbrev pub decreases-loop-c : goal.decreases-loop-c
decreases-loop-c l = length l.rest
