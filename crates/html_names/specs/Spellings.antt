-- The code's choice of a spelling, as the definitions make it. This is for private functions.
use Rattle.std.specs.Prelude.{◌≡◌, ℕ, true, false, None, Some}
use Rattle.html_names.specs.JsStrings.{short_letter, is_coded}
use Rattle.html_names.specs.declared.js_string.Spelling.{Spelling}
use Rattle.html_names.specs.declared.js_string.Spelling.TheVariants.{Short, Coded, Itself}

abbrev pub IsSpelled : ℕ → Spelling → Type 0
IsSpelled c (Short letter) = short_letter c ≡ Some letter
IsSpelled c Coded = (short_letter c ≡ None) × (is_coded c ≡ true)
IsSpelled c Itself = (short_letter c ≡ None) × (is_coded c ≡ false)
