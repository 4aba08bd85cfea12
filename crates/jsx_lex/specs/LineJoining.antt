-- Lines put together one after another, as the code does it.
use Rattle.std.specs.Prelude.{ℕ, List, [], ◌∷◌, ◌++◌}
use Rattle.fizz_text.specs.Ascii.{space}

-- a text with one more line after a space, unless either is empty
abbrev pub with_line : List ℕ → List ℕ → List ℕ
with_line text [] = text
with_line [] (b ∷ bs) = b ∷ bs
with_line (a ∷ as') (b ∷ bs) = (a ∷ as') ++ space ∷ (b ∷ bs)

abbrev pub with_lines : List ℕ → List (List ℕ) → List ℕ
with_lines text [] = text
with_lines text (line ∷ lines) = with_lines (with_line text line) lines
