-- The test of each set of bytes that the code looks for runs of.
use Rattle.std.specs.Prelude.{ℕ, Bool, not, ◌==◌}
use Rattle.std.specs.Char.{is_ascii_digit, is_digit}
use Rattle.jsx_lex.specs.Characters as c
use Rattle.jsx_lex.specs.Cleaning.{is_blank}
use Rattle.jsx_lex.specs.declared.characters.Class.{Class}
use Rattle.jsx_lex.specs.declared.characters.Class.TheVariants.{Digit, DecimalDigit, HexadecimalDigit, Blank, NamePart, TagNamePart, InLine, JsxText, Except}

abbrev pub class_test : Class → ℕ → Bool
class_test Digit b = is_ascii_digit b
class_test DecimalDigit b = is_digit b 10
class_test HexadecimalDigit b = is_digit b 16
class_test Blank b = is_blank b
class_test NamePart b = c.is_name_part b
class_test TagNamePart b = c.is_tag_name_part b
class_test InLine b = c.is_in_line b
class_test JsxText b = c.is_jsx_text b
class_test (Except other) b = not (b == other)
