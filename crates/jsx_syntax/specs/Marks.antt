-- What is open at a token, by the words before it.
use Rattle.std.specs.Prelude.{ℕ, Bool, true, false, ◌&&◌, if◌then◌else◌, List, [], ◌∷◌, codes}
use Rattle.std.specs.Str.{bytes_eq}
use Rattle.jsx_lex.specs.declared.word.Word.{Word}
use Rattle.jsx_lex.specs.declared.word.Word.TheVariants as w
use Rattle.jsx_lex.specs.declared.word.Punctuator.{Punctuator}
use Rattle.jsx_lex.specs.declared.word.Punctuator.TheVariants as p
use Rattle.jsx_syntax.specs.WordTests.{is_sign}

-- What was opened and isn't closed yet.
pub data Mark : Type 0 where
  -- `(`
  in_parens : Mark
  -- `[`
  in_brackets : Mark
  -- `{`
  in_braces : Mark
  -- an element, in its first tag
  in_tag : Mark
  -- an element, among its children
  in_children : Mark
  -- an element, after its `</`
  in_end : Mark
  -- `!`
  in_not : Mark
  -- `?`, up to its `:`
  in_yes : Mark
  -- `?`, after its `:`
  in_no : Mark

-- What the last word was.
pub data Last : Type 0 where
  -- the end of an operand
  operand : Last
  -- a dot
  dot : Last
  -- `map`, after a dot
  dot_map : Last
  -- `</`
  less_slash : Last
  -- `{` among children
  child_brace : Last
  -- none of these
  none : Last

-- What is open, the innermost first, and the last word.
pub record Marks : Type 0 where
  pub marks : List Mark
  pub last : Last

-- `!` is open until its operand ends.
abbrev pub after_operand : List Mark → List Mark
after_operand [] = []
after_operand (in_not ∷ marks) = after_operand marks
after_operand (mark ∷ marks) = mark ∷ marks

-- `?` is open until its conditional ends, which is the end of its last part.
abbrev pub after_expression : List Mark → List Mark
after_expression [] = []
after_expression (in_not ∷ marks) = after_expression marks
after_expression (in_no ∷ marks) = after_expression marks
after_expression (mark ∷ marks) = mark ∷ marks

-- Where this word comes after an operand: a dot goes on with the operand, an operator with the expression.
abbrev pub after_operand_at : Word → List Mark → List Mark
after_operand_at word marks =
    if is_sign p.Dot word then marks
    else if is_sign p.Plus word then after_operand marks
    else if is_sign p.StrictEqual word then after_operand marks
    else if is_sign p.StrictNotEqual word then after_operand marks
    else if is_sign p.AndAnd word then after_operand marks
    else if is_sign p.OrOr word then after_operand marks
    else if is_sign p.Question word then after_operand marks
    else after_expression marks

-- What is open where this word comes next. After `.map` a `(` goes on with the expression.
abbrev pub open_at : Last → Word → List Mark → List Mark
open_at operand word marks = after_operand_at word marks
open_at dot_map word marks = if is_sign p.OpenParen word then after_operand marks else after_operand_at word marks
open_at dot word marks = marks
open_at less_slash word marks = marks
open_at child_brace word marks = marks
open_at none word marks = marks

-- the innermost is closed
abbrev pub closed : List Mark → List Mark
closed [] = []
closed (mark ∷ marks) = marks

-- at the `:` of a conditional
abbrev pub turned : List Mark → List Mark
turned (in_yes ∷ marks) = in_no ∷ marks
turned marks = marks

-- at the `>` that ends a first tag, or an element
abbrev pub tag_closed : List Mark → List Mark
tag_closed (in_tag ∷ marks) = in_children ∷ marks
tag_closed (in_end ∷ marks) = marks
tag_closed marks = marks

-- at the `</` of an element
abbrev pub ending : List Mark → List Mark
ending (in_children ∷ marks) = in_end ∷ marks
ending marks = marks

-- What is open after a sign.
abbrev pub after_sign : Punctuator → List Mark → List Mark
after_sign p.OpenParen marks = in_parens ∷ marks
after_sign p.OpenBracket marks = in_brackets ∷ marks
after_sign p.OpenBrace marks = in_braces ∷ marks
after_sign p.Less marks = in_tag ∷ marks
after_sign p.Not marks = in_not ∷ marks
after_sign p.Question marks = in_yes ∷ marks
after_sign p.Colon marks = turned marks
after_sign p.CloseParen marks = closed marks
after_sign p.CloseBracket marks = closed marks
after_sign p.CloseBrace marks = closed marks
after_sign p.SlashGreater marks = closed marks
after_sign p.Greater marks = tag_closed marks
after_sign p.LessSlash marks = ending marks
after_sign p.StrictEqual marks = marks
after_sign p.StrictNotEqual marks = marks
after_sign p.Arrow marks = marks
after_sign p.AndAnd marks = marks
after_sign p.OrOr marks = marks
after_sign p.Comma marks = marks
after_sign p.Semicolon marks = marks
after_sign p.Dot marks = marks
after_sign p.Assign marks = marks
after_sign p.Plus marks = marks

abbrev pub after_word : Word → List Mark → List Mark
after_word (w.Sign sign) marks = after_sign sign marks
after_word (w.Name text place) marks = marks
after_word (w.Number z) marks = marks
after_word (w.Text x) marks = marks
after_word (w.JsxText x) marks = marks

abbrev pub among_children : List Mark → Bool
among_children (in_children ∷ marks) = true
among_children _ = false

-- What the word is, after that one, where this is open.
abbrev pub last_name : Last → List ℕ → Last
last_name dot text = if bytes_eq text (codes "map") then dot_map else operand
last_name operand text = operand
last_name dot_map text = operand
last_name less_slash text = operand
last_name child_brace text = operand
last_name none text = operand

abbrev pub last_sign : Punctuator → List Mark → Last
last_sign p.Dot marks = dot
last_sign p.LessSlash marks = less_slash
last_sign p.OpenBrace marks = if among_children marks then child_brace else none
last_sign p.CloseParen marks = operand
last_sign p.CloseBracket marks = operand
last_sign p.CloseBrace marks = operand
last_sign p.SlashGreater marks = operand
last_sign p.Greater marks = operand
last_sign p.OpenParen marks = none
last_sign p.OpenBracket marks = none
last_sign p.Less marks = none
last_sign p.Not marks = none
last_sign p.Question marks = none
last_sign p.Colon marks = none
last_sign p.StrictEqual marks = none
last_sign p.StrictNotEqual marks = none
last_sign p.Arrow marks = none
last_sign p.AndAnd marks = none
last_sign p.OrOr marks = none
last_sign p.Comma marks = none
last_sign p.Semicolon marks = none
last_sign p.Assign marks = none
last_sign p.Plus marks = none

abbrev pub last_word : Last → Word → List Mark → Last
last_word last (w.Sign sign) marks = last_sign sign marks
last_word last (w.Name text place) marks = last_name last text
last_word last (w.Number z) marks = operand
last_word last (w.Text x) marks = operand
last_word last (w.JsxText x) marks = operand

abbrev pub marks_by : Marks → Word → Marks
marks_by m word = record {
  marks = after_word word (open_at m.last word m.marks);
  last = last_word m.last word (open_at m.last word m.marks);
}

abbrev pub marks_from : Marks → List Word → Marks
marks_from m [] = m
marks_from m (word ∷ words) = marks_from (marks_by m word) words

-- Nothing is open where a file begins.
abbrev pub no_marks : Marks
no_marks = record { marks = []; last = none }

-- What is open after these words.
abbrev pub marks_of : List Word → Marks
marks_of words = marks_from no_marks words
