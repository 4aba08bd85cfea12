-- What is wanted in the place of a word that no file has there.
use Rattle.std.specs.Prelude.{◌≡◌, ℕ, ℤ, pos, IsTrue, Bool, true, false, not, ◌&&◌, ◌||◌, if◌then◌else◌, List, [], ◌∷◌, ◌++◌, codes, length}
use Rattle.std.specs.List.{list_any}
use Rattle.std.specs.Str.{bytes_eq}
use Rattle.jsx_lex.specs.declared.word.Word.{Word}
use Rattle.jsx_lex.specs.declared.word.Word.TheVariants as w
use Rattle.jsx_lex.specs.declared.word.Punctuator.TheVariants as p
use Rattle.jsx_syntax.specs.declared.fault.Wanted.{Wanted}
use Rattle.jsx_syntax.specs.declared.fault.Wanted.TheVariants.{Shallower, Value, CloseName, NoChildren, Token}
use Rattle.jsx_syntax.specs.Marks.{Last, dot_map, less_slash, child_brace, operand, dot, none, Marks, among_children, marks_of, open_at}
use Rattle.jsx_syntax.specs.Refusals.{IsAlive}
use Rattle.jsx_syntax.specs.Words.{is_reserved}
use Rattle.jsx_syntax.specs.WordTests.{is_sign, opens, has_room}

-- A word that opens what would be the 201st that is open.
abbrev pub is_too_deep : Marks → Word → Bool
is_too_deep m word = opens word && not (has_room (length (open_at m.last word m.marks)))

abbrev pub is_dot_map : Last → Bool
is_dot_map dot_map = true
is_dot_map _ = false

abbrev pub is_less_slash : Last → Bool
is_less_slash less_slash = true
is_less_slash _ = false

abbrev pub is_child_brace : Last → Bool
is_child_brace child_brace = true
is_child_brace _ = false

-- An element or an array where only a value may come next, or the `(` of a map where none may stand.
abbrev pub is_no_value : Bool → Marks → Word → Bool
is_no_value value_may m word =
    value_may && (is_sign p.Less word || is_sign p.OpenBracket word)
    || is_dot_map m.last && is_sign p.OpenParen word

abbrev pub is_name : Word → Bool
is_name (w.Name text place) = true
is_name (w.Sign sign) = false
is_name (w.Number z) = false
is_name (w.Text x) = false
is_name (w.JsxText x) = false

-- A name after `</`, which is another than the open element's.
abbrev pub is_other_name : Marks → Word → Bool
is_other_name m word = is_less_slash m.last && is_name word

abbrev pub is_value_word : List ℕ → Bool
is_value_word text =
    bytes_eq text (codes "true") || (bytes_eq text (codes "false") || (bytes_eq text (codes "null")
    || bytes_eq text (codes "undefined")))

-- A word that begins a node.
abbrev pub begins_node : Word → Bool
begins_node (w.Name text place) = if is_reserved text then is_value_word text else true
begins_node (w.Number z) = true
begins_node (w.Text x) = true
begins_node (w.JsxText x) = false
begins_node (w.Sign sign) =
    is_sign p.OpenParen (w.Sign sign) || is_sign p.Not (w.Sign sign) || is_sign p.OpenBracket (w.Sign sign)
    || is_sign p.Less (w.Sign sign)

-- A text that doesn't only lay out the source.
abbrev pub is_child_text : Word → Bool
is_child_text (w.JsxText []) = false
is_child_text (w.JsxText (b ∷ bs)) = true
is_child_text (w.Name text place) = false
is_child_text (w.Sign sign) = false
is_child_text (w.Number z) = false
is_child_text (w.Text x) = false

-- What begins a child: a node in braces, a text or an element.
abbrev pub begins_child : Marks → Word → Bool
begins_child m word =
    is_child_brace m.last && begins_node word
    || among_children m.marks && (is_child_text word || is_sign p.Less word)

-- The first of these that holds, by whether a value may come next.
abbrev pub wanted_of : Bool → Marks → Word → Wanted
wanted_of value_may m word =
    if is_too_deep m word then Shallower
    else if is_no_value value_may m word then Value
    else if is_other_name m word then CloseName
    else if begins_child m word then NoChildren
    else Token

-- What is wanted in the place of the word after `before`.
pub record IsWantedFor (before : List Word) (word : Word) (wanted : Wanted) : Type 0 where
  pub value_may : Bool
  pub value_may_be : IsTrue value_may → IsAlive (before ++ w.Number (pos 0) ∷ [])
  pub value_may_not : IsAlive (before ++ w.Number (pos 0) ∷ []) → IsTrue value_may
  pub wanted_is : wanted ≡ wanted_of value_may (marks_of before) word

-- At the end one more token is wanted.
abbrev pub IsWanted : List Word → List Word → Wanted → Type 0
IsWanted before [] wanted = wanted ≡ Token
IsWanted before (word ∷ after) wanted = IsWantedFor before word wanted
