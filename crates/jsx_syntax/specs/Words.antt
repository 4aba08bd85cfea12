-- The words that productions spell, and which names may stand where.
use Rattle.std.specs.Prelude.{ℕ, Bool, true, not, if◌then◌else◌, List, [], ◌∷◌, codes, Option, Some, None}
use Rattle.std.specs.List.{list_any}
use Rattle.std.specs.Str.{bytes_eq}
use Rattle.html_names.specs.Elements.{void_flag}
use Rattle.jsx_lex.specs.declared.word.Word.{Word}
use Rattle.jsx_lex.specs.declared.word.Word.TheVariants as w
use Rattle.jsx_syntax.specs.declared.name.Name.{Name}
use Rattle.jsx_syntax.specs.Trees.{is_component_name, is_suspense}

-- the word of a name
abbrev pub name_word : Name → Word
name_word name = w.Name name.text name.at

-- The words of the language, which are no names in code, save after a dot.
unfoldable pub reserved_words : List (List ℕ)
reserved_words =
    codes "function" ∷
    codes "const" ∷
    codes "return" ∷
    codes "if" ∷
    codes "throw" ∷
    codes "use" ∷
    codes "true" ∷
    codes "false" ∷
    codes "null" ∷
    codes "undefined" ∷
    []

abbrev pub is_reserved : List ℕ → Bool
is_reserved text = list_any (bytes_eq text) reserved_words

-- The nesting that no token may exceed: the open `(`, `[`, `{`, elements, `!` and `?`.
unfoldable pub nesting_limit : ℕ
nesting_limit = 200

-- the element has a closing tag with no child in it, as HTML says of void elements
abbrev pub is_not_void : Option Bool → Bool
is_not_void None = true
is_not_void (Some is_void) = not is_void

-- An element may have children unless it is void or a component's. `Suspense` may.
abbrev pub takes_children : List ℕ → Bool
takes_children name = if is_component_name name then is_suspense name else is_not_void (void_flag name)

-- The value of this attribute of `Suspense` is a node in braces.
abbrev pub is_fallback : List ℕ → Bool
is_fallback attribute = bytes_eq attribute (codes "fallback")
