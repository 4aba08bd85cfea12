-- The elements that a page may have, with their names as HTML writes them. A void element has no content and no
-- end tag.
use Rattle.std.specs.Prelude.{◌≡◌, ℕ, Bool, true, false, List, [], ◌∷◌, codes, is_some, nat_eq, Option, Some}
use Rattle.std.specs.List.{list_any, starts_with}
use Rattle.std.specs.Map.{lookup}
use Rattle.std.specs.Str.{bytes_eq}

-- Each element's name, and whether it is void.
unfoldable pub element_rows : List (List ℕ × Bool)
element_rows =
    (codes "a", false) ∷
    (codes "abbr", false) ∷
    (codes "address", false) ∷
    (codes "article", false) ∷
    (codes "aside", false) ∷
    (codes "b", false) ∷
    (codes "blockquote", false) ∷
    (codes "br", true) ∷
    (codes "button", false) ∷
    (codes "cite", false) ∷
    (codes "code", false) ∷
    (codes "dd", false) ∷
    (codes "details", false) ∷
    (codes "div", false) ∷
    (codes "dl", false) ∷
    (codes "dt", false) ∷
    (codes "em", false) ∷
    (codes "figcaption", false) ∷
    (codes "figure", false) ∷
    (codes "footer", false) ∷
    (codes "h1", false) ∷
    (codes "h2", false) ∷
    (codes "h3", false) ∷
    (codes "h4", false) ∷
    (codes "h5", false) ∷
    (codes "h6", false) ∷
    (codes "header", false) ∷
    (codes "hr", true) ∷
    (codes "i", false) ∷
    (codes "kbd", false) ∷
    (codes "label", false) ∷
    (codes "li", false) ∷
    (codes "main", false) ∷
    (codes "mark", false) ∷
    (codes "nav", false) ∷
    (codes "ol", false) ∷
    (codes "p", false) ∷
    (codes "q", false) ∷
    (codes "s", false) ∷
    (codes "samp", false) ∷
    (codes "section", false) ∷
    (codes "small", false) ∷
    (codes "span", false) ∷
    (codes "strong", false) ∷
    (codes "sub", false) ∷
    (codes "summary", false) ∷
    (codes "sup", false) ∷
    (codes "u", false) ∷
    (codes "ul", false) ∷
    (codes "var", false) ∷
    (codes "wbr", true) ∷
    []

-- Whether the element of this name is void, or None where there is no such element.
abbrev pub void_flag : List ℕ → Option Bool
void_flag name = lookup (bytes_eq name) element_rows

abbrev pub is_element_name : List ℕ → Bool
is_element_name name = is_some (void_flag name)

abbrev pub IsElementName : List ℕ → Type 0
IsElementName name = is_element_name name ≡ true

abbrev pub IsVoidName : List ℕ → Type 0
IsVoidName name = void_flag name ≡ Some true

-- An element's name begins with the bytes.
abbrev pub begins_name : List (List ℕ × Bool) → List ℕ → Bool
begins_name rows bytes = list_any (λ (row : List ℕ × Bool). starts_with nat_eq row.0 bytes) rows
