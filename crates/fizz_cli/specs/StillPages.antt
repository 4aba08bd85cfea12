-- Pages that need nothing of a script: elements and texts alone, which stand in the page from its first byte on.
use Rattle.std.specs.Prelude.{◌≡◌, ◌≤◌, ℕ, ◌-◌, Bool, true, false, not, ◌&&◌, ◌==◌, List, codes, length, nat_lt, Option, Some, None}
use Rattle.std.specs.List.{list_all}
use Rattle.std.specs.Str.{bytes_eq, is_utf8}
use Rattle.fizz_text.specs.declared.attribute.Attr.{Attr}
use Rattle.html_names.specs.Attributes.{is_reserved}
use Rattle.html_names.specs.Elements.{void_flag}
use Rattle.html_names.specs.Names.{is_plain_name}
use Rattle.document_machine.specs.Documents.{most_open}
use Rattle.jsx_value.specs.Positions.{Page}
use Rattle.jsx_value.specs.Spots.{Label, nothing, text, element, array, boundary, wait, fail, Spots, none, spot}
use Rattle.jsx_value.specs.Weights.{most_weight, page_weight}
use Rattle.settled_tree.specs.Forests.{forest_of, spots_in}

abbrev pub is_none : Spots → Bool
is_none none = true
is_none (spot label kids other later) = false

-- The attribute gives an element an id of the renderer's own form.
abbrev pub is_own_id : List ℕ → List ℕ → List ℕ → Bool
is_own_id prefix name value = bytes_eq name (codes "id") && is_reserved prefix value

-- A value that may be printed of an attribute of this name.
abbrev pub is_still_value : List ℕ → List ℕ → Option (List ℕ) → Bool
is_still_value prefix name None = false
is_still_value prefix name (Some value) = is_utf8 value && not (is_own_id prefix name value)

abbrev pub is_still_attribute : List ℕ → Attr → Bool
is_still_attribute prefix a = is_plain_name a.name && is_still_value prefix a.name a.value

-- An element holds nothing where it is void, and is none of HTML's where there is no flag.
abbrev pub may_hold : Option Bool → Bool → (ℕ → Bool) → ℕ → Bool
may_hold None empty kids room = false
may_hold (Some true) empty kids room = empty
may_hold (Some false) empty kids room = nat_lt 0 room && kids (room - 1)

-- A text is not empty.
abbrev pub is_still_text : List ℕ → Bool
is_still_text t = not (length t == 0) && is_utf8 t

-- A position, given whether it holds none, and whether those that it holds are still where so many elements may be open.
abbrev pub is_still_label : List ℕ → Label → Bool → (ℕ → Bool) → ℕ → Bool
is_still_label prefix nothing empty kids room = true
is_still_label prefix (text t) empty kids room = is_still_text t
is_still_label prefix (element name attributes) empty kids room =
    list_all (is_still_attribute prefix) attributes && may_hold (void_flag name) empty kids room
is_still_label prefix array empty kids room = kids room
is_still_label prefix boundary empty kids room = false
is_still_label prefix (wait resource) empty kids room = false
is_still_label prefix (fail digest) empty kids room = false

-- Positions are elements and texts alone, with names, values and texts as a page may print them, where so many more
-- elements may be open: none is a boundary, waits or has failed.
abbrev pub is_still : List ℕ → Spots → ℕ → Bool
is_still prefix none room = true
is_still prefix (spot label kids other later) room =
    is_still_label prefix label (is_none kids) (is_still prefix kids) room && is_still prefix later room

-- The page isn't too large, and its nodes are elements and texts alone.
pub record IsStill (page : Page) : Type 0 where
  pub light : page_weight page ≤ most_weight
  pub still : is_still page.prefix (spots_in (forest_of page)) most_open ≡ true
