-- Content is shown whole: no part of it is still to come when its boundary is complete.
use Rattle.std.specs.Prelude.{◌≡◌, ℕ, Bool, false, ◌&&◌, ◌||◌, ◌==◌, if◌then◌else◌, List, [], ◌++◌, Some, codes, unwrap_or}
use Rattle.std.specs.List.{list_any}
use Rattle.std.specs.Str.{bytes_eq}
use Rattle.fizz_text.specs.declared.attribute.Attr.{Attr}
use Rattle.html_names.specs.Names.{begins_with}
use Rattle.dom_forest.specs.Forest.{Forest, empty, tree, content_of, later_of}
use Rattle.dom_forest.specs.Boundary.{end_of_boundary}
use Rattle.dom_forest.specs.declared.node.Mark.TheVariants.{Complete}
use Rattle.dom_forest.specs.declared.node.NewNode.{NewNode}
use Rattle.dom_forest.specs.declared.node.NewNode.TheVariants.{Element, Text, Comment}

abbrev pub is_placeholder_id : List ℕ → Attr → Bool
is_placeholder_id prefix a = bytes_eq a.name (codes "id") && begins_with (prefix ++ codes "P:") (unwrap_or a.value [])

-- a template in the place of a segment that is still to come
abbrev pub is_placeholder : List ℕ → NewNode → Bool
is_placeholder prefix (Element name attributes) = bytes_eq name (codes "template") && list_any (is_placeholder_id prefix) attributes
is_placeholder prefix (Text text) = false
is_placeholder prefix (Comment mark) = false

-- Whether a placeholder stands among the siblings before one of them, or below these.
abbrev pub has_placeholder_before : List ℕ → ℕ → Forest → Bool
has_placeholder_before prefix end empty = false
has_placeholder_before prefix end (tree i content kids later) =
    if i == end then false
    else is_placeholder prefix content || (has_placeholder_before prefix end kids || has_placeholder_before prefix end later)

-- Between `$` and its `/$` stands no placeholder.
abbrev pub RevealsWhole : List ℕ → Forest → Type 0
RevealsWhole prefix forest = (marker end : ℕ) → content_of marker forest ≡ Some (Comment Complete) →
    end_of_boundary marker forest ≡ Some end → has_placeholder_before prefix end (later_of marker forest) ≡ false
