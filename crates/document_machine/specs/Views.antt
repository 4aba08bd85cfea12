-- What counts of a document: its elements and texts, with the boundaries that their markers enclose.
use Rattle.std.specs.Prelude.{ℕ, Bool, true, false, ◌&&◌, ◌||◌, if◌then◌else◌, List, [], ◌∷◌, ◌++◌, codes, unwrap_or}
use Rattle.std.specs.List.{list_any}
use Rattle.std.specs.Str.{bytes_eq}
use Rattle.fizz_text.specs.declared.attribute.Attr.{Attr}
use Rattle.html_names.specs.Names.{begins_with}
use Rattle.dom_forest.specs.Forest.{Forest, empty, tree}
use Rattle.dom_forest.specs.declared.node.Mark.{Mark}
use Rattle.dom_forest.specs.declared.node.Mark.TheVariants.{Complete, Pending, Client, End, Space}
use Rattle.dom_forest.specs.declared.node.NewNode.TheVariants.{Element, Text, Comment}
use Rattle.document_machine.specs.declared.status.BoundaryStatus.{BoundaryStatus}
use Rattle.document_machine.specs.declared.status.BoundaryStatus.TheVariants as kind

-- Siblings as they are seen: none, or a first one with those after it.
pub data View : Type 0 where
  end : View
  text : List ℕ → View → View
  element : List ℕ → List Attr → View → View → View
  boundary : BoundaryStatus → List ℕ → View → View → View

abbrev pub joined_views : View → View → View
joined_views end after = after
joined_views (text t later) after = text t (joined_views later after)
joined_views (element name attributes items later) after = element name attributes items (joined_views later after)
joined_views (boundary kind digest items later) after = boundary kind digest items (joined_views later after)

abbrev pub has_name : List ℕ → List Attr → Bool
has_name name attributes = list_any (λ (a : Attr). bytes_eq a.name name) attributes

abbrev pub is_segment_id : List ℕ → Attr → Bool
is_segment_id prefix a = bytes_eq a.name (codes "id") && begins_with (prefix ++ codes "S:") (unwrap_or a.value [])

-- a hidden container of a segment, as it stands at the top of a document
abbrev pub is_container : List ℕ → List ℕ → List Attr → Bool
is_container prefix name attributes =
    (bytes_eq name (codes "div") && has_name (codes "hidden") attributes) && list_any (is_segment_id prefix) attributes

-- templates are left out, and at the top hidden containers
abbrev pub is_left_out : List ℕ → Bool → List ℕ → List Attr → Bool
is_left_out prefix at_top name attributes = bytes_eq name (codes "template") || (at_top && is_container prefix name attributes)

abbrev pub digest_in : List Attr → List ℕ
digest_in [] = []
digest_in (a ∷ rest) = if bytes_eq a.name (codes "data-dgst") then unwrap_or a.value [] else digest_in rest

-- the digest of a template that is the very next node after a marker
abbrev pub digest_after : Forest → List ℕ
digest_after empty = []
digest_after (tree i (Element name attributes) kids later) = if bytes_eq name (codes "template") then digest_in attributes else []
digest_after (tree i (Text t) kids later) = []
digest_after (tree i (Comment mark) kids later) = []

-- Siblings up to the first `/$` that nothing among them opened, then those up to the next one, and so on.
pub record Levels : Type 0 where
  pub first : View
  pub rest : List View

abbrev pub with_first : (View → View) → Levels → Levels
with_first f levels = record levels { first = f levels.first }

abbrev pub levels_at_end : Levels → Levels
levels_at_end levels = record { first = end; rest = levels.first ∷ levels.rest }

-- A boundary takes what stands up to its `/$`; where none follows, it runs to the end of its siblings.
abbrev pub levels_at_boundary : BoundaryStatus → List ℕ → View → List View → Levels
levels_at_boundary kind digest items [] = record { first = boundary kind digest items end; rest = [] }
levels_at_boundary kind digest items (after ∷ rest) = record { first = boundary kind digest items after; rest = rest }

abbrev pub levels_at_mark : Mark → Forest → Levels → Levels
levels_at_mark Complete later levels = levels_at_boundary kind.Complete [] levels.first levels.rest
levels_at_mark Pending later levels = levels_at_boundary kind.Pending [] levels.first levels.rest
levels_at_mark Client later levels = levels_at_boundary kind.Client (digest_after later) levels.first levels.rest
levels_at_mark End later levels = levels_at_end levels
levels_at_mark Space later levels = levels

abbrev pub joined_levels : View → List View → View
joined_levels first [] = first
joined_levels first (next ∷ rest) = joined_views first (joined_levels next rest)

-- A `/$` that nothing opened is left out.
abbrev pub siblings_of : Levels → View
siblings_of levels = joined_levels levels.first levels.rest

abbrev pub levels_of : List ℕ → Bool → Forest → Levels
levels_of prefix at_top empty = record { first = end; rest = [] }
levels_of prefix at_top (tree i (Element name attributes) kids later) =
    if is_left_out prefix at_top name attributes
    then levels_of prefix at_top later
    else with_first (element name attributes (siblings_of (levels_of prefix false kids))) (levels_of prefix at_top later)
levels_of prefix at_top (tree i (Text t) kids later) = with_first (text t) (levels_of prefix at_top later)
levels_of prefix at_top (tree i (Comment mark) kids later) = levels_at_mark mark later (levels_of prefix at_top later)

-- The view of a document: no separators, templates and hidden containers; texts are never joined.
abbrev pub view_of : List ℕ → Forest → View
view_of prefix forest = siblings_of (levels_of prefix true forest)
