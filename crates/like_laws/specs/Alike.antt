-- Documents that are the same but for the ids of their nodes, their separators and the digests of their templates.
use Rattle.std.specs.Prelude.{◌≡◌, ℕ, Bool, true, false, not, if◌then◌else◌, List, Some, codes, filter}
use Rattle.std.specs.Str.{bytes_eq}
use Rattle.fizz_text.specs.declared.attribute.Attr.{Attr}
use Rattle.dom_forest.specs.Edits.{is_digest}
use Rattle.dom_forest.specs.Forest.{Forest, empty, tree}
use Rattle.dom_forest.specs.Ids.{has_id}
use Rattle.dom_forest.specs.declared.node.Mark.TheVariants.{Space}
use Rattle.dom_forest.specs.declared.node.NewNode.{NewNode}
use Rattle.dom_forest.specs.declared.node.NewNode.TheVariants.{Element, Text, Comment}
use Rattle.document_machine.specs.Edits.{waits}

-- The attributes of an element, of a template without its digests.
abbrev pub attributes_without_digest : List ℕ → List Attr → List Attr
attributes_without_digest name attributes =
    if bytes_eq name (codes "template") then filter (λ a. not (is_digest a)) attributes else attributes

-- The content of a node, of a template without its digests.
abbrev pub content_without_digest : NewNode → NewNode
content_without_digest (Element name attributes) = Element name (attributes_without_digest name attributes)
content_without_digest (Text text) = Text text
content_without_digest (Comment mark) = Comment mark

-- An element that has an id stands directly after a marker `$?` or `$!` in both documents or in neither.
abbrev pub AgreesAfter : NewNode → Bool → Bool → Type 0
AgreesAfter content m n = (id : List ℕ) → has_id id content ≡ true → m ≡ n

-- Siblings that are alike, of which the first ones stand directly after such a marker or not: the same nodes with alike
-- children, in the same order. Separators, which are `<!-- -->`, may stand anywhere, but for one place: between such a
-- marker and an element with an id, or the end, they stand in both or in neither, since instructions look directly
-- before an element that they find by its id, and one may be appended.
pub data Alike : Bool → Bool → Forest → Forest → Type 0 where
  ends : (m : Bool) → Alike m m empty empty
  left : (m n : Bool) (i : ℕ) (f g : Forest) → Alike false n f g → Alike m n (tree i (Comment Space) empty f) g
  right : (m n : Bool) (j : ℕ) (f g : Forest) → Alike m false f g → Alike m n f (tree j (Comment Space) empty g)
  both : (m n : Bool) (i j : ℕ) (c d : NewNode) (kids others f g : Forest) → content_without_digest c ≡ content_without_digest d → AgreesAfter c m n
      → Alike false false kids others → Alike (waits (Some c)) (waits (Some d)) f g → Alike m n (tree i c kids f) (tree j d others g)

-- Two documents are alike.
abbrev pub AreAlike : Forest → Forest → Type 0
AreAlike f g = Alike false false f g
