-- A printed document of elements and texts, read back.
use Rattle.std.specs.Prelude.{◌≡◌, ℕ, Bool, true, false, if◌then◌else◌, List, [], ◌∷◌, Some, map}
use Rattle.dom_forest.specs.Forest.{Forest, empty, tree}
use Rattle.dom_forest.specs.declared.document.DocNode.{DocNode}
use Rattle.dom_forest.specs.declared.document.DocNode.TheFolds.{fold-DocNode}
use Rattle.dom_forest.specs.declared.document.DocNode.TheOpen.{DocNode-F, Element as element_layer, Text as text_layer}
use Rattle.dom_forest.specs.declared.node.Mark.TheVariants.{Space}
use Rattle.dom_forest.specs.declared.node.NewNode.TheVariants.{Comment, Element, Text}
use Rattle.document_machine.specs.Documents.{RunsWhole, most_open}
use Rattle.document_machine.specs.Plain.{IsPlain}
use Rattle.document_machine.specs.Printing.{MayPrint}
use Rattle.document_machine.specs.Running.{PageState, at_first}
use Rattle.document_machine.specs.Settled.{settled_of}
use Rattle.document_machine.specs.Views.{view_of}

-- The bytes are a page that is whole, and nothing of it is pending: its settled document is this.
pub record IsDocument (prefix bytes : List ℕ) (nodes : List DocNode) : Type 0 where
  pub built : PageState
  pub run : RunsWhole prefix at_first bytes built
  pub settled : settled_of (view_of prefix built.dom.forest) ≡ Some nodes

-- A node as it stands in a page: whether it is a text, and the forest that it begins, given whether it follows a text and
-- what follows it.
pub record Standing : Type 0 where
  pub is_text : Bool
  pub before : Bool → Forest → Forest

abbrev pub siblings_forest : Bool → List Standing → Forest
siblings_forest after_text [] = empty
siblings_forest after_text (s ∷ ss) = s.before after_text (siblings_forest s.is_text ss)

-- `<!-- -->` stands between two texts.
abbrev pub standing_step : DocNode-F Standing → Standing
standing_step (element_layer name attributes kids) =
    record { is_text = false; before = λ after_text later. tree 0 (Element name attributes) (siblings_forest false kids) later }
standing_step (text_layer text) = record {
  is_text = true;
  before = λ after_text later.
      if after_text then tree 0 (Comment Space) empty (tree 0 (Text text) empty later) else tree 0 (Text text) empty later;
}

abbrev pub standing_of : DocNode → Standing
standing_of = fold-DocNode Standing standing_step

-- The nodes of a page that is printed from these.
abbrev pub printed_forest : List DocNode → Forest
printed_forest nodes = siblings_forest false (map standing_of nodes)

-- Names and attributes are those of the printed profile, no text is empty, void elements hold nothing, no more elements
-- stand in one another than may be open, and there is no template and no hidden container of the page's own.
pub record IsPrintable (prefix : List ℕ) (nodes : List DocNode) : Type 0 where
  pub legal : MayPrint (printed_forest nodes) false most_open
  pub own : IsPlain prefix true (printed_forest nodes)
