-- How a document of elements and texts is printed, after React's server renderer.
use Rattle.std.specs.Prelude.{ℕ, Bool, true, false, if◌then◌else◌, List, [], ◌∷◌, ◌++◌, codes, map, unwrap_or}
use Rattle.fizz_text.specs.declared.attribute.Attr.{Attr}
use Rattle.html_names.specs.Elements.{void_flag}
use Rattle.html_names.specs.Escape.{escape_of}
use Rattle.html_names.specs.Printing.{tag_prefix, end_tag}
use Rattle.dom_forest.specs.declared.document.DocNode.{DocNode}
use Rattle.dom_forest.specs.declared.document.DocNode.TheOpen.{DocNode-F, Element, Text}
use Rattle.dom_forest.specs.declared.document.DocNode.TheFolds.{fold-DocNode}

-- Whether HTML has a void element of this name, which has no content and no end tag.
abbrev pub is_void : List ℕ → Bool
is_void name = unwrap_or (void_flag name) false

-- `<!-- -->` keeps a text apart from a text before it, so that a reader of the page finds two texts.
abbrev pub text_bytes : Bool → List ℕ → List ℕ
text_bytes after_text text = (if after_text then codes "<!-- -->" else []) ++ escape_of text

-- A node as it is printed: whether it is a text, and its bytes, given whether it follows a text.
pub record Printed : Type 0 where
  pub is_text : Bool
  pub bytes : Bool → List ℕ

-- Siblings in order.
abbrev pub siblings_bytes : Bool → List Printed → List ℕ
siblings_bytes after_text [] = []
siblings_bytes after_text (p ∷ ps) = p.bytes after_text ++ siblings_bytes p.is_text ps

-- A void element is its tag alone, whatever it holds.
abbrev pub element_bytes : List ℕ → List Attr → List Printed → List ℕ
element_bytes name attributes kids =
    tag_prefix name attributes ++ (if is_void name then codes "/>" else codes ">" ++ siblings_bytes false kids ++ end_tag name)

-- One node, with its children printed.
abbrev pub printed_step : DocNode-F Printed → Printed
printed_step (Element name attributes kids) = record { is_text = false; bytes = λ _. element_bytes name attributes kids }
printed_step (Text text) = record { is_text = true; bytes = λ after_text. text_bytes after_text text }

abbrev pub printed_node : DocNode → Printed
printed_node = fold-DocNode Printed printed_step

-- The bytes of a document.
abbrev pub printed_nodes : List DocNode → List ℕ
printed_nodes nodes = siblings_bytes false (map printed_node nodes)
