-- The bytes of a document of elements, texts and comments, as React's server renderer prints them.
use Rattle.std.specs.Prelude.{zero, suc, ◌≡◌, ◌≢◌, ℕ, ◌+◌, Bool, true, false, if◌then◌else◌, List, [], ◌++◌, codes, Option}
use Rattle.std.specs.Str.{IsUtf8}
use Rattle.fizz_text.specs.declared.attribute.Attr.{Attr}
use Rattle.html_names.specs.Escape.{escape_of}
use Rattle.html_names.specs.Printing.{tag_prefix, end_tag}
use Rattle.html_names.specs.Comments.{comment_spelling}
use Rattle.html_read.specs.Tokens.{AreAttributes}
use Rattle.html_read.specs.Names.{IsTagName}
use Rattle.html_names.specs.declared.comments.CommentKind.{CommentKind}
use Rattle.html_names.specs.declared.comments.CommentKind.TheVariants as said
use Rattle.dom_forest.specs.Printing.{is_void}
use Rattle.dom_forest.specs.Forest.{Forest, empty, tree, count}
use Rattle.dom_forest.specs.Edits.{DomState, with_last, numbered_from}
use Rattle.dom_forest.specs.declared.node.Mark.{Mark}
use Rattle.dom_forest.specs.declared.node.Mark.TheVariants.{Complete, Pending, Client, End, Space}
use Rattle.dom_forest.specs.declared.node.NodeId.{NodeId}
use Rattle.dom_forest.specs.declared.node.NewNode.TheVariants.{Element, Text, Comment}
use Rattle.document_machine.specs.Running.{PageState, innermost}

-- what is said by a comment
abbrev pub said_of : Mark → CommentKind
said_of Complete = said.Complete
said_of Pending = said.Pending
said_of Client = said.Client
said_of End = said.End
said_of Space = said.Space

-- An element around the bytes of its children; a void one is its tag alone.
abbrev pub element_bytes : List ℕ → List Attr → List ℕ → List ℕ
element_bytes name attributes inner =
    if is_void name then tag_prefix name attributes ++ codes "/>"
    else (tag_prefix name attributes ++ codes ">") ++ (inner ++ end_tag name)

abbrev pub page_bytes : Forest → List ℕ
page_bytes empty = []
page_bytes (tree i (Element name attributes) kids later) = element_bytes name attributes (page_bytes kids) ++ page_bytes later
page_bytes (tree i (Text text) kids later) = escape_of text ++ page_bytes later
page_bytes (tree i (Comment mark) kids later) = comment_spelling (said_of mark) ++ page_bytes later

abbrev pub HasNoNode : Forest → Type 0
HasNoNode empty = Unit {0}
HasNoNode (tree i content kids later) = ⊥

-- Whether children may stand in an element of this name where so many more elements may be open: none in a void one.
abbrev pub MayHold : Bool → ℕ → Forest → (ℕ → Type 0) → Type 0
MayHold true room kids may = HasNoNode kids
MayHold false zero kids may = ⊥
MayHold false (suc room) kids may = may room

-- A document that may be printed where so many more elements may be open, after a text or not: names and attributes are
-- those of the printed profile, a text is not empty, and no text follows another.
abbrev pub MayPrint : Forest → Bool → ℕ → Type 0
MayPrint empty after_text room = Unit {0}
MayPrint (tree i (Element name attributes) kids later) after_text room =
    IsTagName name × AreAttributes attributes × MayHold (is_void name) room kids (MayPrint kids false) × MayPrint later false room
MayPrint (tree i (Text text) kids later) after_text room =
    HasNoNode kids × (text ≢ []) × IsUtf8 text × (after_text ≡ false) × MayPrint later true room
MayPrint (tree i (Comment mark) kids later) after_text room = HasNoNode kids × MayPrint later false room

-- The document with more nodes at the end of an element, or at the end for None. They get new ids in document order.
abbrev pub with_nodes : Option NodeId → Forest → DomState → DomState
with_nodes parent more dom = record {
  forest = with_last parent (numbered_from dom.next more) dom.forest;
  next = dom.next + count more;
}

-- with more nodes at the end of the innermost open element
abbrev pub with_forest : Forest → PageState → PageState
with_forest more b = record b { dom = with_nodes (innermost b.opened) more b.dom }
