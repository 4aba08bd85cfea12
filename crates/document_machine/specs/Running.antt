-- What a token does to a document that is being built: tags nest strictly, and a script runs when its end was read.
use Rattle.std.specs.Prelude.{ℕ, List, [], ◌∷◌, Option, Some, None}
use Rattle.fizz_text.specs.declared.attribute.Attr.{Attr}
use Rattle.html_names.specs.declared.comments.CommentKind.{CommentKind}
use Rattle.html_names.specs.declared.comments.CommentKind.TheVariants as said
use Rattle.dom_forest.specs.Edits.{DomState, nothing, with_appended}
use Rattle.dom_forest.specs.declared.node.Mark.{Mark}
use Rattle.dom_forest.specs.declared.node.Mark.TheVariants.{Complete, Pending, Client, End, Space}
use Rattle.dom_forest.specs.declared.node.NewNode.{NewNode}
use Rattle.dom_forest.specs.declared.node.NewNode.TheVariants.{Element}
use Rattle.dom_forest.specs.declared.node.NodeId.{NodeId}
use Rattle.fizz_instructions.specs.Sending.{no_function_sent}
use Rattle.fizz_instructions.specs.declared.instruction.SentFunctions.{SentFunctions}
use Rattle.fizz_instructions.specs.declared.instruction.Instruction.{Instruction}
use Rattle.fizz_instructions.specs.declared.instruction.Instruction.TheVariants as instruction
use Rattle.document_machine.specs.declared.building.OpenElement.{OpenElement}
use Rattle.document_machine.specs.Edits.{Edited, complete_boundary, fill_placeholder, client_render}

-- A document that is being built: its nodes, the open elements, the innermost first, and the functions that its
-- scripts have defined.
pub record PageState : Type 0 where
  pub dom : DomState
  pub opened : List OpenElement
  pub known : SentFunctions

-- where a page begins
abbrev pub at_first : PageState
at_first = record { dom = nothing; opened = []; known = no_function_sent }

-- where a resumption begins: on a document, with some functions known
abbrev pub on_document : DomState → SentFunctions → PageState
on_document dom known = record { dom = dom; opened = []; known = known }

abbrev pub innermost : List OpenElement → Option NodeId
innermost [] = None
innermost (o ∷ os) = Some o.id

abbrev pub ids_of : List OpenElement → List ℕ
ids_of [] = []
ids_of (o ∷ os) = o.id.0 ∷ ids_of os

abbrev pub mark_of : CommentKind → Mark
mark_of said.Complete = Complete
mark_of said.Pending = Pending
mark_of said.Client = Client
mark_of said.End = End
mark_of said.Space = Space

-- with a node at the end of the innermost open element
abbrev pub with_node : NewNode → PageState → PageState
with_node node b = record b { dom = with_appended (innermost b.opened) node b.dom }

-- with an element that is open from now on
abbrev pub with_open : List ℕ → List Attr → PageState → PageState
with_open name attributes b =
    record (with_node (Element name attributes) b) { opened = record { id = record { 0 = b.dom.next }; name = name } ∷ b.opened }

-- what an instruction makes of a document
abbrev pub edit_of : List ℕ → List ℕ → Instruction → DomState → Edited
edit_of prefix opened (instruction.Complete boundary segment) dom = complete_boundary prefix opened boundary segment dom
edit_of prefix opened (instruction.Segment segment) dom = fill_placeholder prefix opened segment dom
edit_of prefix opened (instruction.ClientRender boundary digest) dom = client_render prefix boundary digest dom
