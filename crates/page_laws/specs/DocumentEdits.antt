-- What the machine's edits leave of a streamed document.
use Rattle.std.specs.Prelude.{◌≡◌, ℕ, List, ◌∷◌, ◌++◌, Ok}
use Rattle.dom_forest.specs.Edits.{DomState, IsNumbered}
use Rattle.document_machine.specs.Edits.{Edited}
use Rattle.page_laws.specs.Nodes.{Nodes, nodes_of}
use Rattle.page_laws.specs.Pages.{Page}
use Rattle.page_laws.specs.Documents.{Container, StreamedDocument, IsCleanDocument, container_count, document_nodes}

-- The edit is made, and leaves these nodes.
pub record LeavesNodes (edited : Edited) (nodes : Nodes) : Type 0 where
  pub after : DomState
  pub is : edited ≡ Ok after
  pub are : nodes_of after.forest ≡ nodes

-- A numbered document is a streamed one.
pub record IsStreamed (prefix : List ℕ) (streamed : StreamedDocument) (dom : DomState) : Type 0 where
  pub numbered : IsNumbered dom
  pub clean : IsCleanDocument prefix streamed
  pub are : nodes_of dom.forest ≡ document_nodes prefix streamed

-- The document has one container of the segment, with this content, beside what is left without it.
pub record HasContainer (prefix : List ℕ) (h : ℕ) (content : Page) (left : StreamedDocument) (dom : DomState) : Type 0 where
  pub front : List Container
  pub back : List Container
  pub left_is : left.containers ≡ front ++ back
  pub one : container_count h left.containers ≡ 0
  pub streamed : IsStreamed prefix (record left { containers = front ++ record { id = h; content = content } ∷ back }) dom
