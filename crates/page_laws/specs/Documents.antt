-- Documents as the renderer streams them: a page, and after it the hidden containers of segments.
use Rattle.std.specs.Prelude.{ℕ, ◌+◌, ◌==◌, if◌then◌else◌, List, [], ◌∷◌, codes}
use Rattle.dom_forest.specs.declared.node.NewNode.{NewNode}
use Rattle.dom_forest.specs.declared.node.NewNode.TheVariants.{Element}
use Rattle.fizz_instructions.specs.Bodies.{segment_id}
use Rattle.page_laws.specs.Nodes.{Nodes, none, node, joined_nodes}
use Rattle.page_laws.specs.Pages.{Page, IsCleanPage, hidden_attribute, id_attribute, page_nodes}

-- The hidden container of a segment, by its id.
pub record Container : Type 0 where
  pub id : ℕ
  pub content : Page

pub record StreamedDocument : Type 0 where
  pub shown : Page
  pub containers : List Container

-- `<div hidden id="S:0">`
abbrev pub container_element : List ℕ → ℕ → NewNode
container_element prefix id = Element (codes "div") (hidden_attribute ∷ id_attribute (segment_id prefix id) ∷ [])

abbrev pub container_nodes : List ℕ → List Container → Nodes
container_nodes prefix [] = none
container_nodes prefix (c ∷ cs) = node (container_element prefix c.id) (page_nodes prefix c.content) (container_nodes prefix cs)

abbrev pub document_nodes : List ℕ → StreamedDocument → Nodes
document_nodes prefix d = joined_nodes (page_nodes prefix d.shown) (container_nodes prefix d.containers)

-- The document with the same edit of each of its pages.
abbrev pub edited_containers : (Page → Page) → List Container → List Container
edited_containers edit [] = []
edited_containers edit (c ∷ cs) = record c { content = edit c.content } ∷ edited_containers edit cs

abbrev pub edited_pages : (Page → Page) → StreamedDocument → StreamedDocument
edited_pages edit d = record { shown = edit d.shown; containers = edited_containers edit d.containers }

-- A number summed over all pages of a document, as a count of ids.
abbrev pub sum_of_contents : (Page → ℕ) → List Container → ℕ
sum_of_contents count [] = 0
sum_of_contents count (c ∷ cs) = count c.content + sum_of_contents count cs

abbrev pub sum_of_pages : (Page → ℕ) → StreamedDocument → ℕ
sum_of_pages count d = count d.shown + sum_of_contents count d.containers

-- How many containers have an id.
abbrev pub container_count : ℕ → List Container → ℕ
container_count id [] = 0
container_count id (c ∷ cs) = (if c.id == id then 1 else 0) + container_count id cs

abbrev pub AreClean : List ℕ → List Container → Type 0
AreClean prefix [] = Unit {0}
AreClean prefix (c ∷ cs) = IsCleanPage prefix c.content × AreClean prefix cs

-- All pages of the document are clean.
abbrev pub IsCleanDocument : List ℕ → StreamedDocument → Type 0
IsCleanDocument prefix d = IsCleanPage prefix d.shown × AreClean prefix d.containers
