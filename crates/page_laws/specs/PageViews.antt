-- What is seen of a page, and of siblings at the top of a document or in an element.
use Rattle.std.specs.Prelude.{◌≡◌, ℕ, Bool, List, []}
use Rattle.dom_forest.specs.Forest.{Forest, tree, joined_forests}
use Rattle.dom_forest.specs.declared.node.Mark.{Mark}
use Rattle.dom_forest.specs.declared.node.Mark.TheVariants.{Complete, Pending, Client, End}
use Rattle.dom_forest.specs.declared.node.NewNode.TheVariants.{Comment}
use Rattle.document_machine.specs.declared.status.BoundaryStatus.{BoundaryStatus}
use Rattle.document_machine.specs.declared.status.BoundaryStatus.TheVariants as status
use Rattle.document_machine.specs.Views as view
use Rattle.document_machine.specs.Views.{View, digest_after, levels_of, siblings_of}
use Rattle.page_laws.specs.Nodes.{nodes_of}
use Rattle.page_laws.specs.Pages.{Page, nothing, text, element, separator, placeholder, complete, pending, client}
use Rattle.page_laws.specs.Balance.{IsBalanced}

-- The elements, texts and boundaries of a page.
abbrev pub page_view : Page → View
page_view nothing = view.end
page_view (text t later) = view.text t (page_view later)
page_view (element name attributes content later) = view.element name attributes (page_view content) (page_view later)
page_view (separator later) = page_view later
page_view (placeholder id later) = page_view later
page_view (complete content later) = view.boundary status.Complete [] (page_view content) (page_view later)
page_view (pending id fallback later) = view.boundary status.Pending [] (page_view fallback) (page_view later)
page_view (client id digest fallback later) = view.boundary status.Client digest (page_view fallback) (page_view later)

-- The view of siblings that stand at the top of a document, or in an element.
abbrev pub siblings_view : List ℕ → Bool → Forest → View
siblings_view prefix at_top siblings = siblings_of (levels_of prefix at_top siblings)

-- The first `/$` that no marker among the siblings began is this node. What stands before it is balanced.
pub record EndsAt (siblings : Forest) (end : ℕ) : Type 0 where
  pub inside : Forest
  pub below : Forest
  pub after : Forest
  pub whole : siblings ≡ joined_forests inside (tree end (Comment End) below after)
  pub balanced : IsBalanced (nodes_of inside)

-- What a marker begins: the kind of the boundary, and its digest by what follows the marker.
pub data Begins : Mark → Forest → BoundaryStatus → List ℕ → Type 0 where
  completes : (later : Forest) → Begins Complete later status.Complete []
  waits : (later : Forest) → Begins Pending later status.Pending []
  fails : (later : Forest) → Begins Client later status.Client (digest_after later)
