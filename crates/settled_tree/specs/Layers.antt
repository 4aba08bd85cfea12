-- Nodes and documents, one layer at a time: for private functions.
use Rattle.std.specs.Prelude.{ℕ, ◌+◌, Bool, true, false, List, [], ◌∷◌, ◌++◌, sum_by}
use Rattle.std.specs.List.{flat_map}
use Rattle.dom_forest.specs.declared.document.DocNode.{DocNode}
use Rattle.dom_forest.specs.declared.document.DocNode.TheOpen.{DocNode-F}
use Rattle.dom_forest.specs.declared.document.DocNode.TheFolds.{fold-DocNode}
use Rattle.dom_forest.specs.declared.document.DocPart.{DocPart}
use Rattle.dom_forest.specs.declared.document.DocPart.TheVariants as part
use Rattle.jsx_value.specs.declared.spot.Kin.{Kin}
use Rattle.jsx_value.specs.declared.shape.Shape.{Shape}
use Rattle.jsx_value.specs.declared.shape.Shape.TheVariants as s
use Rattle.jsx_value.specs.Positions.{Page, Place, expansion}
use Rattle.jsx_value.specs.SeenPlaces.{page_with, place_of}
use Rattle.jsx_value.specs.Spots.{none, spots_of, fails, settled}
use Rattle.jsx_value.specs.Expansions.{IsUnfolded}
use Rattle.jsx_value.specs.Weights.{AddsUp, weight_at}
use Rattle.settled_tree.specs.declared.expansion.Page.{Page as CodePage}
use Rattle.settled_tree.specs.declared.forest.FNode.{FNode}
use Rattle.settled_tree.specs.declared.forest.FNode.TheVariants as f
use Rattle.settled_tree.specs.Forests.{nodes_at, node_spots}
use Rattle.settled_tree.specs.Final.{final_document}

abbrev pub page_of : CodePage → Page
page_of page = page_with page.file.now page.outcomes.now page.settled page.prefix.now

-- what the laws of expansions say of a page
pub record Unfolds (page : Page) : Type 0 where
  pub layers : IsUnfolded page
  pub weights : AddsUp page

abbrev pub kin_weight : Page → Kin → ℕ
kin_weight page kin = weight_at page (place_of kin)

abbrev pub kids_weight : Page → List Kin → ℕ
kids_weight page kids = sum_by (kin_weight page) kids

-- the nodes of a place at a path
abbrev pub place_nodes : Page → List ℕ → Place → List FNode
place_nodes page path place = nodes_at path (spots_of (expansion page place) none)

-- places in a row inside the position at a path, the first of which has the number n
abbrev pub nodes_in_row : Page → List ℕ → ℕ → List Place → List FNode
nodes_in_row page path n [] = []
nodes_in_row page path n (place ∷ places) =
    place_nodes page (path ++ n ∷ []) place ++ nodes_in_row page path (n + 1) places

abbrev pub layer_nodes : Page → List ℕ → Shape Place → List FNode
layer_nodes page path s.Nothing = []
layer_nodes page path (s.Text t) = f.Text t ∷ []
layer_nodes page path (s.Element name attributes kids) = f.Element name attributes (nodes_in_row page path 0 kids) ∷ []
layer_nodes page path (s.Array kids) = nodes_in_row page path 0 kids
layer_nodes page path (s.Boundary content fallback) =
    f.Boundary path (place_nodes page (path ++ 0 ∷ []) content) (place_nodes page (path ++ 1 ∷ []) fallback) ∷ []
layer_nodes page path (s.Wait resource) = f.Wait resource path ∷ []
layer_nodes page path (s.Fail digest) = f.Fail digest ∷ []

-- one node
abbrev pub failures_of : FNode → List (List ℕ)
failures_of node = fails (settled (node_spots node none))

abbrev pub has_failed : List (List ℕ) → Bool
has_failed [] = false
has_failed (digest ∷ more) = true

abbrev pub shown_nodes : FNode → List DocNode
shown_nodes node = final_document (settled (node_spots node none))

-- the parts of a document
abbrev pub parts_step : DocNode-F (List DocPart) → List DocPart
parts_step (DocNode-F.Element name attributes kids) =
    part.Element name attributes ∷ (flat_map (λ parts. parts) kids ++ part.End ∷ [])
parts_step (DocNode-F.Text text) = part.Text text ∷ []

abbrev pub node_parts : DocNode → List DocPart
node_parts = fold-DocNode (List DocPart) parts_step

abbrev pub parts_of : List DocNode → List DocPart
parts_of nodes = flat_map node_parts nodes
