-- The final document of a page: what it shows once nothing settles any more.
use Rattle.std.specs.Prelude.{ℕ, List, [], ◌∷◌, ◌++◌}
use Rattle.dom_forest.specs.declared.document.DocNode.{DocNode}
use Rattle.dom_forest.specs.declared.document.DocNode.TheVariants as doc
use Rattle.jsx_value.specs.Positions.{Page}
use Rattle.jsx_value.specs.Expansions.{page_spots}
use Rattle.jsx_value.specs.Spots.{Label, nothing, text, element, array, boundary, wait, fail, Spots, none, spot, fails, settled}
use Rattle.settled_tree.specs.declared.forest.FNode.{FNode}
use Rattle.settled_tree.specs.Forests.{spots_in}

-- A boundary shows its content where none of that has failed, and its fallback elsewhere.
abbrev pub shown_of : List (List ℕ) → List DocNode → List DocNode → List DocNode
shown_of [] content fallback = content
shown_of (digest ∷ more) content fallback = fallback

-- The nodes of a position, given the failures inside it and the nodes of the positions inside it. A wait and a failure
-- show nothing; they stand in no document that is shown.
abbrev pub final_nodes : Label → List (List ℕ) → List DocNode → List DocNode → List DocNode
final_nodes nothing failures kids other = []
final_nodes (text t) failures kids other = doc.Text t ∷ []
final_nodes (element name attributes) failures kids other = doc.Element name attributes kids ∷ []
final_nodes array failures kids other = kids
final_nodes boundary failures kids other = shown_of failures kids other
final_nodes (wait resource) failures kids other = []
final_nodes (fail digest) failures kids other = []

-- Elements and texts are kept. It is meant where no wait is left and no failure lies outside all boundaries.
abbrev pub final_document : Spots → List DocNode
final_document none = []
final_document (spot label kids other later) =
    final_nodes label (fails kids) (final_document kids) (final_document other) ++ final_document later

-- the settled tree of a page: each wait is taken as a failure with the digest `unsettled`
abbrev pub settled_tree : Page → Spots
settled_tree page = settled (page_spots page)

-- the same of nodes
abbrev pub settled_nodes : List FNode → Spots
settled_nodes nodes = settled (spots_in nodes)
