-- The nodes of a place are those of its shape, with the nodes of the places inside.
use Rattle.std.proofs.Common.{◌≡◌, ℕ, ◌+◌, List, [], ◌∷◌, ◌++◌, map, refl, sym, ap, ap₂, ◌∙◌, append-nil}
use Rattle.jsx_value.specs.declared.shape.Shape.{Shape}
use Rattle.jsx_value.specs.declared.shape.Shape.TheVariants as s
use Rattle.jsx_value.specs.declared.shape.Tree.{Tree, out-Tree}
use Rattle.jsx_value.specs.declared.shape.Tree.TheFolds.{fold-roll-Tree, map-Tree}
use Rattle.jsx_value.specs.declared.spot.Kin.{Kin}
use Rattle.jsx_value.specs.Positions.{Page, Place, expansion, shape_of}
use Rattle.jsx_value.specs.SeenPlaces.{place_of, place_shape}
use Rattle.jsx_value.specs.Spots.{Spots, none, in_a_row, shape_spots, spots_of, spots_step}
use Rattle.jsx_value.specs.Expansions.{IsUnfolded}
use Rattle.settled_tree.specs.declared.forest.FNode.{FNode}
use Rattle.settled_tree.specs.declared.forest.FNode.TheVariants as f
use Rattle.settled_tree.specs.Forests.{nodes_at, nodes_below}
use Rattle.settled_tree.specs.Layers.{layer_nodes, nodes_in_row, place_nodes}
use Rattle.settled_tree.proofs.NodesLemmas.{spots-tree}

-- one position, before its later siblings
shape_below : (shape : Shape (Spots → Spots)) (above : List ℕ) (n : ℕ) (later : Spots)
    → nodes_below above n (shape_spots shape later) ≡ nodes_at (above ++ n ∷ []) (shape_spots shape none) ++ nodes_below above (n + 1) later
shape_below s.Nothing above n later = refl
shape_below (s.Text t) above n later = refl
shape_below (s.Element name attributes kids) above n later = refl
shape_below (s.Array kids) above n later = refl
shape_below (s.Boundary content fallback) above n later = refl
shape_below (s.Wait resource) above n later = refl
shape_below (s.Fail digest) above n later = refl

tree_below : (tree : Tree) (above : List ℕ) (n : ℕ) (later : Spots)
    → nodes_below above n (spots_of tree later) ≡ nodes_at (above ++ n ∷ []) (spots_of tree none) ++ nodes_below above (n + 1) later
tree_below tree above n later =
    ap (λ (g : Spots → Spots). nodes_below above n (g later)) (spots-tree tree)
    ∙ shape_below (map-Tree Tree (Spots → Spots) spots_of (out-Tree tree)).shape above n later
    ∙ ap (λ (g : Spots → Spots). nodes_at (above ++ n ∷ []) (g none) ++ nodes_below above (n + 1) later) (sym (spots-tree tree))

only_below : (tree : Tree) (above : List ℕ) (n : ℕ) → nodes_below above n (spots_of tree none) ≡ nodes_at (above ++ n ∷ []) (spots_of tree none)
only_below tree above n = tree_below tree above n none ∙ append-nil (nodes_at (above ++ n ∷ []) (spots_of tree none))

row_below : (page : Page) (places : List Place) (above : List ℕ) (n : ℕ)
    → nodes_below above n (in_a_row (map spots_of (map (expansion page) places))) ≡ nodes_in_row page above n places
row_below page [] above n = refl
row_below page (p ∷ ps) above n =
    tree_below (expansion page p) above n (in_a_row (map spots_of (map (expansion page) ps)))
    ∙ ap (λ ns. place_nodes page (above ++ n ∷ []) p ++ ns) (row_below page ps above (n + 1))

layer_places : (page : Page) (path : List ℕ) (calls : ℕ) (shape : Shape Place)
    → nodes_at path (spots_step (map-Tree Tree (Spots → Spots) spots_of (map-Tree Place Tree (expansion page) (record { calls = calls; shape = shape }))) none) ≡ layer_nodes page path shape
layer_places page path calls s.Nothing = refl
layer_places page path calls (s.Text t) = refl
layer_places page path calls (s.Element name attributes kids) = ap (λ ns. f.Element name attributes ns ∷ []) (row_below page kids path 0)
layer_places page path calls (s.Array kids) = row_below page kids path 0
layer_places page path calls (s.Boundary content fallback) =
    ap₂ (λ c o. f.Boundary path c o ∷ []) (only_below (expansion page content) path 0) (only_below (expansion page fallback) path 1)
layer_places page path calls (s.Wait resource) = refl
layer_places page path calls (s.Fail digest) = refl

pub place_nodes-layer : (page : Page) → IsUnfolded page → (path : List ℕ) (place : Place) → place_nodes page path place ≡ layer_nodes page path (shape_of page place).shape
place_nodes-layer page unfolds path place =
    ap (λ (t : Tree). nodes_at path (spots_of t none)) (unfolds place)
    ∙ ap (λ (g : Spots → Spots). nodes_at path (g none)) (fold-roll-Tree (Spots → Spots) spots_step (map-Tree Place Tree (expansion page) (shape_of page place)))
    ∙ layer_places page path (shape_of page place).calls (shape_of page place).shape

-- the same of the code's shapes
pub opened_nodes : (page : Page) → IsUnfolded page → (path : List ℕ) (place : Place) (shape seen : Shape Kin)
    → place_shape shape ≡ (shape_of page place).shape → shape ≡ seen → place_nodes page path place ≡ layer_nodes page path (place_shape seen)
opened_nodes page unfolds path place shape seen opens is =
    place_nodes-layer page unfolds path place ∙ ap (layer_nodes page path) (sym opens ∙ ap place_shape is)

pub boundary_pushed : (page : Page) → IsUnfolded page → (path : List ℕ) (place : Place) (shape : Shape Kin) (content fallback : Kin)
    → place_shape shape ≡ (shape_of page place).shape → shape ≡ s.Boundary content fallback
    → (old new : List FNode) (own : List ℕ) (inner other : List FNode) → new ≡ old ++ f.Boundary own inner other ∷ [] → own ≡ path
    → inner ≡ place_nodes page (path ++ 0 ∷ []) (place_of content) → other ≡ place_nodes page (path ++ 1 ∷ []) (place_of fallback)
    → new ≡ old ++ place_nodes page path place
boundary_pushed page unfolds path place shape content fallback opens is old new own inner other pushed own_is inner_is other_is =
    pushed
    ∙ ap (λ p. old ++ f.Boundary p inner other ∷ []) own_is
    ∙ ap₂ (λ c o. old ++ f.Boundary path c o ∷ []) inner_is other_is
    ∙ ap (λ ns. old ++ ns) (sym (opened_nodes page unfolds path place shape (s.Boundary content fallback) opens is))

pub wait_opened : (page : Page) → IsUnfolded page → (path : List ℕ) (place : Place) (shape : Shape Kin) (resource : List ℕ)
    → place_shape shape ≡ (shape_of page place).shape → shape ≡ s.Wait resource
    → (old new : List FNode) (own : List ℕ) → new ≡ old ++ f.Wait resource own ∷ [] → own ≡ path → new ≡ old ++ place_nodes page path place
wait_opened page unfolds path place shape resource opens is old new own pushed own_is =
    pushed
    ∙ ap (λ p. old ++ f.Wait resource p ∷ []) own_is
    ∙ ap (λ ns. old ++ ns) (sym (opened_nodes page unfolds path place shape (s.Wait resource) opens is))
