-- Nodes as positions: each is one, before its later siblings.
use Rattle.std.proofs.Common.{◌≡◌, ℕ, ◌+◌, List, [], ◌∷◌, ◌++◌, refl, sym, ap, ap₂, ◌∙◌, subst, append_assoc, append-nil}
use Rattle.fizz_text.specs.declared.attribute.Attr.{Attr}
use Rattle.dom_forest.specs.declared.document.DocNode.TheVariants as doc
use Rattle.jsx_value.specs.declared.shape.Shape.{Shape}
use Rattle.jsx_value.specs.declared.shape.Shape.TheVariants as s
use Rattle.jsx_value.specs.declared.shape.Tree.{Tree, out-Tree}
use Rattle.jsx_value.specs.declared.shape.Tree.TheViews.{roll-out-Tree}
use Rattle.jsx_value.specs.declared.shape.Tree.TheFolds.{fold-roll-Tree, map-Tree}
use Rattle.jsx_value.specs.Positions.{Page, expansion, root_place}
use Rattle.jsx_value.specs.Spots.{shape_spots, spots_of, spots_step as tree_step}
use Rattle.jsx_value.specs.Spots.{Label, nothing, text, element, array, boundary, wait, fail, Spots, none, spot, fails, own_fails, settled, settled_label}
use Rattle.settled_tree.specs.declared.forest.FNode.{FNode, roll-FNode, out-FNode}
use Rattle.settled_tree.specs.declared.forest.FNode.TheVariants as f
use Rattle.settled_tree.specs.declared.forest.FNode.TheViews.{roll-out-FNode}
use Rattle.settled_tree.specs.declared.forest.FNode.TheOpen.{FNode-F}
use Rattle.settled_tree.specs.declared.forest.FNode.TheFolds.{fold-roll-FNode, map-FNode}
use Rattle.settled_tree.specs.Forests.{forest_of, node_spots, nodes_at, nodes_below, nodes_of, spots_in, spots_step}
use Rattle.settled_tree.specs.Final.{final_document, final_nodes, settled_nodes, settled_tree}
use Rattle.settled_tree.specs.Layers.{failures_of, shown_nodes}

-- one layer of a node, with the nodes inside as positions
abbrev layer_spots : FNode-F FNode → Spots → Spots
layer_spots y = spots_step (map-FNode FNode (Spots → Spots) node_spots y)

pub spots-roll : (y : FNode-F FNode) → node_spots (roll-FNode y) ≡ layer_spots y
spots-roll y = fold-roll-FNode (Spots → Spots) spots_step y

pub spots-Element : (name : List ℕ) (attributes : List Attr) (kids : List FNode) (later : Spots)
    → node_spots (f.Element name attributes kids) later ≡ spot (element name attributes) (spots_in kids) none later
spots-Element name attributes kids later = ap (λ n. node_spots n later) (sym (f.rolls-Element name attributes kids)) ∙ ap (λ g. g later) (spots-roll (FNode-F.Element name attributes kids))

pub spots-Text : (t : List ℕ) (later : Spots) → node_spots (f.Text t) later ≡ spot (text t) none none later
spots-Text t later = ap (λ n. node_spots n later) (sym (f.rolls-Text t)) ∙ ap (λ g. g later) (spots-roll (FNode-F.Text t))

pub spots-Boundary : (path : List ℕ) (content fallback : List FNode) (later : Spots)
    → node_spots (f.Boundary path content fallback) later ≡ spot boundary (spots_in content) (spots_in fallback) later
spots-Boundary path content fallback later =
    ap (λ n. node_spots n later) (sym (f.rolls-Boundary path content fallback)) ∙ ap (λ g. g later) (spots-roll (FNode-F.Boundary path content fallback))

pub spots-Fail : (digest : List ℕ) (later : Spots) → node_spots (f.Fail digest) later ≡ spot (fail digest) none none later
spots-Fail digest later = ap (λ n. node_spots n later) (sym (f.rolls-Fail digest)) ∙ ap (λ g. g later) (spots-roll (FNode-F.Fail digest))

pub spots-Wait : (resource path : List ℕ) (later : Spots) → node_spots (f.Wait resource path) later ≡ spot (wait resource) none none later
spots-Wait resource path later = ap (λ n. node_spots n later) (sym (f.rolls-Wait resource path)) ∙ ap (λ g. g later) (spots-roll (FNode-F.Wait resource path))

-- What is a position before later ones has the failures and the final document of the position, and then theirs.
record Leads (before : Spots → Spots) : Type 0 where
  failures : (later : Spots) → fails (settled (before later)) ≡ fails (settled (before none)) ++ fails (settled later)
  document : (later : Spots) → final_document (settled (before later)) ≡ final_document (settled (before none)) ++ final_document (settled later)

spot_leads : (label : Label) (kids other : Spots) → Leads (spot label kids other)
spot_leads label kids other = record {
  failures = λ later. ap (λ ds. ds ++ fails (settled later)) (sym (append-nil (own_fails (settled_label label) (fails (settled kids)) (fails (settled other)))));
  document = λ later. ap (λ ns. ns ++ final_document (settled later))
      (sym (append-nil (final_nodes (settled_label label) (fails (settled kids)) (final_document (settled kids)) (final_document (settled other)))));
}

layer_leads : (y : FNode-F FNode) → Leads (layer_spots y)
layer_leads (FNode-F.Element name attributes kids) = spot_leads (element name attributes) (spots_in kids) none
layer_leads (FNode-F.Text t) = spot_leads (text t) none none
layer_leads (FNode-F.Boundary path content fallback) = spot_leads boundary (spots_in content) (spots_in fallback)
layer_leads (FNode-F.Fail digest) = spot_leads (fail digest) none none
layer_leads (FNode-F.Wait resource path) = spot_leads (wait resource) none none

node_leads : (x : FNode) → Leads (node_spots x)
node_leads x = subst Leads (sym (ap node_spots (sym (roll-out-FNode x)) ∙ spots-roll (out-FNode x))) (layer_leads (out-FNode x))

pub fails-node : (x : FNode) (xs : List FNode) → fails (settled_nodes (x ∷ xs)) ≡ failures_of x ++ fails (settled_nodes xs)
fails-node x xs = (node_leads x).failures (spots_in xs)

pub final-node : (x : FNode) (xs : List FNode) → final_document (settled_nodes (x ∷ xs)) ≡ shown_nodes x ++ final_document (settled_nodes xs)
final-node x xs = (node_leads x).document (spots_in xs)

-- nodes in a row
pub fails-append : (xs ys : List FNode) → fails (settled_nodes (xs ++ ys)) ≡ fails (settled_nodes xs) ++ fails (settled_nodes ys)
fails-append [] ys = refl
fails-append (x ∷ xs) ys =
    fails-node x (xs ++ ys) ∙ ap (λ ds. failures_of x ++ ds) (fails-append xs ys)
    ∙ sym (append_assoc (failures_of x) (fails (settled_nodes xs)) (fails (settled_nodes ys)))
    ∙ ap (λ ds. ds ++ fails (settled_nodes ys)) (sym (fails-node x xs))

pub final-append : (xs ys : List FNode) → final_document (settled_nodes (xs ++ ys)) ≡ final_document (settled_nodes xs) ++ final_document (settled_nodes ys)
final-append [] ys = refl
final-append (x ∷ xs) ys =
    final-node x (xs ++ ys) ∙ ap (λ ns. shown_nodes x ++ ns) (final-append xs ys)
    ∙ sym (append_assoc (shown_nodes x) (final_document (settled_nodes xs)) (final_document (settled_nodes ys)))
    ∙ ap (λ ns. ns ++ final_document (settled_nodes ys)) (sym (final-node x xs))

-- The nodes of positions say the same as the positions.
record Same (nodes : List FNode) (spots : Spots) : Type 0 where
  failures : fails (settled_nodes nodes) ≡ fails (settled spots)
  document : final_document (settled_nodes nodes) ≡ final_document (settled spots)

inside_same : (label : Label) (kids kids' other other' : Spots)
    → fails (settled kids) ≡ fails (settled kids') → final_document (settled kids) ≡ final_document (settled kids')
    → fails (settled other) ≡ fails (settled other') → final_document (settled other) ≡ final_document (settled other')
    → (fails (settled (spot label kids other none)) ≡ fails (settled (spot label kids' other' none)))
    × (final_document (settled (spot label kids other none)) ≡ final_document (settled (spot label kids' other' none)))
inside_same label kids kids' other other' p q r s = (
  ap₂ (λ k o. own_fails (settled_label label) k o ++ []) p r,
  ap₂ (λ k d. final_nodes (settled_label label) k d (final_document (settled other)) ++ []) p q
      ∙ ap (λ d. final_nodes (settled_label label) (fails (settled kids')) (final_document (settled kids')) d ++ []) s,
)

label_same : (label : Label) (path : List ℕ) (k o : List FNode) (kids other : Spots) → Same k kids → Same o other
    → Same (nodes_of label path k o) (spot label kids other none)
label_same nothing path k o kids other ks os = record { failures = refl; document = refl }
label_same (text t) path k o kids other ks os = record {
  failures = ap (λ s. fails (settled s)) (spots-Text t none);
  document = ap (λ s. final_document (settled s)) (spots-Text t none);
}
label_same (element name attributes) path k o kids other ks os = record {
  failures = ap (λ s. fails (settled s)) (spots-Element name attributes k none) ∙ ap (λ ds. ds ++ []) ks.failures;
  document = ap (λ s. final_document (settled s)) (spots-Element name attributes k none) ∙ ap (λ ns. doc.Element name attributes ns ∷ []) ks.document;
}
label_same array path k o kids other ks os = record {
  failures = ks.failures ∙ sym (append-nil (fails (settled kids)));
  document = ks.document ∙ sym (append-nil (final_document (settled kids)));
}
label_same boundary path k o kids other ks os =
    let inner = inside_same boundary (spots_in k) kids (spots_in o) other ks.failures ks.document os.failures os.document in
    record {
      failures = ap (λ s. fails (settled s)) (spots-Boundary path k o none) ∙ inner.0;
      document = ap (λ s. final_document (settled s)) (spots-Boundary path k o none) ∙ inner.1;
    }
label_same (wait resource) path k o kids other ks os = record {
  failures = ap (λ s. fails (settled s)) (spots-Wait resource path none);
  document = ap (λ s. final_document (settled s)) (spots-Wait resource path none);
}
label_same (fail digest) path k o kids other ks os = record {
  failures = ap (λ s. fails (settled s)) (spots-Fail digest none);
  document = ap (λ s. final_document (settled s)) (spots-Fail digest none);
}

row_same : (label : Label) (kids other later : Spots) (nodes after : List FNode) → Same nodes (spot label kids other none) → Same after later
    → Same (nodes ++ after) (spot label kids other later)
row_same label kids other later nodes after here there = record {
  failures = fails-append nodes after ∙ ap₂ (λ a b. a ++ b) here.failures there.failures ∙ sym ((spot_leads label kids other).failures later);
  document = final-append nodes after ∙ ap₂ (λ a b. a ++ b) here.document there.document ∙ sym ((spot_leads label kids other).document later);
}

below_same : (spots : Spots) (above : List ℕ) (n : ℕ) → Same (nodes_below above n spots) spots
below_same none above n = record { failures = refl; document = refl }
below_same (spot label kids other later) above n =
    let path : List ℕ = above ++ n ∷ [] in
    let nodes : List FNode = nodes_of label path (nodes_below path 0 kids) (nodes_below path 1 other) in
    row_same label kids other later nodes (nodes_below above (n + 1) later)
    (label_same label path (nodes_below path 0 kids) (nodes_below path 1 other) kids other (below_same kids path 0) (below_same other path 1))
    (below_same later above (n + 1))

-- the first of positions without its later siblings
abbrev alone : Spots → Spots
alone none = none
alone (spot label kids other later) = spot label kids other none

first_same : (spots : Spots) (path : List ℕ) → Same (nodes_at path spots) (alone spots)
first_same none path = record { failures = refl; document = refl }
first_same (spot label kids other later) path =
    label_same label path (nodes_below path 0 kids) (nodes_below path 1 other) kids other (below_same kids path 0) (below_same other path 1)

shape_alone : (shape : Shape (Spots → Spots)) → alone (shape_spots shape none) ≡ shape_spots shape none
shape_alone s.Nothing = refl
shape_alone (s.Text t) = refl
shape_alone (s.Element name attributes kids) = refl
shape_alone (s.Array kids) = refl
shape_alone (s.Boundary content fallback) = refl
shape_alone (s.Wait resource) = refl
shape_alone (s.Fail digest) = refl

pub spots-tree : (tree : Tree) → spots_of tree ≡ shape_spots (map-Tree Tree (Spots → Spots) spots_of (out-Tree tree)).shape
spots-tree tree = ap spots_of (sym (roll-out-Tree tree)) ∙ fold-roll-Tree (Spots → Spots) tree_step (out-Tree tree)

tree_same : (tree : Tree) (path : List ℕ) → Same (nodes_at path (spots_of tree none)) (spots_of tree none)
tree_same tree path =
    subst (Same (nodes_at path (spots_of tree none)))
    (ap (λ (g : Spots → Spots). alone (g none)) (spots-tree tree) ∙ shape_alone (map-Tree Tree (Spots → Spots) spots_of (out-Tree tree)).shape
    ∙ ap (λ (g : Spots → Spots). g none) (sym (spots-tree tree)))
    (first_same (spots_of tree none) path)

pub forest_failures : (page : Page) → fails (settled_nodes (forest_of page)) ≡ fails (settled_tree page)
forest_failures page = (tree_same (expansion page root_place) []).failures

pub forest_document : (page : Page) → final_document (settled_nodes (forest_of page)) ≡ final_document (settled_tree page)
forest_document page = (tree_same (expansion page root_place) []).document
