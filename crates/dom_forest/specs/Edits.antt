-- What each edit makes of a document.
use Rattle.std.specs.Prelude.{◌≡◌, ℕ, ◌+◌, ◌≤◌, ◌==◌, if◌then◌else◌, Bool, not, List, [], ◌∷◌, Option, Some, None, filter, codes}
use Rattle.std.specs.Str.{bytes_eq}
use Rattle.fizz_text.specs.declared.attribute.Attr.{Attr}
use Rattle.dom_forest.specs.declared.node.NewNode.{NewNode}
use Rattle.dom_forest.specs.declared.node.NewNode.TheVariants.{Element, Text, Comment}
use Rattle.dom_forest.specs.declared.node.NodeId.{NodeId}
use Rattle.dom_forest.specs.Forest.{Forest, empty, tree, times, count, joined_forests, from, first_tree, first_kids}

-- A document that is edited: its nodes, and the id that the next new node gets. Ids are given in ascending order, so
-- that of a removed node never comes back.
pub record DomState : Type 0 where
  pub forest : Forest
  pub next : ℕ

-- Each id stands once, and is below the next one. This is so in every document.
pub record IsNumbered (dom : DomState) : Type 0 where
  pub once : (id : ℕ) → times id dom.forest ≤ 1
  pub given : (id : ℕ) → dom.next ≤ id → times id dom.forest ≡ 0

abbrev pub nothing : DomState
nothing = record { forest = empty; next = 0 }

-- The forest in which the siblings from the node on are others, made of the node's content, its children and its later
-- siblings. All else stays.
abbrev pub with_change : ℕ → (NewNode → Forest → Forest → Forest) → Forest → Forest
with_change id change empty = empty
with_change id change (tree i content kids later) =
    if i == id then change content kids later else tree i content (with_change id change kids) (with_change id change later)

-- The forest with another one after the last child of the element, or at the end for None.
abbrev pub with_last : Option NodeId → Forest → Forest → Forest
with_last None more forest = joined_forests forest more
with_last (Some parent) more forest =
    with_change parent.0 (λ content kids later. tree parent.0 content (joined_forests kids more) later) forest

-- The document with a new node as the last child, or as the last node at the top for None.
abbrev pub with_appended : Option NodeId → NewNode → DomState → DomState
with_appended parent node dom = record {
  forest = with_last parent (tree dom.next node empty empty) dom.forest;
  next = dom.next + 1;
}

-- The document with another content of a node.
abbrev pub with_content : ℕ → NewNode → DomState → DomState
with_content id node dom =
    record dom { forest = with_change id (λ content kids later. tree id node kids later) dom.forest }

-- The document without a node and all below it.
abbrev pub without_node : ℕ → DomState → DomState
without_node id dom = record dom { forest = with_change id (λ content kids later. later) dom.forest }

-- The forest with ids that ascend in document order from a first one.
abbrev pub numbered_from : ℕ → Forest → Forest
numbered_from next empty = empty
numbered_from next (tree i content kids later) =
    tree next content (numbered_from (next + 1) kids) (numbered_from (next + 1 + count kids) later)

-- A forest as a document of its own.
abbrev pub own_document : Forest → DomState
own_document forest = record { forest = numbered_from 0 forest; next = count forest }

-- A node with all below it, as a document of its own.
abbrev pub part_of : ℕ → DomState → DomState
part_of id dom = own_document (first_tree (from id dom.forest))

-- The document with another one before a node, as its earlier siblings. The nodes of the other get new ids in document
-- order.
abbrev pub with_before : ℕ → DomState → DomState → DomState
with_before id part dom = record {
  forest = with_change id (λ content kids later. joined_forests (numbered_from dom.next part.forest) (tree id content kids later)) dom.forest;
  next = dom.next + count part.forest;
}

-- The children of the first node at the top.
abbrev pub inner_of : DomState → DomState
inner_of dom = record dom { forest = first_kids dom.forest }

-- The attribute that holds the digest of a boundary's error.
abbrev pub digest_attribute : List ℕ → Attr
digest_attribute digest = record { name = codes "data-dgst"; value = Some digest }

abbrev pub is_digest : Attr → Bool
is_digest attribute = bytes_eq attribute.name (codes "data-dgst")

-- The attributes in which all of that name are replaced by one at the place of the first, or which have it at the end.
abbrev pub with_digest : List ℕ → List Attr → List Attr
with_digest digest [] = digest_attribute digest ∷ []
with_digest digest (a ∷ rest) =
    if is_digest a then digest_attribute digest ∷ filter (λ b. not (is_digest b)) rest else a ∷ with_digest digest rest

abbrev pub digest_set : List ℕ → NewNode → NewNode
digest_set digest (Element name attributes) = Element name (with_digest digest attributes)
digest_set digest (Text text) = Text text
digest_set digest (Comment mark) = Comment mark

-- The document with the digest at a node.
abbrev pub with_digest_at : ℕ → List ℕ → DomState → DomState
with_digest_at id digest dom =
    record dom { forest = with_change id (λ content kids later. tree id (digest_set digest content) kids later) dom.forest }
