-- A forest as a flat list: its nodes in document order, each with its depth.
use Rattle.std.specs.Prelude.{◌≡◌, ℕ, ◌+◌, ◌-◌, ◌^◌, ◌≤◌, ◌<◌, slice_get, IsSomeAnd, Option, None, Some, ◌==◌, nat_lt, if◌then◌else◌, List, [], ◌∷◌, ◌++◌, length}
use Rattle.std.specs.List.{prefix_len}
use Rattle.dom_forest.specs.declared.entry.Entry.{Entry}
use Rattle.dom_forest.specs.Edits.{IsNumbered}
use Rattle.dom_forest.specs.declared.node.NodeId.{NodeId}
use Rattle.dom_forest.specs.Forest.{Forest, empty, tree, IsThere}

-- The entries of a forest whose trees stand at a depth, and then more entries.
abbrev pub flat : ℕ → Forest → List Entry → List Entry
flat depth empty more = more
flat depth (tree i content kids later) more =
    record { depth = depth; id = i; node = content } ∷ flat (depth + 1) kids (flat depth later more)

-- The siblings at a depth with which entries begin.
abbrev pub standing : List Entry → ℕ → Forest
standing [] depth = empty
standing (e ∷ es) depth =
    if e.depth == depth then tree e.id e.node (standing es (depth + 1)) (standing es depth) else
    if nat_lt e.depth depth then empty else standing es depth

-- The forest of entries that begin at the top.
abbrev pub forest_of : List Entry → Forest
forest_of entries = standing entries 0

-- The entries of a document: they are its forest's, and its ids stand once and below the next one.
pub record IsDocument (entries : List Entry) (next : ℕ) : Type 0 where
  pub whole : flat 0 (forest_of entries) [] ≡ entries
  pub numbered : IsNumbered (record { forest = forest_of entries; next = next })

-- The entry of the node with this id stands at this place.
abbrev pub IsPlace : List Entry → ℕ → ℕ → Type 0
IsPlace entries at id = IsSomeAnd (slice_get entries at) (λ (e : Entry). e.id ≡ id)

-- A node, its depth, and the place past all below it, which is where what stands deeper ends.
pub record IsSpan (entries : List Entry) (at end depth id : ℕ) : Type 0 where
  pub front : List Entry
  pub entry : Entry
  pub after : List Entry
  pub whole : entries ≡ front ++ entry ∷ after
  pub same : entry.id ≡ id
  pub place : at ≡ length front
  pub level : depth ≡ entry.depth
  pub past : end ≡ at + 1 + prefix_len (λ (e : Entry). nat_lt depth e.depth) after

-- An entry `up` levels higher and then `down` levels deeper.
abbrev pub shifted_entry : ℕ → ℕ → Entry → Entry
shifted_entry up down e = record { depth = e.depth - up + down; id = e.id; node = e.node }

-- The entry is at least `up` deep, and `down` levels deeper fit a number.
abbrev pub CanShift : ℕ → ℕ → Entry → Type 0
CanShift up down e = (up ≤ e.depth) × (e.depth + down < 2 ^ 64)

-- Entries with ids that ascend from `next`.
abbrev pub renumbered_entries : ℕ → List Entry → List Entry
renumbered_entries next [] = []
renumbered_entries next (e ∷ es) = record { depth = e.depth; id = next; node = e.node } ∷ renumbered_entries (next + 1) es

abbrev pub IsThereOrTop : Option NodeId → Forest → Type 0
IsThereOrTop None forest = Unit {0}
IsThereOrTop (Some parent) forest = IsThere parent.0 forest

-- The place past the last child of a node, or past all for None, and the depth of such a child.
abbrev pub IsEndOfKids : List Entry → Option NodeId → ℕ → ℕ → Type 0
IsEndOfKids entries None at depth = (at ≡ length entries) × (depth ≡ 0)
IsEndOfKids entries (Some parent) at depth = (here : ℕ) × (level : ℕ) × IsSpan entries here at level parent.0 × (depth ≡ level + 1)

-- So many entries are a node, its depth, and all below it.
abbrev pub IsPart : List Entry → ℕ → ℕ → ℕ → Type 0
IsPart entries id many depth = (place : ℕ) × IsSpan entries place (place + many) depth id
