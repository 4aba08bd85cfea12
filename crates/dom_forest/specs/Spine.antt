-- The nodes in which the last one stands.
use Rattle.std.specs.Prelude.{ℕ, ◌<◌, ◌++◌, Bool, true, nat_lt, List, [], ◌∷◌, Option, Some, None, String, length, reverse}
use Rattle.std.specs.BTreeMap.{BTreeMap}
use Rattle.std.specs.declared.alloc.Global.{Global}
use Rattle.dom_forest.specs.declared.ids.Holder.{Holder}
use Rattle.dom_forest.specs.Index.{IsIndexOf}
use Rattle.dom_forest.specs.declared.entry.Entry.{Entry}
use Rattle.dom_forest.specs.declared.chain.Slot.{Slot}
use Rattle.dom_forest.specs.declared.chain.Chain.{Chain}
use Rattle.dom_forest.specs.Chain.{IsChainOf, entries_of, rest_from}
use Rattle.dom_forest.specs.Flat.{IsDocument, forest_of}

-- All entries are deeper.
abbrev pub AllBelow : ℕ → List Entry → Type 0
AllBelow depth [] = Unit {0}
AllBelow depth (e ∷ es) = (depth < e.depth) × AllBelow depth es

-- Of entries from a node on: the node is less deep than the bound, and all others stand below it. There are none from a
-- node that is gone.
abbrev pub OnSpine : List Entry → ℕ → (ℕ → Type 0) → Type 0
OnSpine [] bound above = above bound
OnSpine (e ∷ es) bound above = (e.depth < bound) × AllBelow e.depth es × above e.depth

-- Ids of nodes less deep than the bound, the deepest first, after which nothing comes but what stands below them.
abbrev pub IsSpine : List Entry → ℕ → List ℕ → ℕ → Type 0
IsSpine entries next [] bound = Unit {0}
IsSpine entries next (id ∷ ids) bound = (id < next) × OnSpine (rest_from (Some id) entries) bound (IsSpine entries next ids)

-- The same of ids in document order, with any bound.
abbrev pub IsSpineOf : List Entry → ℕ → List ℕ → Type 0
IsSpineOf entries next ids = (bound : ℕ) × IsSpine entries next (reverse ids) bound

-- The slot is gone, or deeper.
abbrev pub is_late : ℕ → Option Slot → Bool
is_late depth None = true
is_late depth (Some s) = nat_lt depth s.depth

-- The chain is that of a document.
pub record IsHeld (chain : Chain) : Type 0 where
  pub links : IsChainOf chain (entries_of chain)
  pub document : IsDocument (entries_of chain) (length chain.slots.items)

-- What a document keeps.
pub record IsKept (chain : Chain) (ids : List ℕ) (holders : Option (BTreeMap (String Global) Holder)) : Type 0 where
  pub held : IsHeld chain
  pub spine : IsSpineOf (entries_of chain) (length chain.slots.items) ids
  pub index : IsIndexOf holders (forest_of (entries_of chain))

-- The first of ids.
abbrev pub first_place : List ℕ → Option ℕ
first_place [] = None
first_place (id ∷ ids) = Some id

-- The ids with another one at the end, where nothing comes after it.
abbrev pub with_last_id : Option ℕ → ℕ → List ℕ → List ℕ
with_last_id None id ids = ids ++ id ∷ []
with_last_id (Some next) id ids = ids
