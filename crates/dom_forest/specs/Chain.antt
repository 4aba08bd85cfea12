-- Entries as a chain of slots, each with the ids of the entries before and after it.
use Rattle.std.specs.Prelude.{◌≡◌, ℕ, zero, suc, ◌+◌, ◌-◌, ◌≤◌, ◌==◌, if◌then◌else◌, List, [], ◌∷◌, ◌++◌, Option, Some, None, length}
use Rattle.dom_forest.specs.declared.node.NewNode.{NewNode}
use Rattle.dom_forest.specs.declared.entry.Entry.{Entry}
use Rattle.dom_forest.specs.declared.chain.Slot.{Slot}
use Rattle.dom_forest.specs.declared.chain.Chain.{Chain}

-- How often an id stands in entries.
abbrev pub entry_times : ℕ → List Entry → ℕ
entry_times id [] = 0
entry_times id (e ∷ es) = (if e.id == id then 1 else 0) + entry_times id es

-- The slot of an id.
abbrev pub slot_at : List (Option Slot) → ℕ → Option Slot
slot_at [] id = None
slot_at (s ∷ ss) zero = s
slot_at (s ∷ ss) (suc id) = slot_at ss id

-- The id of the first entry, or else what follows.
abbrev pub head_id : List Entry → Option ℕ → Option ℕ
head_id [] stop = stop
head_id (e ∷ es) stop = Some e.id

-- The id of the last entry, or else what comes before.
abbrev pub last_id : Option ℕ → List Entry → Option ℕ
last_id before [] = before
last_id before (e ∷ es) = last_id (Some e.id) es

abbrev pub slot_for : Entry → Option ℕ → Option ℕ → Slot
slot_for e before after = record { depth = e.depth; node = e.node; previous = before; next = after }

abbrev pub entry_in : ℕ → Slot → Entry
entry_in id s = record { depth = s.depth; id = id; node = s.node }

-- The slots of entries that stand between others.
abbrev pub Run : (ℕ → Option Slot) → Option ℕ → List Entry → Option ℕ → Type 0
Run slots before [] stop = Unit {0}
Run slots before (e ∷ es) stop = (slots e.id ≡ Some (slot_for e before (head_id es stop))) × Run slots (Some e.id) es stop

-- The slots are those of the entries and of no others.
pub record IsChain (slots : List (Option Slot)) (first last : Option ℕ) (entries : List Entry) : Type 0 where
  pub run : Run (slot_at slots) None entries None
  pub head : first ≡ head_id entries None
  pub end : last ≡ last_id None entries
  pub once : (id : ℕ) → entry_times id entries ≤ 1
  pub gone : (id : ℕ) → entry_times id entries ≡ 0 → slot_at slots id ≡ None
  pub within : length entries ≤ length slots

abbrev pub IsChainOf : Chain → List Entry → Type 0
IsChainOf chain entries = IsChain chain.slots.items chain.first chain.last entries

abbrev pub first_entries_at : ℕ → (Option ℕ → List Entry) → Option Slot → List Entry
first_entries_at id rest None = []
first_entries_at id rest (Some s) = entry_in id s ∷ rest s.next

-- The first entries of a chain from an id on, at most so many.
abbrev pub first_entries : List (Option Slot) → ℕ → Option ℕ → List Entry
first_entries slots zero id = []
first_entries slots (suc n) None = []
first_entries slots (suc n) (Some id) = first_entries_at id (first_entries slots n) (slot_at slots id)

abbrev pub entries_of : Chain → List Entry
entries_of chain = first_entries chain.slots.items (length chain.slots.items) chain.first

abbrev pub slot_with : (Slot → Slot) → Option Slot → Option Slot
slot_with f None = None
slot_with f (Some s) = Some (f s)

abbrev pub to_next : Option ℕ → Slot → Slot
to_next next s = record { depth = s.depth; node = s.node; previous = s.previous; next = next }

abbrev pub to_previous : Option ℕ → Slot → Slot
to_previous previous s = record { depth = s.depth; node = s.node; previous = previous; next = s.next }

abbrev pub to_node : NewNode → Slot → Slot
to_node node s = record { depth = s.depth; node = node; previous = s.previous; next = s.next }

-- One level higher.
abbrev pub slot_above : Slot → Slot
slot_above s = record { depth = s.depth - 1; node = s.node; previous = s.previous; next = s.next }

-- The slots with another link of one of them.
abbrev pub with_next : Option ℕ → Option ℕ → (ℕ → Option Slot) → ℕ → Option Slot
with_next None next slots i = slots i
with_next (Some id) next slots i = if i == id then slot_with (to_next next) (slots i) else slots i

abbrev pub with_previous : Option ℕ → Option ℕ → (ℕ → Option Slot) → ℕ → Option Slot
with_previous None previous slots i = slots i
with_previous (Some id) previous slots i = if i == id then slot_with (to_previous previous) (slots i) else slots i

-- The first and the last id, with another one where the link is not a slot's.
abbrev pub end_set : Option ℕ → Option ℕ → Option ℕ → Option ℕ
end_set None new old = new
end_set (Some id) new old = old

abbrev pub previous_in : Option Slot → Option ℕ
previous_in None = None
previous_in (Some s) = s.previous

abbrev pub previous_at : Chain → Option ℕ → Option ℕ
previous_at chain None = chain.last
previous_at chain (Some id) = previous_in (slot_at chain.slots.items id)

-- The entries from an id on; none for None.
abbrev pub rest_from : Option ℕ → List Entry → List Entry
rest_from None es = []
rest_from (Some id) [] = []
rest_from (Some id) (e ∷ es) = if e.id == id then e ∷ es else rest_from (Some id) es

-- The entries up to an id; none for None.
abbrev pub up_to : Option ℕ → List Entry → List Entry
up_to None es = []
up_to (Some id) [] = []
up_to (Some id) (e ∷ es) = if e.id == id then e ∷ [] else e ∷ up_to (Some id) es

-- A slot and what stands around it.
pub record IsSlotOf (entries : List Entry) (id : ℕ) (slot : Slot) : Type 0 where
  pub whole : entries ≡ up_to slot.previous entries ++ entry_in id slot ∷ rest_from slot.next entries
  pub from : rest_from (Some id) entries ≡ entry_in id slot ∷ rest_from slot.next entries
  pub to : up_to (Some id) entries ≡ up_to slot.previous entries ++ entry_in id slot ∷ []
  pub before : slot.previous ≡ last_id None (up_to slot.previous entries)
  pub after : slot.next ≡ head_id (rest_from slot.next entries) None
