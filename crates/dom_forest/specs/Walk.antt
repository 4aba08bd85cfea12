-- Steps along a chain.
use Rattle.std.specs.Prelude.{◌≡◌, ℕ, ◌<◌, List, ◌∷◌, Option, None}
use Rattle.dom_forest.specs.declared.entry.Entry.{Entry}
use Rattle.dom_forest.specs.declared.chain.Slot.{Slot}
use Rattle.dom_forest.specs.Chain.{entry_in, head_id, rest_from}

-- The slot is that of the first of the entries from an id on, and it is deeper.
pub record IsDeeper (entries : List Entry) (id : Option ℕ) (depth : ℕ) (slot : Slot) : Type 0 where
  pub own : ℕ
  pub from : rest_from id entries ≡ entry_in own slot ∷ rest_from slot.next entries
  pub deeper : depth < slot.depth
  pub after : slot.next ≡ head_id (rest_from slot.next entries) None
