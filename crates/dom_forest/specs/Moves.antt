-- Entries that are moved from one chain to another one.
use Rattle.std.specs.Prelude.{◌≡◌, ℕ, ◌+◌, List, ◌++◌, Option, None, All, length, take, drop, map}
use Rattle.dom_forest.specs.declared.entry.Entry.{Entry}
use Rattle.dom_forest.specs.declared.chain.Chain.{Chain}
use Rattle.dom_forest.specs.Chain.{IsChainOf, head_id}
use Rattle.dom_forest.specs.Flat.{CanShift, renumbered_entries, shifted_entry}

-- The first `k` of `many` entries from `first` on were moved: `id` is the first that is left.
pub record Moved (old_part old_chain part chain : Chain) (first id next : Option ℕ) (many k up down : ℕ) : Type 0 where
  pub left : (before run after : List Entry) → IsChainOf old_part (before ++ (run ++ after)) → first ≡ head_id (run ++ after) None → length run ≡ many
      → IsChainOf part (before ++ (drop k run ++ after)) × (id ≡ head_id (drop k run ++ after) None)
  pub moved : (before run after : List Entry) → IsChainOf old_part (before ++ (run ++ after)) → first ≡ head_id (run ++ after) None → length run ≡ many
      → All (CanShift up down) run → (front back : List Entry) → IsChainOf old_chain (front ++ back) → next ≡ head_id back None
      → IsChainOf chain (front ++ (renumbered_entries (length old_chain.slots.items) (map (shifted_entry up down) (take k run)) ++ back))
      × (length chain.slots.items ≡ length old_chain.slots.items + k)
  pub ids : length part.slots.items ≡ length old_part.slots.items
