-- Where the instructions of a page find what they move: apart from markers.
use Rattle.std.specs.Prelude.{◌≡◌, ℕ, Bool, true, false, List, Some}
use Rattle.dom_forest.specs.Forest.{Forest, empty, tree}
use Rattle.dom_forest.specs.Ids.{has_id}
use Rattle.fizz_instructions.specs.Bodies.{placeholder_id, segment_id}
use Rattle.document_machine.specs.Edits.{waits}

-- Whether the last of siblings is a marker `$?` or `$!`, where what stands before them is one or not.
abbrev pub ends_after : Bool → Forest → Bool
ends_after m empty = m
ends_after m (tree i c kids later) = ends_after (waits (Some c)) later

-- No container and no placeholder stands directly after a marker `$?` or `$!`, and no container's last child is one.
-- Elsewhere what is moved would come directly after a marker or leave the next sibling there, and a separator in one of
-- two documents would tell them apart.
abbrev pub StandApart : List ℕ → Bool → Forest → Type 0
StandApart prefix m empty = Unit {0}
StandApart prefix m (tree i c kids later) =
    ((h : ℕ) → has_id (segment_id prefix h) c ≡ true → (m ≡ false) × (ends_after false kids ≡ false))
    × ((h : ℕ) → has_id (placeholder_id prefix h) c ≡ true → m ≡ false)
    × StandApart prefix false kids × StandApart prefix (waits (Some c)) later
