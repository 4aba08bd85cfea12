-- What segments are to those who use them: plain data.
use Rattle.std.specs.Prelude.{true, ◌++◌, ◌≡◌, ◌+◌, ◌<◌, ◌^◌, ◌==◌, ℕ, Bool, false, if◌then◌else◌, List, [], ◌∷◌, length, slice_index_or, Option, Some, None}
use Rattle.fizz_segment.specs.declared.segment.Flags.{Flags}
use Rattle.fizz_segment.specs.declared.segment.Part.{Part}
use Rattle.fizz_segment.specs.declared.segment.Mark.{Mark}

-- By number: where each segment that was made stands, with its bytes, and none for one that is forgotten; and how it is
-- printed. Then how many segments more can be made without memory.
pub record Tree : Type 0 where
  pub parts : List (Option Part)
  pub marks : List Mark
  pub spare : ℕ

abbrev pub no_flags : Flags
no_flags = record { lead = false; embedded = false }

abbrev pub blank : Mark
blank = record { flags = no_flags; drawn = None; printed = false }

-- the segment of a number, if it is live
abbrev pub part_at : List (Option Part) → ℕ → Option Part
part_at parts id = slice_index_or parts id None

abbrev pub mark_at : List Mark → ℕ → Mark
mark_at marks id = slice_index_or marks id blank

abbrev pub is_parent : ℕ → Option ℕ → Bool
is_parent id None = false
is_parent id (Some parent) = id == parent

-- whether it is a live segment whose parent has this number
abbrev pub is_kid : ℕ → Option Part → Bool
is_kid id None = false
is_kid id (Some part) = is_parent id part.parent

-- the numbers, from `first` on, of the live segments with this parent
abbrev pub kids_from : ℕ → ℕ → List (Option Part) → List ℕ
kids_from id first [] = []
kids_from id first (part ∷ later) =
    if is_kid id part then first ∷ kids_from id (first + 1) later else kids_from id (first + 1) later

-- the live kids of a segment, in the order in which they were added
abbrev pub kids_of : List (Option Part) → ℕ → List ℕ
kids_of parts id = kids_from id 0 parts

abbrev pub first_of : List ℕ → Option ℕ
first_of [] = None
first_of (n ∷ ns) = Some n

-- what stands after a number in a list
abbrev pub after : ℕ → List ℕ → List ℕ
after n [] = []
after n (m ∷ ms) = if n == m then ms else after n ms

-- the kid that follows one of this parent
abbrev pub next_of : List (Option Part) → Option ℕ → ℕ → Option ℕ
next_of parts None id = None
next_of parts (Some parent) id = first_of (after id (kids_of parts parent))

-- what is true of all segments
pub record IsTree (tree : Tree) : Type 0 where
  pub marked : length tree.marks ≡ length tree.parts
  -- so every number that a segment can get is below 4,294,967,295
  pub few : length tree.parts + tree.spare < 2 ^ 32

-- what stands behind a kid is what is after it, and it is one
pub record IsKidThere (parts : List (Option Part)) (id kid : ℕ) (all later : List ℕ) : Type 0 where
  pub is_later : after kid all ≡ later
  pub is_one : is_kid id (part_at parts kid) ≡ true
