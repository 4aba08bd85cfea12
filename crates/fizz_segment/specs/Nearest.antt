-- How the kids of a segment are linked: each to the nearest ones before and after it.
use Rattle.std.specs.Prelude.{◌≡◌, ◌+◌, ◌<◌, ◌≤◌, ℕ, Bool, true, false, List, length, slice_index_or, slice_set, Option, Some, None}
use Rattle.fizz_segment.specs.declared.segment.Part.{Part}
use Rattle.fizz_segment.specs.Tree.{is_kid, part_at}

-- the least number from `start` on that passes a test, if there is one
pub record IsLeast (test : ℕ → Bool) (start : ℕ) (found : Option ℕ) : Type 0 where
  pub none : found ≡ None → (other : ℕ) → start ≤ other → test other ≡ false
  pub least : (n : ℕ) → found ≡ Some n → start ≤ n
  pub passes : (n : ℕ) → found ≡ Some n → test n ≡ true
  pub before : (n : ℕ) → found ≡ Some n → (other : ℕ) → start ≤ other → other < n → test other ≡ false

-- the greatest number below `stop` that passes a test, if there is one
pub record IsGreatest (test : ℕ → Bool) (stop : ℕ) (found : Option ℕ) : Type 0 where
  pub none : found ≡ None → (other : ℕ) → other < stop → test other ≡ false
  pub greatest : (n : ℕ) → found ≡ Some n → n < stop
  pub passes : (n : ℕ) → found ≡ Some n → test n ≡ true
  pub after : (n : ℕ) → found ≡ Some n → (other : ℕ) → n < other → other < stop → test other ≡ false

abbrev pub link_at : List (Option ℕ) → ℕ → Option ℕ
link_at links id = slice_index_or links id None

-- whether a segment is a live kid of this one
abbrev pub kid_test : List (Option Part) → ℕ → ℕ → Bool
kid_test parts parent id = is_kid parent (part_at parts id)

pub record IsLinked (parts : List (Option Part)) (first last previous next : List (Option ℕ)) : Type 0 where
  pub first_length : length first ≡ length parts
  pub last_length : length last ≡ length parts
  pub previous_length : length previous ≡ length parts
  pub next_length : length next ≡ length parts
  pub parents : (id parent : ℕ) → kid_test parts parent id ≡ true → parent < length parts
  pub firsts : (id : ℕ) → IsLeast (kid_test parts id) 0 (link_at first id)
  pub lasts : (id : ℕ) → IsGreatest (kid_test parts id) (length parts) (link_at last id)
  pub nexts : (id parent : ℕ) → kid_test parts parent id ≡ true → IsLeast (kid_test parts parent) (id + 1) (link_at next id)
  pub previouses : (id parent : ℕ) → kid_test parts parent id ≡ true → IsGreatest (kid_test parts parent) id (link_at previous id)

-- a link that is set where the other one is there
abbrev pub set_if : Option ℕ → Option ℕ → List (Option ℕ) → List (Option ℕ)
set_if None value links = links
set_if (Some id) value links = slice_set links id value

-- a link of `id` that is set where the other one isn't there
abbrev pub set_unless : Option ℕ → ℕ → Option ℕ → List (Option ℕ) → List (Option ℕ)
set_unless None id value links = slice_set links id value
set_unless (Some other) id value links = links
