-- The links of segments as they are kept.
use Rattle.std.specs.Prelude.{◌≡◌, ◌<◌, ◌≤◌, ℕ, List, [], ◌∷◌, ◌++◌, length, slice_set, vec_capacity, Option, Some, None}
use Rattle.fizz_segment.specs.declared.segment.Part.{Part}
use Rattle.fizz_segment.specs.declared.links.Links.{Links}
use Rattle.fizz_segment.specs.Nearest.{IsLinked, link_at, set_if, set_unless}

abbrev pub AreLinked : List (Option Part) → Links → Type 0
AreLinked parts links = IsLinked parts links.first.items links.last.items links.previous.items links.next.items

-- there are places for so many segments
pub record HasLinkRoom (places : ℕ) (links : Links) : Type 0 where
  pub for_first : places ≤ vec_capacity links.first
  pub for_last : places ≤ vec_capacity links.last
  pub for_previous : places ≤ vec_capacity links.previous
  pub for_next : places ≤ vec_capacity links.next

pub record AreAsLong (links : Links) : Type 0 where
  pub last : length links.last.items ≡ length links.first.items
  pub previous : length links.previous.items ≡ length links.first.items
  pub next : length links.next.items ≡ length links.first.items

pub record IsSameRoom (old new : Links) : Type 0 where
  pub same_first : vec_capacity new.first ≡ vec_capacity old.first
  pub same_last : vec_capacity new.last ≡ vec_capacity old.last
  pub same_previous : vec_capacity new.previous ≡ vec_capacity old.previous
  pub same_next : vec_capacity new.next ≡ vec_capacity old.next

pub record AreSameLinks (old new : Links) : Type 0 where
  pub same_first : new.first.items ≡ old.first.items
  pub same_last : new.last.items ≡ old.last.items
  pub same_previous : new.previous.items ≡ old.previous.items
  pub same_next : new.next.items ≡ old.next.items

-- a segment without links comes last
pub record IsPushed (old new : Links) : Type 0 where
  pub first : new.first.items ≡ old.first.items ++ None ∷ []
  pub last : new.last.items ≡ old.last.items ++ None ∷ []
  pub previous : new.previous.items ≡ old.previous.items ++ None ∷ []
  pub next : new.next.items ≡ old.next.items ++ None ∷ []

-- a segment becomes the last kid
pub record IsAppended (parent id : ℕ) (old new : Links) : Type 0 where
  pub first : new.first.items ≡ set_unless (link_at old.last.items parent) parent (Some id) old.first.items
  pub last : new.last.items ≡ slice_set old.last.items parent (Some id)
  pub previous : new.previous.items ≡ slice_set old.previous.items id (link_at old.last.items parent)
  pub next : new.next.items ≡ set_if (link_at old.last.items parent) (Some id) old.next.items

-- a kid is taken out
pub record IsUnlinked (parent id : ℕ) (old new : Links) : Type 0 where
  pub first : new.first.items ≡ set_unless (link_at old.previous.items id) parent (link_at old.next.items id) old.first.items
  pub last : new.last.items ≡ set_unless (link_at old.next.items id) parent (link_at old.previous.items id) old.last.items
  pub previous : new.previous.items ≡ set_if (link_at old.next.items id) (link_at old.previous.items id) old.previous.items
  pub next : new.next.items ≡ set_if (link_at old.previous.items id) (link_at old.next.items id) old.next.items

-- the parent of a new segment was made before it
abbrev pub IsMadeBefore : ℕ → Option ℕ → Type 0
IsMadeBefore made None = Unit {0}
IsMadeBefore made (Some parent) = parent < made
