-- What each call makes of the segments.
use Rattle.std.specs.Prelude.{◌-◌, max, ℕ, Bool, true, false, if◌then◌else◌, List, [], ◌∷◌, ◌++◌, slice_set, is_some, IsTrue, Option, Some, None}
use Rattle.fizz_segment.specs.declared.segment.Flags.{Flags}
use Rattle.fizz_segment.specs.declared.segment.SegKind.TheVariants.{Root, Child, Site}
use Rattle.fizz_segment.specs.declared.segment.Part.{Part}
use Rattle.fizz_segment.specs.declared.segment.Mark.{Mark}
use Rattle.fizz_segment.specs.Tree.{Tree, mark_at, no_flags, part_at}

abbrev pub no_segments : Tree
no_segments = record { parts = []; marks = []; spare = 0 }

abbrev pub reserved : ℕ → Tree → Tree
reserved n tree = record tree { spare = max tree.spare n }

-- one segment more
abbrev pub added : Part → Flags → Tree → Tree
added part flags tree = record tree {
  parts = tree.parts ++ Some part ∷ [];
  marks = tree.marks ++ record { flags = flags; drawn = None; printed = false } ∷ [];
  spare = tree.spare - 1;
}

abbrev pub child_of : ℕ → ℕ → Part
child_of parent place = record { kind = Child; parent = Some parent; «at» = place; bytes = None }

abbrev pub site_of : ℕ → ℕ → ℕ → Part
site_of parent place boundary = record { kind = Site boundary; parent = Some parent; «at» = place; bytes = None }

abbrev pub root_of : Option ℕ → Part
root_of boundary = record { kind = Root boundary; parent = None; «at» = 0; bytes = None }

abbrev pub IsLive : Tree → ℕ → Type 0
IsLive tree id = IsTrue (is_some (part_at tree.parts id))

-- whether a segment has its bytes
abbrev pub is_complete : Option Part → Bool
is_complete None = false
is_complete (Some part) = is_some part.bytes

abbrev pub drawn_as : ℕ → Bool → Mark → Mark
drawn_as h complete mark = record mark { drawn = Some h; flags = if complete then mark.flags else no_flags }

-- a segment draws an id; if it isn't complete, its flags are cleared
abbrev pub with_drawn : ℕ → ℕ → Tree → Tree
with_drawn id h tree = record tree {
  marks = slice_set tree.marks id (drawn_as h (is_complete (part_at tree.parts id)) (mark_at tree.marks id));
}

abbrev pub with_printed : ℕ → Tree → Tree
with_printed id tree = record tree { marks = slice_set tree.marks id (record (mark_at tree.marks id) { printed = true }) }

abbrev pub with_bytes : List ℕ → Option Part → Option Part
with_bytes bytes None = None
with_bytes bytes (Some part) = Some (record part { bytes = Some bytes })

-- a segment gets its bytes, and the flags under which they were printed
abbrev pub completed : ℕ → Flags → List ℕ → Tree → Tree
completed id flags bytes tree = record tree {
  parts = slice_set tree.parts id (with_bytes bytes (part_at tree.parts id));
  marks = slice_set tree.marks id (record (mark_at tree.marks id) { flags = flags });
}

abbrev pub forgotten : ℕ → Tree → Tree
forgotten id tree = record tree { parts = slice_set tree.parts id None }
