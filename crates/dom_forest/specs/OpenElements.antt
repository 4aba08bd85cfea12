-- What is still printed of a document where some elements are open.
use Rattle.std.specs.Prelude.{ℕ, zero, suc, ◌+◌, ◌*◌, Bool, false, List, [], ◌∷◌, ◌++◌, length, map, reverse}
use Rattle.dom_forest.specs.Documents.{NodeLevels, all_levels, levels_after, levels_of}
use Rattle.dom_forest.specs.declared.document.DocPart.{DocPart}
use Rattle.dom_forest.specs.declared.printing.Open.{Open}
use Rattle.html_names.specs.Printing.{end_tag}
use Rattle.dom_forest.specs.Printing.{printed_node, siblings_bytes}

-- What is printed yet where elements are open, the innermost first, and these siblings follow, after a text or not.
abbrev pub bytes_to_end : Bool → List Open → NodeLevels → List ℕ
bytes_to_end after_text [] levels = siblings_bytes after_text (map printed_node (all_levels levels.first levels.rest))
bytes_to_end after_text (e ∷ es) levels =
    siblings_bytes after_text (map printed_node levels.first) ++ (end_tag e.name.now ++ bytes_to_end false es (levels_after levels.rest))

-- The same where the innermost is the last one, and parts follow.
abbrev pub left_bytes : Bool → List DocPart → List Open → List ℕ
left_bytes after_text parts open_now = bytes_to_end after_text (reverse open_now) (levels_of parts)

-- What follows so many ends.
abbrev pub levels_past : ℕ → NodeLevels → NodeLevels
levels_past zero levels = levels
levels_past (suc n) levels = levels_past n (levels_after levels.rest)

-- The turns that are left: two for each part, and one for each open element.
abbrev pub turns_left : List DocPart → List Open → ℕ
turns_left parts open_now = 2 * length parts + length open_now
