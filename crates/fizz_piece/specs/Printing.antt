-- How positions are printed, cut at the positions that wait and at boundaries.
use Rattle.std.specs.Prelude.{ℕ, ◌+◌, Bool, true, false, ◌&&◌, if◌then◌else◌, List, [], ◌∷◌, ◌++◌}
use Rattle.fizz_text.specs.declared.attribute.Attr.{Attr}
use Rattle.html_names.specs.Printing.{end_tag}
use Rattle.html_print.specs.Sheets.{Sheet, done, bytes, cut}
use Rattle.html_print.specs.Tags.{is_void, start_tag, void_tag}
use Rattle.html_print.specs.Texts.{separator_bytes, text_bytes}
use Rattle.jsx_value.specs.Spots.{Label, nothing, text, element, array, boundary, wait, fail, Spots, none, spot, One}
use Rattle.fizz_piece.specs.declared.work.Flags.{Flags}

-- what is cut out of a piece
pub data Cut : Type 0 where
  -- a position that waits: its path, its resource, and whether a text was printed last before it
  hole : (path resource : List ℕ) (after_text : Bool) → Cut
  -- a boundary, at its path
  nest : (path : List ℕ) → Cut

-- What is printed, given whether a text was printed last and what follows, which is asked the same.
abbrev pub Printing : Type 0
Printing = Bool → (Bool → Sheet Cut) → Sheet Cut

abbrev pub is_none : Spots → Bool
is_none none = true
is_none (spot label kids other later) = false

-- An element of HTML is printed with an end tag, unless it is void and has no children.
abbrev pub element_sheet : List ℕ → List Attr → Bool → Printing → (Bool → Sheet Cut) → Sheet Cut
element_sheet name attributes is_childless kids more =
    if is_void name && is_childless then bytes (void_tag name attributes) (more false)
    else bytes (start_tag name attributes) (kids false (λ after_text. bytes (end_tag name) (more false)))

-- A position, given its path, whether none is inside, and how those inside are printed.
abbrev pub label_sheet : Label → List ℕ → Bool → Printing → Printing
label_sheet nothing path is_childless kids after_text more = more after_text
label_sheet (text t) path is_childless kids after_text more = bytes (text_bytes after_text t) (more true)
label_sheet (element name attributes) path is_childless kids after_text more =
    element_sheet name attributes is_childless kids more
label_sheet array path is_childless kids after_text more = kids after_text more
label_sheet boundary path is_childless kids after_text more = cut (nest path) (more false)
label_sheet (wait resource) path is_childless kids after_text more = cut (hole path resource after_text) (more false)
label_sheet (fail digest) path is_childless kids after_text more = more after_text

-- positions beside each other, the first of which has this number
abbrev pub positions_sheet : List ℕ → ℕ → Spots → Printing
positions_sheet above number none after_text more = more after_text
positions_sheet above number (spot label kids other later) after_text more =
    label_sheet label (above ++ number ∷ []) (is_none kids) (positions_sheet (above ++ number ∷ []) 0 kids) after_text
    (λ after. positions_sheet above (number + 1) later after more)

abbrev pub position_sheet : List ℕ → One → Printing
position_sheet path one = label_sheet one.label path (is_none one.kids) (positions_sheet path 0 one.kids)

-- A piece. What is embedded in another ends with `<!-- -->` after a text, so that no text there joins with it.
abbrev pub piece_sheet : Flags → List ℕ → One → Sheet Cut
piece_sheet flags path one =
    position_sheet path one flags.lead (λ after_text. bytes (separator_bytes (flags.embedded && after_text)) done)
