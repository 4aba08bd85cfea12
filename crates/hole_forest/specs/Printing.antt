-- How a forest is printed, cut at its holes and boundaries.
use Rattle.std.specs.Prelude.{ℕ, Bool, true, false, ◌&&◌, if◌then◌else◌, List, [], ◌∷◌, map}
use Rattle.fizz_text.specs.declared.attribute.Attr.{Attr}
use Rattle.html_names.specs.Printing.{end_tag}
use Rattle.html_print.specs.Sheets.{CutAt, Printed, Sheet, done, bytes, cut, printed_of}
use Rattle.html_print.specs.Tags.{is_void, start_tag, void_tag}
use Rattle.html_print.specs.Texts.{separator_bytes, text_bytes}
use Rattle.hole_forest.specs.declared.forest.Cut.{Cut}
use Rattle.hole_forest.specs.declared.forest.Flags.{Flags}
use Rattle.hole_forest.specs.declared.forest.HNode.{HNode}
use Rattle.hole_forest.specs.declared.forest.HNode.TheOpen.{HNode-F}
use Rattle.hole_forest.specs.declared.forest.HNode.TheFolds.{fold-HNode}

-- A hole or a boundary by its number, and whether a text was printed last before it.
pub record Numbered : Type 0 where
  pub number : ℕ
  pub after_text : Bool

abbrev pub numbered : ℕ → Bool → Numbered
numbered number after_text = record { number = number; after_text = after_text }

-- a cut, by the place where it was cut out
abbrev pub cut_of : Cut → CutAt Numbered
cut_of c = record { place = c.at; cut_out = numbered c.number c.lead }

-- What is printed, given whether a text was printed last and what follows, which is asked the same.
abbrev pub Printing : Type 0
Printing = Bool → (Bool → Sheet Numbered) → Sheet Numbered

abbrev pub is_empty : {A : Type 0} → List A → Bool
is_empty [] = true
is_empty (x ∷ xs) = false

abbrev pub text_sheet : List ℕ → Printing
text_sheet text after_text more = bytes (text_bytes after_text text) (more true)

abbrev pub cut_sheet : ℕ → Printing
cut_sheet number after_text more = cut (numbered number after_text) (more false)

-- An element of HTML is printed with an end tag, unless it is void and has no children.
abbrev pub element_sheet : List ℕ → List Attr → Bool → Printing → (Bool → Sheet Numbered) → Sheet Numbered
element_sheet name attributes is_childless kids more =
    if is_void name && is_childless then bytes (void_tag name attributes) (more false)
    else bytes (start_tag name attributes) (kids false (λ after_text. bytes (end_tag name) (more false)))

-- one after another
abbrev pub in_order : List Printing → Printing
in_order [] after_text more = more after_text
in_order (first ∷ later) after_text more = first after_text (λ after. in_order later after more)

abbrev pub node_step : HNode-F Printing → Printing
node_step (HNode-F.Element name attributes kids) after_text more = element_sheet name attributes (is_empty kids) (in_order kids) more
node_step (HNode-F.Text text) after_text more = text_sheet text after_text more
node_step (HNode-F.Hole number) after_text more = cut_sheet number after_text more
node_step (HNode-F.Boundary number) after_text more = cut_sheet number after_text more

abbrev pub node_sheet : HNode → Printing
node_sheet = fold-HNode Printing node_step

abbrev pub nodes_sheet : List HNode → Printing
nodes_sheet nodes = in_order (map node_sheet nodes)

-- A forest. What stands in another ends with `<!-- -->` after a text, so that no text there joins with it.
abbrev pub forest_printed : Flags → List HNode → Printed Numbered
forest_printed flags nodes =
    printed_of (nodes_sheet nodes flags.lead (λ after_text. bytes (separator_bytes (flags.embedded && after_text)) done))
