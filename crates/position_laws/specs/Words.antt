-- A piece as words, tags, texts and gaps, and how words are printed. What fills a gap are words too.
use Rattle.std.specs.Prelude.{◌≡◌, ℕ, ◌+◌, Bool, true, false, ◌&&◌, if◌then◌else◌, List, [], ◌∷◌, ◌++◌}
use Rattle.std.specs.List.{flat_map}
use Rattle.std.specs.Option.{option_map_or}
use Rattle.fizz_text.specs.declared.attribute.Attr.{Attr}
use Rattle.html_names.specs.Printing.{end_tag}
use Rattle.html_print.specs.Sheets.{Sheet, done, bytes, cut}
use Rattle.html_print.specs.Tags.{is_void, start_tag, void_tag}
use Rattle.html_print.specs.Texts.{separator_bytes, text_bytes}
use Rattle.jsx_value.specs.Spots.{Label, nothing, text, element, array, boundary, wait, fail, Spots, none, spot, One, at}
use Rattle.fizz_piece.specs.declared.work.Flags.{Flags}
use Rattle.fizz_piece.specs.Printing.{Cut, hole, nest, is_none}
use Rattle.position_laws.specs.Gaps.{Gap, waiting, bounded}

pub data Word : Type 0 where
  -- a start tag, a void tag or an end tag, as it is printed
  tag : List ℕ → Word
  -- a text, before it is escaped
  written : List ℕ → Word
  gap : Gap → Word
  -- where a piece ends that stands in another
  joint : Word

abbrev pub cut_in : Gap → Bool → Cut
cut_in (waiting path resource) after_text = hole path resource after_text
cut_in (bounded path) after_text = nest path

-- Words are printed in their order, given whether a text was printed last and what follows. `<!-- -->` stands before a
-- text that follows a text, and at a joint that follows one, so that no two texts touch.
abbrev pub words_sheet : List Word → (Bool → Sheet Cut) → Bool → Sheet Cut
words_sheet [] more after_text = more after_text
words_sheet (tag printed ∷ words) more after_text = bytes printed (words_sheet words more false)
words_sheet (written t ∷ words) more after_text =
    bytes (text_bytes after_text t) (words_sheet words more true)
words_sheet (gap g ∷ words) more after_text =
    cut (cut_in g after_text) (words_sheet words more false)
words_sheet (joint ∷ words) more after_text =
    bytes (separator_bytes after_text) (words_sheet words more false)

abbrev pub element_words : List ℕ → List Attr → Bool → List Word → List Word
element_words name attributes is_childless inner =
    if is_void name && is_childless then tag (void_tag name attributes) ∷ []
    else tag (start_tag name attributes) ∷ (inner ++ tag (end_tag name) ∷ [])

-- the words of a position, given its path, whether none is inside, and the words of those inside
abbrev pub label_words : Label → List ℕ → Bool → List Word → List Word
label_words nothing path is_childless inner = []
label_words (text t) path is_childless inner = written t ∷ []
label_words (element name attributes) path is_childless inner =
    element_words name attributes is_childless inner
label_words array path is_childless inner = inner
label_words boundary path is_childless inner = gap (bounded path) ∷ []
label_words (wait resource) path is_childless inner = gap (waiting path resource) ∷ []
label_words (fail digest) path is_childless inner = []

-- of siblings inside the position at a path, the first of which has the number n
abbrev pub words_below : List ℕ → ℕ → Spots → List Word
words_below above n none = []
words_below above n (spot label kids other later) =
    label_words label (above ++ n ∷ []) (is_none kids) (words_below (above ++ n ∷ []) 0 kids)
    ++ words_below above (n + 1) later

abbrev pub words_of : List ℕ → One → List Word
words_of path one = label_words one.label path (is_none one.kids) (words_below path 0 one.kids)

-- A piece ends with a joint where it stands in another.
abbrev pub end_words : Bool → List Word
end_words true = joint ∷ []
end_words false = []

abbrev pub piece_words : Flags → List ℕ → One → List Word
piece_words flags path one = words_of path one ++ end_words flags.embedded

-- The gaps where a position waited are filled with words at their paths, and each filling ends with a joint.
abbrev pub fill_gap : (List ℕ → List Word) → Gap → List Word
fill_gap filling (waiting path resource) = filling path ++ joint ∷ []
fill_gap filling (bounded path) = gap (bounded path) ∷ []

abbrev pub fill_word : (List ℕ → List Word) → Word → List Word
fill_word filling (tag printed) = tag printed ∷ []
fill_word filling (written t) = written t ∷ []
fill_word filling (gap g) = fill_gap filling g
fill_word filling joint = joint ∷ []

abbrev pub filled_words : (List ℕ → List Word) → List Word → List Word
filled_words filling words = flat_map (fill_word filling) words

-- the same words without joints
abbrev pub unjoined_word : Word → List Word
unjoined_word (tag printed) = tag printed ∷ []
unjoined_word (written t) = written t ∷ []
unjoined_word (gap g) = gap g ∷ []
unjoined_word joint = []

abbrev pub unjoined : List Word → List Word
unjoined words = flat_map unjoined_word words

-- the words of what stands at a path of the page
abbrev pub words_at : One → List ℕ → List Word
words_at root path = option_map_or (words_of path) (at root path) []

-- A sheet where each hole is filled by a sheet, given whether a text was printed last before it.
abbrev pub followed_by : Sheet Cut → Sheet Cut → Sheet Cut
followed_by done next = next
followed_by (bytes printed sheet) next = bytes printed (followed_by sheet next)
followed_by (cut c sheet) next = cut c (followed_by sheet next)

abbrev pub fill_cut : (List ℕ → Bool → Sheet Cut) → Cut → Sheet Cut
fill_cut filling (hole path resource after_text) = filling path after_text
fill_cut filling (nest path) = cut (nest path) done

abbrev pub filled_sheet : (List ℕ → Bool → Sheet Cut) → Sheet Cut → Sheet Cut
filled_sheet filling done = done
filled_sheet filling (bytes printed sheet) = bytes printed (filled_sheet filling sheet)
filled_sheet filling (cut c sheet) = followed_by (fill_cut filling c) (filled_sheet filling sheet)

-- Each filling is printed as its words are, and ends with a joint.
abbrev pub PrintsFilling : (List ℕ → Bool → Sheet Cut) → (List ℕ → List Word) → Type 0
PrintsFilling sheets filling =
    (path : List ℕ) (f : Bool)
    → sheets path f ≡ words_sheet (filling path ++ joint ∷ []) (λ g. done) f

-- The words of each filling are those of what stands at its path, but for joints.
abbrev pub FillsWith : One → (List ℕ → List Word) → Type 0
FillsWith root filling = (path : List ℕ) → unjoined (filling path) ≡ words_at root path
