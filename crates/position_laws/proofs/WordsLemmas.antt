-- Printed words: a piece is printed as its words are, and what fills it as the words that fill them.
use Rattle.std.proofs.Common.{◌≡◌, ℕ, ◌+◌, Bool, true, false, ◌&&◌, if◌then◌else◌, List, [], ◌∷◌, ◌++◌, Option, Some, refl, sym, ap, ap₂, ◌∙◌}
use Rattle.std.specs.Option.{option_map_or}
use Rattle.std.proofs.Math.Path.{fun_ext}
use Rattle.std.proofs.lemmas.Grind.{flat_map-append}
use Rattle.std.proofs.lemmas.List.{append-nil}
use Rattle.fizz_text.specs.declared.attribute.Attr.{Attr}
use Rattle.fizz_piece.specs.declared.work.Flags.{Flags}
use Rattle.html_names.specs.Printing.{end_tag}
use Rattle.html_print.specs.Tags.{is_void, start_tag, void_tag}
use Rattle.html_print.specs.Texts.{separator_bytes, text_bytes}
use Rattle.html_print.specs.Sheets.{Sheet, Printed, done, bytes, cut, printed_after, printed_of, with_bytes, with_cut}
use Rattle.jsx_value.specs.Spots.{Label, nothing, text, element, array, boundary, wait, fail, Spots, none, spot, One, at}
use Rattle.position_laws.specs.Later.{Later, ends, stays, opens, LaterOne, stays_one, opens_one}
use Rattle.fizz_piece.specs.Printing.{Cut, nest, is_none, label_sheet, piece_sheet, position_sheet, positions_sheet}
use Rattle.position_laws.specs.Gaps.{waiting, bounded}
use Rattle.position_laws.specs.Words.{Word, tag, written, gap, joint, cut_in, words_sheet, element_words, label_words, words_below, words_of, end_words, piece_words, fill_word, filled_words, unjoined_word, unjoined, followed_by, filled_sheet, PrintsFilling, FillsWith}
use Rattle.position_laws.proofs.GapListsLemmas.{StandIn, stand_first, stand_later, stand_kids}

pub words-append : (ws vs : List Word) (more : Bool → Sheet Cut) (f : Bool) → words_sheet (ws ++ vs) more f ≡ words_sheet ws (words_sheet vs more) f
words-append [] vs more f = refl
words-append (tag b ∷ ws) vs more f = ap (bytes b) (words-append ws vs more false)
words-append (written t ∷ ws) vs more f = ap (bytes (text_bytes f t)) (words-append ws vs more true)
words-append (gap g ∷ ws) vs more f = ap (cut (cut_in g f)) (words-append ws vs more false)
words-append (joint ∷ ws) vs more f = ap (bytes (separator_bytes f)) (words-append ws vs more false)

-- Elements
element_prints : (b : Bool) (name : List ℕ) (attributes : List Attr) (ws : List Word) (kids : Bool → (Bool → Sheet Cut) → Sheet Cut)
    → ((more : Bool → Sheet Cut) (f : Bool) → kids f more ≡ words_sheet ws more f) → (more : Bool → Sheet Cut) (f : Bool)
    → (if b then bytes (void_tag name attributes) (more false)
    else bytes (start_tag name attributes) (kids false (λ after_text. bytes (end_tag name) (more false))))
    ≡ words_sheet (if b then tag (void_tag name attributes) ∷ [] else tag (start_tag name attributes) ∷ (ws ++ tag (end_tag name) ∷ [])) more f
element_prints true name attributes ws kids go more f = refl
element_prints false name attributes ws kids go more f =
    ap (bytes (start_tag name attributes))
    (go (λ after_text. bytes (end_tag name) (more false)) false ∙ sym (words-append ws (tag (end_tag name) ∷ []) more false))

label_prints : (label : Label) (path : List ℕ) (childless : Bool) (ws : List Word) (kids : Bool → (Bool → Sheet Cut) → Sheet Cut)
    → ((more : Bool → Sheet Cut) (f : Bool) → kids f more ≡ words_sheet ws more f) → (more : Bool → Sheet Cut) (f : Bool)
    → label_sheet label path childless kids f more ≡ words_sheet (label_words label path childless ws) more f
label_prints nothing path childless ws kids go more f = refl
label_prints (text t) path childless ws kids go more f = refl
label_prints (element name attributes) path childless ws kids go more f =
    element_prints (is_void name && childless) name attributes ws kids go more f
label_prints array path childless ws kids go more f = go more f
label_prints boundary path childless ws kids go more f = refl
label_prints (wait resource) path childless ws kids go more f = refl
label_prints (fail digest) path childless ws kids go more f = refl

below_prints : (spots : Spots) (above : List ℕ) (n : ℕ) (more : Bool → Sheet Cut) (f : Bool)
    → positions_sheet above n spots f more ≡ words_sheet (words_below above n spots) more f
below_prints none above n more f = refl
below_prints (spot label kids other later) above n more f =
    label_prints label (above ++ n ∷ []) (is_none kids) (words_below (above ++ n ∷ []) 0 kids) (positions_sheet (above ++ n ∷ []) 0 kids)
    (λ m g. below_prints kids (above ++ n ∷ []) 0 m g) (λ after. positions_sheet above (n + 1) later after more) f
    ∙ (ap (λ (m : Bool → Sheet Cut). words_sheet (label_words label (above ++ n ∷ []) (is_none kids) (words_below (above ++ n ∷ []) 0 kids)) m f)
    (fun_ext (λ g. below_prints later above (n + 1) more g))
    ∙ sym (words-append (label_words label (above ++ n ∷ []) (is_none kids) (words_below (above ++ n ∷ []) 0 kids)) (words_below above (n + 1) later) more f))

pub position_prints : (path : List ℕ) (one : One) (more : Bool → Sheet Cut) (f : Bool) → position_sheet path one f more ≡ words_sheet (words_of path one) more f
position_prints path one more f =
    label_prints one.label path (is_none one.kids) (words_below path 0 one.kids) (positions_sheet path 0 one.kids)
    (λ m g. below_prints one.kids path 0 m g) more f

-- Nothing is printed after the last word where no joint stands there.
ends_alike : (ws : List Word) (f : Bool) (printed : Printed Cut)
    → printed_after (words_sheet ws (λ g. bytes [] done) f) printed ≡ printed_after (words_sheet ws (λ g. done) f) printed
ends_alike [] f printed = ap (λ (xs : List ℕ). record { out = xs; cuts = printed.cuts }) (append-nil printed.out)
ends_alike (tag b ∷ ws) f printed = ends_alike ws false (with_bytes b printed)
ends_alike (written t ∷ ws) f printed = ends_alike ws true (with_bytes (text_bytes f t) printed)
ends_alike (gap g ∷ ws) f printed = ends_alike ws false (with_cut (cut_in g f) printed)
ends_alike (joint ∷ ws) f printed = ends_alike ws false (with_bytes (separator_bytes f) printed)

pub piece_prints_after : (embedded : Bool) (path : List ℕ) (one : One) (f : Bool) (printed : Printed Cut)
    → printed_after (position_sheet path one f (λ after_text. bytes (separator_bytes (embedded && after_text)) done)) printed
    ≡ printed_after (words_sheet (words_of path one ++ end_words embedded) (λ g. done) f) printed
piece_prints_after true path one f printed =
    ap (λ (s : Sheet Cut). printed_after s printed)
    (position_prints path one (λ after_text. bytes (separator_bytes after_text) done) f ∙ sym (words-append (words_of path one) (joint ∷ []) (λ g. done) f))
piece_prints_after false path one f printed =
    ap (λ (s : Sheet Cut). printed_after s printed) (position_prints path one (λ after_text. bytes [] done) f)
    ∙ (ends_alike (words_of path one) f printed
    ∙ ap (λ (ws : List Word). printed_after (words_sheet ws (λ g. done) f) printed) (sym (append-nil (words_of path one))))

pub piece_prints : (flags : Flags) (path : List ℕ) (one : One)
    → printed_of (piece_sheet flags path one) ≡ printed_of (words_sheet (piece_words flags path one) (λ g. done) flags.lead)
piece_prints flags path one = piece_prints_after flags.embedded path one flags.lead (record { out = []; cuts = [] })

-- Filling
followed-words : (ws : List Word) (more : Bool → Sheet Cut) (f : Bool) (next : Sheet Cut)
    → followed_by (words_sheet ws more f) next ≡ words_sheet ws (λ g. followed_by (more g) next) f
followed-words [] more f next = refl
followed-words (tag b ∷ ws) more f next = ap (bytes b) (followed-words ws more false next)
followed-words (written t ∷ ws) more f next = ap (bytes (text_bytes f t)) (followed-words ws more true next)
followed-words (gap g ∷ ws) more f next = ap (cut (cut_in g f)) (followed-words ws more false next)
followed-words (joint ∷ ws) more f next = ap (bytes (separator_bytes f)) (followed-words ws more false next)

-- after a joint no text was printed last
after_joint : (ws vs : List Word) (more : Bool → Sheet Cut) (f : Bool)
    → words_sheet (ws ++ joint ∷ []) (λ g. words_sheet vs more false) f ≡ words_sheet ((ws ++ joint ∷ []) ++ vs) more f
after_joint ws vs more f =
    words-append ws (joint ∷ []) (λ g. words_sheet vs more false) f
    ∙ sym (words-append (ws ++ joint ∷ []) vs more f ∙ words-append ws (joint ∷ []) (words_sheet vs more) f)

module _ (sheets : List ℕ → Bool → Sheet Cut) (filling : List ℕ → List Word) (prints : PrintsFilling sheets filling) where
  pub filled_prints : (ws : List Word) (more : Bool → Sheet Cut) (f : Bool)
      → filled_sheet sheets (words_sheet ws more f) ≡ words_sheet (filled_words filling ws) (λ g. filled_sheet sheets (more g)) f
  filled_prints [] more f = refl
  filled_prints (tag b ∷ ws) more f = ap (bytes b) (filled_prints ws more false)
  filled_prints (written t ∷ ws) more f = ap (bytes (text_bytes f t)) (filled_prints ws more true)
  filled_prints (gap (waiting path resource) ∷ ws) more f =
      let rest : Bool → Sheet Cut = λ g. filled_sheet sheets (more g) in
      ap (followed_by (sheets path f)) (filled_prints ws more false)
      ∙ (ap (λ (s : Sheet Cut). followed_by s (words_sheet (filled_words filling ws) rest false)) (prints path f)
      ∙ (followed-words (filling path ++ joint ∷ []) (λ g. done) f (words_sheet (filled_words filling ws) rest false)
      ∙ after_joint (filling path) (filled_words filling ws) rest f))
  filled_prints (gap (bounded path) ∷ ws) more f = ap (cut (nest path)) (filled_prints ws more false)
  filled_prints (joint ∷ ws) more f = ap (bytes (separator_bytes f)) (filled_prints ws more false)

  pub embedded_prints : (path : List ℕ) (one : One) (f : Bool) → filled_sheet sheets (piece_sheet (record { lead = f; embedded = true }) path one)
      ≡ words_sheet (filled_words filling (words_of path one) ++ joint ∷ []) (λ g. done) f
  embedded_prints path one f =
      ap (filled_sheet sheets) (position_prints path one (λ after_text. bytes (separator_bytes after_text) done) f)
      ∙ (filled_prints (words_of path one) (λ after_text. bytes (separator_bytes after_text) done) f
      ∙ sym (words-append (filled_words filling (words_of path one)) (joint ∷ []) (λ g. done) f))

  joined_after : (embedded : Bool) (path : List ℕ) (one : One) (f : Bool) (printed : Printed Cut)
      → printed_after (filled_sheet sheets (position_sheet path one f (λ after_text. bytes (separator_bytes (embedded && after_text)) done))) printed
      ≡ printed_after (words_sheet (filled_words filling (words_of path one) ++ end_words embedded) (λ g. done) f) printed
  joined_after true path one f printed = ap (λ (s : Sheet Cut). printed_after s printed) (embedded_prints path one f)
  joined_after false path one f printed =
      ap (λ (s : Sheet Cut). printed_after (filled_sheet sheets s) printed) (position_prints path one (λ after_text. bytes [] done) f)
      ∙ (ap (λ (s : Sheet Cut). printed_after s printed) (filled_prints (words_of path one) (λ after_text. bytes [] done) f)
      ∙ (ends_alike (filled_words filling (words_of path one)) f printed
      ∙ ap (λ (ws : List Word). printed_after (words_sheet ws (λ g. done) f) printed) (sym (append-nil (filled_words filling (words_of path one))))))

  pub joined_prints : (flags : Flags) (path : List ℕ) (one : One) → printed_of (filled_sheet sheets (piece_sheet flags path one))
      ≡ printed_of (words_sheet (filled_words filling (words_of path one) ++ end_words flags.embedded) (λ g. done) flags.lead)
  joined_prints flags path one = joined_after flags.embedded path one flags.lead (record { out = []; cuts = [] })

-- Words of what is later
module _ (known : List ℕ → Bool) (root : One) (filling : List ℕ → List Word)
    (right : FillsWith root filling) where
  abbrev put : List Word → List Word
  put ws = unjoined (filled_words filling ws)

  put-append : (ws vs : List Word) → put (ws ++ vs) ≡ put ws ++ put vs
  put-append ws vs =
      ap unjoined (flat_map-append (fill_word filling) ws vs)
      ∙ flat_map-append unjoined_word (filled_words filling ws) (filled_words filling vs)

  put-waiting : (path resource : List ℕ) (one : One) → at root path ≡ Some one → put (gap (waiting path resource) ∷ []) ≡ words_of path one
  put-waiting path resource one e =
      ap unjoined (append-nil (filling path ++ joint ∷ []))
      ∙ (flat_map-append unjoined_word (filling path) (joint ∷ [])
      ∙ (append-nil (unjoined (filling path))
      ∙ (right path ∙ ap (λ (o : Option One). option_map_or (words_of path) o []) e)))

  none_later : (s t : Spots) → Later known s t → is_none s ≡ is_none t
  none_later _ _ ends = refl
  none_later _ _ (stays label kids other later kids' other' later' k o l) = refl
  none_later _ _ (opens resource label' kids other later kids' other' later' k l) = refl

  element_put : (b : Bool) (name : List ℕ) (attributes : List Attr) (ws vs : List Word) → put ws ≡ vs
      → put (if b then tag (void_tag name attributes) ∷ [] else tag (start_tag name attributes) ∷ (ws ++ tag (end_tag name) ∷ []))
      ≡ (if b then tag (void_tag name attributes) ∷ [] else tag (start_tag name attributes) ∷ (vs ++ tag (end_tag name) ∷ []))
  element_put true name attributes ws vs e = refl
  element_put false name attributes ws vs e =
      ap (λ (xs : List Word). tag (start_tag name attributes) ∷ xs)
      (put-append ws (tag (end_tag name) ∷ []) ∙ ap (λ (xs : List Word). xs ++ tag (end_tag name) ∷ []) e)

  put_here : (label : Label) (path : List ℕ) (childless childless' : Bool) (ws : List Word) (kids' other' : Spots)
      → childless ≡ childless' → at root path ≡ Some (record { label = label; kids = kids'; other = other' })
      → childless' ≡ is_none kids'
      → (StandIn root path 0 kids' → put ws ≡ words_below path 0 kids')
      → put (label_words label path childless ws) ≡ label_words label path childless' (words_below path 0 kids')
  put_here nothing path childless childless' ws kids' other' same e n go = refl
  put_here (text t) path childless childless' ws kids' other' same e n go = refl
  put_here (element name attributes) path childless childless' ws kids' other' same e n go =
      element_put (is_void name && childless) name attributes ws (words_below path 0 kids')
      (go (stand_kids root path (element name attributes) kids' other' (λ k. refl) e))
      ∙ ap (λ (b : Bool). element_words name attributes b (words_below path 0 kids')) same
  put_here array path childless childless' ws kids' other' same e n go = go (stand_kids root path array kids' other' (λ k. refl) e)
  put_here boundary path childless childless' ws kids' other' same e n go = refl
  put_here (wait resource) path childless childless' ws kids' other' same e n go =
      put-waiting path resource (record { label = wait resource; kids = kids'; other = other' }) e
  put_here (fail digest) path childless childless' ws kids' other' same e n go = refl

  put_below : (s t : Spots) → Later known s t → (above : List ℕ) (n : ℕ) → StandIn root above n t
      → put (words_below above n s) ≡ words_below above n t
  put_below _ _ ends above n stand = refl
  put_below _ _ (stays label kids other later kids' other' later' k o l) above n stand =
      put-append (label_words label (above ++ n ∷ []) (is_none kids) (words_below (above ++ n ∷ []) 0 kids)) (words_below above (n + 1) later)
      ∙ ap₂ (λ (xs ys : List Word). xs ++ ys)
      (put_here label (above ++ n ∷ []) (is_none kids) (is_none kids') (words_below (above ++ n ∷ []) 0 kids) kids' other' (none_later kids kids' k)
      (stand_first root above n label kids' other' later' stand) refl (λ st. put_below kids kids' k (above ++ n ∷ []) 0 st))
      (put_below later later' l above (n + 1) (stand_later root above n label kids' other' later' stand))
  put_below _ _ (opens resource label' kids other later kids' other' later' k l) above n stand =
      put-append (gap (waiting (above ++ n ∷ []) resource) ∷ []) (words_below above (n + 1) later)
      ∙ ap₂ (λ (xs ys : List Word). xs ++ ys)
      (put-waiting (above ++ n ∷ []) resource (record { label = label'; kids = kids'; other = other' })
      (stand_first root above n label' kids' other' later' stand))
      (put_below later later' l above (n + 1) (stand_later root above n label' kids' other' later' stand))

  -- The words of a piece, filled, are those of what stands there later, but for joints.
  pub filled_whole : (a b : One) (path : List ℕ) → LaterOne known a b → at root path ≡ Some b
      → unjoined (filled_words filling (words_of path a)) ≡ words_of path b
  filled_whole _ _ path (stays_one label kids other kids' other' k o) e =
      put_here label path (is_none kids) (is_none kids') (words_below path 0 kids) kids' other' (none_later kids kids' k) e refl
      (λ st. put_below kids kids' k path 0 st)
  filled_whole _ _ path (opens_one resource label' kids other kids' other' k) e =
      put-waiting path resource (record { label = label'; kids = kids'; other = other' }) e
