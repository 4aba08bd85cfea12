-- What is cut out of a piece are its gaps; and where none of them fills, the piece stays the same.
use Rattle.std.proofs.Common.{◌≡◌, ℕ, ◌+◌, Bool, true, false, ◌&&◌, if◌then◌else◌, List, [], ◌∷◌, ◌++◌, refl, sym, ap, ap₂, ◌∙◌, append_assoc}
use Rattle.std.specs.List.{flat_map}
use Rattle.std.proofs.lemmas.Grind.{flat_map-append}
use Rattle.std.proofs.lemmas.List.{append-nil, map-append}
use Rattle.std.proofs.lemmas.List.Elements.{Contains-append_left, Contains-append_right}
use Rattle.fizz_text.specs.declared.attribute.Attr.{Attr}
use Rattle.fizz_piece.specs.declared.work.Flags.{Flags}
use Rattle.html_names.specs.Printing.{end_tag}
use Rattle.html_print.specs.Tags.{is_void, start_tag, void_tag}
use Rattle.html_print.specs.Texts.{separator_bytes, text_bytes}
use Rattle.html_print.specs.Sheets.{Printed, CutAt, done, printed_after, printed_of, with_bytes, with_cut}
use Rattle.jsx_value.specs.Spots.{Label, nothing, text, element, array, boundary, wait, fail, Spots, none, spot, One}
use Rattle.position_laws.specs.Later.{Later, ends, stays, opens, LaterOne, stays_one, opens_one}
use Rattle.fizz_piece.specs.Printing.{Cut, is_none, piece_sheet}
use Rattle.position_laws.specs.Gaps.{Gap, waiting, bounded, gap_of, gaps_below, gaps_of, label_gaps, cut_gaps, StillWait}
use Rattle.position_laws.specs.Words.{Word, tag, written, gap, joint, cut_in, words_sheet, element_words, label_words, words_below, words_of, end_words, piece_words}
use Rattle.position_laws.proofs.WordsLemmas.{piece_prints}
use Rattle.position_laws.proofs.GapsLemmas.{self_member}

abbrev gaps_in_word : Word → List Gap
gaps_in_word (tag b) = []
gaps_in_word (written t) = []
gaps_in_word (gap g) = g ∷ []
gaps_in_word joint = []

abbrev gaps_in : List Word → List Gap
gaps_in ws = flat_map gaps_in_word ws

gaps-append : (ws vs : List Word) → gaps_in (ws ++ vs) ≡ gaps_in ws ++ gaps_in vs
gaps-append ws vs = flat_map-append gaps_in_word ws vs

element_gaps : (b : Bool) (name : List ℕ) (attributes : List Attr) (ws : List Word)
    → (b ≡ true → gaps_in ws ≡ [])
    → gaps_in (if b then tag (void_tag name attributes) ∷ [] else tag (start_tag name attributes) ∷ (ws ++ tag (end_tag name) ∷ [])) ≡ gaps_in ws
element_gaps true name attributes ws e = sym (e refl)
element_gaps false name attributes ws e = gaps-append ws (tag (end_tag name) ∷ []) ∙ append-nil (gaps_in ws)

right_true : (a b : Bool) → (a && b) ≡ true → b ≡ true
right_true true b e = e
right_true false b e = absurd (apart e)
  where
    apart : false ≡ true → ⊥
    apart x = cc

gaps_here : (label : Label) (path : List ℕ) (childless : Bool) (ws : List Word) (gs : List Gap) → gaps_in ws ≡ gs → (childless ≡ true → gs ≡ [])
    → gaps_in (label_words label path childless ws) ≡ label_gaps label path gs
gaps_here nothing path childless ws gs e n = refl
gaps_here (text t) path childless ws gs e n = refl
gaps_here (element name attributes) path childless ws gs e n =
    element_gaps (is_void name && childless) name attributes ws (λ b. e ∙ n (right_true (is_void name) childless b)) ∙ e
gaps_here array path childless ws gs e n = e
gaps_here boundary path childless ws gs e n = refl
gaps_here (wait resource) path childless ws gs e n = refl
gaps_here (fail digest) path childless ws gs e n = refl

no_gaps : (spots : Spots) (above : List ℕ) (n : ℕ) → is_none spots ≡ true → gaps_below above n spots ≡ []
no_gaps none above n e = refl
no_gaps (spot label kids other later) above n e = absurd (apart e)
  where
    apart : false ≡ true → ⊥
    apart x = cc

words_gaps : (spots : Spots) (above : List ℕ) (n : ℕ) → gaps_in (words_below above n spots) ≡ gaps_below above n spots
words_gaps none above n = refl
words_gaps (spot label kids other later) above n =
    gaps-append (label_words label (above ++ n ∷ []) (is_none kids) (words_below (above ++ n ∷ []) 0 kids)) (words_below above (n + 1) later)
    ∙ ap₂ (λ (xs ys : List Gap). xs ++ ys)
    (gaps_here label (above ++ n ∷ []) (is_none kids) (words_below (above ++ n ∷ []) 0 kids) (gaps_below (above ++ n ∷ []) 0 kids)
    (words_gaps kids (above ++ n ∷ []) 0) (no_gaps kids (above ++ n ∷ []) 0))
    (words_gaps later above (n + 1))

words_of-gaps : (path : List ℕ) (one : One) → gaps_in (words_of path one) ≡ gaps_of path one
words_of-gaps path one =
    gaps_here one.label path (is_none one.kids) (words_below path 0 one.kids) (gaps_below path 0 one.kids) (words_gaps one.kids path 0) (no_gaps one.kids path 0)

gap_of-cut_in : (g : Gap) (f : Bool) → gap_of (cut_in g f) ≡ g
gap_of-cut_in (waiting path resource) f = refl
gap_of-cut_in (bounded path) f = refl

sheet_gaps : (ws : List Word) (f : Bool) (printed : Printed Cut)
    → cut_gaps (printed_after (words_sheet ws (λ g. done) f) printed).cuts ≡ cut_gaps printed.cuts ++ gaps_in ws
sheet_gaps [] f printed = sym (append-nil (cut_gaps printed.cuts))
sheet_gaps (tag b ∷ ws) f printed = sheet_gaps ws false (with_bytes b printed)
sheet_gaps (written t ∷ ws) f printed = sheet_gaps ws true (with_bytes (text_bytes f t) printed)
sheet_gaps (gap g ∷ ws) f printed =
    sheet_gaps ws false (with_cut (cut_in g f) printed)
    ∙ (ap (λ (xs : List Gap). xs ++ gaps_in ws)
    (map-append (λ (c : CutAt Cut). gap_of c.cut_out) printed.cuts _ ∙ ap (λ (x : Gap). cut_gaps printed.cuts ++ x ∷ []) (gap_of-cut_in g f))
    ∙ append_assoc (cut_gaps printed.cuts) (g ∷ []) (gaps_in ws))
sheet_gaps (joint ∷ ws) f printed = sheet_gaps ws false (with_bytes (separator_bytes f) printed)

end_gaps : (b : Bool) → gaps_in (end_words b) ≡ []
end_gaps true = refl
end_gaps false = refl

pub piece_gaps : (flags : Flags) (path : List ℕ) (one : One) → cut_gaps (printed_of (piece_sheet flags path one)).cuts ≡ gaps_of path one
piece_gaps flags path one =
    ap (λ (p : Printed Cut). cut_gaps p.cuts) (piece_prints flags path one)
    ∙ (sheet_gaps (piece_words flags path one) flags.lead (record { out = []; cuts = [] })
    ∙ (gaps-append (words_of path one) (end_words flags.embedded)
    ∙ (ap (λ (xs : List Gap). gaps_in (words_of path one) ++ xs) (end_gaps flags.embedded)
    ∙ (append-nil (gaps_in (words_of path one)) ∙ words_of-gaps path one))))

-- Where nothing that a piece waits for has settled since, its words are the same.
module _ (known : List ℕ → Bool) where
  known_apart : (r : List ℕ) → known r ≡ true → known r ≡ false → ⊥
  known_apart r e f = cc

  none_later : (s t : Spots) → Later known s t → is_none s ≡ is_none t
  none_later _ _ ends = refl
  none_later _ _ (stays label kids other later kids' other' later' k o l) = refl
  none_later _ _ (opens resource label' kids other later kids' other' later' k l) = refl

  same_here : (label : Label) (path : List ℕ) (childless childless' : Bool) (ws vs : List Word) (gs : List Gap) → childless ≡ childless'
      → (StillWait known gs → ws ≡ vs) → StillWait known (label_gaps label path gs)
      → label_words label path childless ws ≡ label_words label path childless' vs
  same_here nothing path childless childless' ws vs gs b go still = refl
  same_here (text t) path childless childless' ws vs gs b go still = refl
  same_here (element name attributes) path childless childless' ws vs gs b go still =
      ap₂ (λ (c : Bool) (xs : List Word). element_words name attributes c xs) b (go still)
  same_here array path childless childless' ws vs gs b go still = go still
  same_here boundary path childless childless' ws vs gs b go still = refl
  same_here (wait resource) path childless childless' ws vs gs b go still = refl
  same_here (fail digest) path childless childless' ws vs gs b go still = refl

  same_below : (s t : Spots) → Later known s t → (above : List ℕ) (n : ℕ) → StillWait known (gaps_below above n s) → words_below above n s ≡ words_below above n t
  same_below _ _ ends above n still = refl
  same_below _ _ (stays label kids other later kids' other' later' k o l) above n still =
      ap₂ (λ (xs ys : List Word). xs ++ ys)
      (same_here label (above ++ n ∷ []) (is_none kids) (is_none kids') (words_below (above ++ n ∷ []) 0 kids) (words_below (above ++ n ∷ []) 0 kids')
      (gaps_below (above ++ n ∷ []) 0 kids) (none_later kids kids' k) (λ st. same_below kids kids' k (above ++ n ∷ []) 0 st)
      (λ p r c. still p r (Contains-append_left (label_gaps label (above ++ n ∷ []) (gaps_below (above ++ n ∷ []) 0 kids)) (gaps_below above (n + 1) later) _ c)))
      (same_below later later' l above (n + 1)
      (λ p r c. still p r (Contains-append_right (label_gaps label (above ++ n ∷ []) (gaps_below (above ++ n ∷ []) 0 kids)) (gaps_below above (n + 1) later) _ c)))
  same_below _ _ (opens resource label' kids other later kids' other' later' k l) above n still =
      absurd (known_apart resource k (still (above ++ n ∷ []) resource
      (Contains-append_left (waiting (above ++ n ∷ []) resource ∷ []) (gaps_below above (n + 1) later) _ (self_member (waiting (above ++ n ∷ []) resource)))))

  pub same_words : (a b : One) (path : List ℕ) → LaterOne known a b → StillWait known (gaps_of path a) → words_of path a ≡ words_of path b
  same_words _ _ path (stays_one label kids other kids' other' k o) still =
      same_here label path (is_none kids) (is_none kids') (words_below path 0 kids) (words_below path 0 kids') (gaps_below path 0 kids) (none_later kids kids' k)
      (λ st. same_below kids kids' k path 0 st) still
  same_words _ _ path (opens_one resource label' kids other kids' other' k) still =
      absurd (known_apart resource k (still path resource (self_member (waiting path resource))))

  pub same_piece : (flags : Flags) (a b : One) (path : List ℕ) → LaterOne known a b → StillWait known (gaps_of path a)
      → printed_of (piece_sheet flags path a) ≡ printed_of (piece_sheet flags path b)
  same_piece flags a b path l still =
      piece_prints flags path a
      ∙ (ap (λ (ws : List Word). printed_of (words_sheet (ws ++ end_words flags.embedded) (λ g. done) flags.lead)) (same_words a b path l still)
      ∙ sym (piece_prints flags path b))
