-- The text of a string of Tag, and that between tags, is UTF-8 where the source is.
use Rattle.std.proofs.Common.{◌≡◌, ℕ, zero, suc, ◌+◌, ◌-◌, ◌<◌, ◌≤◌, ◌⊎◌, inl, inr, Bool, true, false, ◌&&◌, nat_eq, nat_lt, List, [], ◌∷◌, ◌++◌, length, get_or, take, drop, reverse, find, option_map, codes, Option, Some, None, encode_utf8, if◌then◌else◌, refl, ap, sym, ◌∙◌, arith, subst, append_assoc, All}
use Rattle.std.specs.Str.{IsUtf8}
use Rattle.std.specs.List.{list_all, prefix_len, suffix_len, onto_first}
use Rattle.std.specs.Char.{IsScalar, is_digit, digit_value}
use Rattle.std.specs.Str.Parse.{digits_value}
use lib.Utf8.{scalar}
use Rattle.std.proofs.lemmas.Bool.{and_parts, and_from, cond-true, cond-false, ltb-true, eqb-true, eqb-false, cases_lt}
use Rattle.std.proofs.lemmas.Bool.Decides.{nat_tests}
use Rattle.std.proofs.lemmas.List.{append-nil, length-append, drop_at, take_at, take_all, take-append-drop, get_or-reverse}
use Rattle.std.proofs.lemmas.List.Elements.{All-nil, All-cons, All-head, All-tail}
use Rattle.std.proofs.lemmas.List.Folds.{length-prefix_len}
use Rattle.std.proofs.lemmas.List.Sums.{prefix_len_passes, suffix_len-le-length}
use Rattle.std.proofs.lemmas.Str.{IsUtf8-append, IsUtf8-take, IsCharBoundary-before_ascii}
use Rattle.jsx_lex.specs.Characters.{begins}
use Rattle.jsx_lex.specs.Words.{IsTagStr}
use Rattle.jsx_lex.specs.References.{reference_names, numeric_reference, named_reference, reference_at, decoded_text}
use Rattle.jsx_lex.specs.Cleaning.{is_blank, trimmed_lines, lines_of, clean_text, without_leading_blanks, without_trailing_blanks}
use Rattle.jsx_lex.specs.LineJoining.{with_line, with_lines}
use Rattle.jsx_lex.specs.Meanings.{tag_text_of, jsx_text_of}
use Rattle.jsx_lex.proofs.Scanning.{list_all-run}
use Rattle.jsx_lex.proofs.Comments.{begins-split}
use Rattle.jsx_lex.proofs.Decoding.{decoded-reference, decoded-own, decoded-plain}
use Rattle.jsx_lex.proofs.Cleaning.{joined}
use Rattle.jsx_lex.proofs.Cutting.{cut_at_ascii, one_ascii, is_low, AreLow, low_utf8, after_low, low_run, quote_low}
use Rattle.jsx_lex.proofs.Texts.{character_utf8, inside}

-- the bytes of a reference, its `&` apart
record IsReference (text : List ℕ) (r : ℕ × ℕ) : Type 0 where
  pub name : List ℕ
  pub more : List ℕ
  pub split : text ≡ name ++ more
  pub low : AreLow name
  pub length_is : length name + 1 ≡ r.1
  pub is_scalar : IsScalar r.0

digit_low : (radix : ℕ) → radix ≤ 16 → (b : ℕ) → is_digit b radix ≡ true → is_low b ≡ true
unfolding is_low
digit_low radix r b h = let l = ltb-true (digit_value b) radix h in low b (omega arith)
  where
    low : (b : ℕ) → digit_value b < 16 → nat_lt b 128 ≡ true
    low b h = grind (arith, nat_tests)

low-append : (xs ys : List ℕ) → AreLow xs → AreLow ys → AreLow (xs ++ ys)
low-append [] ys h k = k
low-append (x ∷ xs) ys h k = let p = and_parts (is_low x) (list_all is_low xs) h in and_from (is_low x) (list_all is_low (xs ++ ys)) p.0 (low-append xs ys p.1 k)

semicolon : AreLow (59 ∷ [])
unfolding is_low
semicolon = refl

same_reference : (text : List ℕ) (r s : ℕ × ℕ) → Some r ≡ Some s → IsReference text r → IsReference text s
same_reference text r s e h = let i : r ≡ s = cc in subst (λ (x : ℕ × ℕ). IsReference text x) i h

numeric_is : (radix front : ℕ) (fronts text : List ℕ) (r : ℕ × ℕ) → radix ≤ 16 → length fronts + 1 ≡ front → AreLow fronts → numeric_reference radix front text ≡ Some r → IsReference (fronts ++ text) r
numeric_is radix front fronts text r l f low e = by_test ((nat_lt 0 size && begins (codes ";") (drop size text)) && scalar (digits_value radix (take size text))) refl
  where
    size : ℕ
    size = prefix_len (λ b. is_digit b radix) text

    by_test : (t : Bool) → ((nat_lt 0 (prefix_len (λ b. is_digit b radix) text) && begins (codes ";") (drop (prefix_len (λ b. is_digit b radix) text) text)) && scalar (digits_value radix (take (prefix_len (λ b. is_digit b radix) text) text))) ≡ t → IsReference (fronts ++ text) r
    by_test true t =
        let n : ℕ = prefix_len (λ b. is_digit b radix) text in
        let digits : List ℕ = take n text in
        let more : List ℕ = drop 1 (drop n text) in
        let p = and_parts (nat_lt 0 n && begins (codes ";") (drop n text)) (scalar (digits_value radix digits)) t in
        let q = and_parts (nat_lt 0 n) (begins (codes ";") (drop n text)) p.0 in
        let end : drop n text ≡ 59 ∷ more = begins-split (codes ";") (drop n text) q.1 in
        let whole : text ≡ digits ++ 59 ∷ more = sym (take-append-drop n text) ∙ ap (λ (zs : List ℕ). digits ++ zs) end in
        let name : List ℕ = fronts ++ (digits ++ 59 ∷ []) in
        let dl : length digits ≡ n = length-prefix_len (λ b. is_digit b radix) text in
        let l1 = length-append fronts (digits ++ 59 ∷ []) in
        let l2 = length-append digits (59 ∷ []) in
        let g : Some (digits_value radix digits, front + n + 1) ≡ Some r = sym (cond-true ((nat_lt 0 n && begins (codes ";") (drop n text)) && scalar (digits_value radix digits)) (Some (digits_value radix digits, front + n + 1)) None t) ∙ e in
        same_reference (fronts ++ text) (digits_value radix digits, front + n + 1) r g (record {
          name = name;
          more = more;
          split = ap (λ (zs : List ℕ). fronts ++ zs) (whole ∙ sym (append_assoc digits (59 ∷ []) more)) ∙ sym (append_assoc fronts (digits ++ 59 ∷ []) more);
          low = low-append fronts (digits ++ 59 ∷ []) low (low-append digits (59 ∷ []) (low_run (λ b. is_digit b radix) (digit_low radix l) digits (list_all-run (λ b. is_digit b radix) text)) semicolon);
          length_is = omega arith;
          is_scalar = p.1;
        })
    by_test false t =
        let f : numeric_reference radix front text ≡ None = cond-false _ _ None t in absurd cc

-- names
name_fits : List ℕ × ℕ → Bool
name_fits r = list_all is_low r.0 && scalar r.1

names_fit : list_all name_fits reference_names ≡ true
unfolding name_fits is_low reference_names
names_fit = refl

name_is : (rows : List (List ℕ × ℕ)) (text : List ℕ) (r : ℕ × ℕ) → list_all name_fits rows ≡ true → option_map (λ (r : List ℕ × ℕ). (r.1, 1 + length r.0)) (find (λ (r : List ℕ × ℕ). begins r.0 text) rows) ≡ Some r → IsReference text r
unfolding name_fits
name_is [] text r h e = absurd cc
name_is (s ∷ ss) text r h e = by_begins (begins s.0 text) refl (name_is ss text r)
  where
    F : List ℕ × ℕ → ℕ × ℕ
    F r = (r.1, 1 + length r.0)

    by_begins : (t : Bool) → begins s.0 text ≡ t → (list_all name_fits ss ≡ true → option_map (λ (r : List ℕ × ℕ). (r.1, 1 + length r.0)) (find (λ (r : List ℕ × ℕ). begins r.0 text) ss) ≡ Some r → IsReference text r) → IsReference text r
    by_begins true t ih =
        let p = and_parts (name_fits s) (list_all name_fits ss) h in
        let q = and_parts (list_all is_low s.0) (scalar s.1) p.0 in
        let g : Some (s.1, 1 + length s.0) ≡ Some r = ap (λ (o : Option (List ℕ × ℕ)). option_map (λ (r : List ℕ × ℕ). (r.1, 1 + length r.0)) o) (sym (cond-true (begins s.0 text) (Some s) (find (λ (r : List ℕ × ℕ). begins r.0 text) ss) t)) ∙ e in
        same_reference text (s.1, 1 + length s.0) r g (record {
          name = s.0;
          more = drop (length s.0) text;
          split = begins-split s.0 text t;
          low = q.0;
          length_is = omega arith;
          is_scalar = q.1;
        })
    by_begins false t ih =
        let p = and_parts (name_fits s) (list_all name_fits ss) h in
        ih p.1 (ap (λ (o : Option (List ℕ × ℕ)). option_map (λ (r : List ℕ × ℕ). (r.1, 1 + length r.0)) o) (sym (cond-false (begins s.0 text) (Some s) (find (λ (r : List ℕ × ℕ). begins r.0 text) ss) t)) ∙ e)

hash_x : AreLow (codes "#x")
unfolding is_low
hash_x = refl

hash : AreLow (codes "#")
unfolding is_low
hash = refl

reference_is : (text : List ℕ) (r : ℕ × ℕ) → reference_at text ≡ Some r → IsReference text r
reference_is text r e = by_x (begins (codes "#x") text) refl
  where
    by_hash : begins (codes "#x") text ≡ false → (t : Bool) → begins (codes "#") text ≡ t → IsReference text r
    by_hash x true t =
        let s : text ≡ codes "#" ++ drop 1 text = begins-split (codes "#") text t in
        let g : numeric_reference 10 2 (drop 1 text) ≡ Some r = sym (cond-false (begins (codes "#x") text) _ _ x ∙ cond-true (begins (codes "#") text) (numeric_reference 10 2 (drop 1 text)) (named_reference text) t) ∙ e in
        subst (λ (zs : List ℕ). IsReference zs r) (sym s) (numeric_is 10 2 (codes "#") (drop 1 text) r (omega arith) refl hash g)
    by_hash x false t =
        let g : named_reference text ≡ Some r = sym (cond-false (begins (codes "#x") text) _ _ x ∙ cond-false (begins (codes "#") text) (numeric_reference 10 2 (drop 1 text)) (named_reference text) t) ∙ e in
        name_is reference_names text r names_fit g

    by_x : (t : Bool) → begins (codes "#x") text ≡ t → IsReference text r
    by_x true t =
        let s : text ≡ codes "#x" ++ drop 2 text = begins-split (codes "#x") text t in
        let g : numeric_reference 16 3 (drop 2 text) ≡ Some r = sym (cond-true (begins (codes "#x") text) (numeric_reference 16 3 (drop 2 text)) _ t) ∙ e in
        subst (λ (zs : List ℕ). IsReference zs r) (sym s) (numeric_is 16 3 (codes "#x") (drop 2 text) r (omega arith) refl hash_x g)
    by_x false t = by_hash t (begins (codes "#") text) refl

-- What stands before the text may end within a character.
decoded_from : (k : ℕ) (front text : List ℕ) → length text ≤ k → IsUtf8 (front ++ text) → IsUtf8 (front ++ decoded_text text)
decoded_from k front [] l u = u
decoded_from zero front (b ∷ bs) l u = absurd (omega arith)
decoded_from (suc k) front (b ∷ bs) l u = by_mark (nat_eq b 38) refl (λ front text. decoded_from k front text)
  where
    own : decoded_text (b ∷ bs) ≡ b ∷ decoded_text bs → ((front text : List ℕ) → length text ≤ k → IsUtf8 (front ++ text) → IsUtf8 (front ++ decoded_text text)) → IsUtf8 (front ++ decoded_text (b ∷ bs))
    own e ih =
        let one : (zs : List ℕ) → (front ++ b ∷ []) ++ zs ≡ front ++ (b ∷ zs) = λ zs. append_assoc front (b ∷ []) zs in
        subst (λ (zs : List ℕ). IsUtf8 (front ++ zs)) (sym e) (subst IsUtf8 (one (decoded_text bs)) (ih (front ++ b ∷ []) bs (omega arith) (subst IsUtf8 (sym (one bs)) u)))

    by_reference : nat_eq b 38 ≡ true → (o : Option (ℕ × ℕ)) → reference_at bs ≡ o → ((front text : List ℕ) → length text ≤ k → IsUtf8 (front ++ text) → IsUtf8 (front ++ decoded_text text)) → IsUtf8 (front ++ decoded_text (b ∷ bs))
    by_reference t None e ih = own (decoded-own (b ∷ bs) (omega arith) e) ih
    by_reference t (Some r) e ih =
        let s = reference_is bs r e in
        let i : b ≡ 38 = eqb-true b 38 t in
        let n = s.length_is in
        let step : decoded_text (b ∷ bs) ≡ encode_utf8 r.0 ++ decoded_text (drop r.1 (b ∷ bs)) = decoded-reference (b ∷ bs) r (omega arith) i e (omega arith) in
        let goes : drop r.1 (b ∷ bs) ≡ s.more = ap (λ (zs : List ℕ). drop r.1 (b ∷ zs)) s.split ∙ drop_at (b ∷ s.name) s.more r.1 (omega arith) in
        let c = cut_at_ascii front b bs (omega arith) u in
        let m = after_low s.name s.more s.low (subst IsUtf8 s.split c.1) in
        let size = ap length s.split in
        let total = length-append s.name s.more in
        let d : IsUtf8 (decoded_text s.more) = ih [] s.more (omega arith) m in
        subst (λ (zs : List ℕ). IsUtf8 (front ++ zs)) (sym (step ∙ ap (λ (zs : List ℕ). encode_utf8 r.0 ++ decoded_text zs) goes))
        (IsUtf8-append front (encode_utf8 r.0 ++ decoded_text s.more) c.0 (IsUtf8-append (encode_utf8 r.0) (decoded_text s.more) (character_utf8 r.0 s.is_scalar) d))

    by_mark : (t : Bool) → nat_eq b 38 ≡ t → ((front text : List ℕ) → length text ≤ k → IsUtf8 (front ++ text) → IsUtf8 (front ++ decoded_text text)) → IsUtf8 (front ++ decoded_text (b ∷ bs))
    by_mark true t ih = by_reference t (reference_at bs) refl ih
    by_mark false t ih = own (decoded-plain (b ∷ bs) (omega arith) (eqb-false b 38 t)) ih

pub decoded_utf8 : (text : List ℕ) → IsUtf8 text → IsUtf8 (decoded_text text)
decoded_utf8 text u = decoded_from (length text) [] text (omega arith) u

pub tag_utf8 : (word : List ℕ) → IsTagStr word → IsUtf8 word → IsUtf8 (tag_text_of word)
tag_utf8 word s u =
    let body = inside s.quote s.body (quote_low s.quote s.quoted) (subst IsUtf8 s.spelled u) in
    let l = length-append s.body (s.quote ∷ []) in
    let e : take (length word - 2) (drop 1 word) ≡ s.body =
    ap (λ (zs : List ℕ). take (length zs - 2) (drop 1 zs)) s.spelled ∙ take_at s.body (s.quote ∷ []) (length (s.quote ∷ (s.body ++ s.quote ∷ [])) - 2) (omega arith) in
    subst (λ (zs : List ℕ). IsUtf8 (decoded_text zs)) (sym e) (decoded_utf8 s.body body)

-- lines
record Lines (front text : List ℕ) : Type 0 where
  pub first : List ℕ
  pub others : List (List ℕ)
  pub lines_are : lines_of text ≡ first ∷ others
  pub first_utf8 : IsUtf8 (front ++ first)
  pub others_utf8 : All IsUtf8 others

lines_utf8 : (text front : List ℕ) → IsUtf8 (front ++ text) → Lines front text
lines_utf8 [] front u = record { first = []; others = []; lines_are = refl; first_utf8 = u; others_utf8 = All-nil IsUtf8 }
lines_utf8 (b ∷ bs) front u = by_line (nat_eq b 10) refl (lines_utf8 bs)
  where
    by_line : (t : Bool) → nat_eq b 10 ≡ t → ((front : List ℕ) → IsUtf8 (front ++ bs) → Lines front bs) → Lines front (b ∷ bs)
    by_line true t ih =
        let i = eqb-true b 10 t in
        let c = cut_at_ascii front b bs (omega arith) u in
        let m = ih [] c.1 in
        record {
          first = [];
          others = lines_of bs;
          lines_are = cond-true (nat_eq b 10) ([] ∷ lines_of bs) (onto_first b (lines_of bs)) t;
          first_utf8 = subst IsUtf8 (sym (append-nil front)) c.0;
          others_utf8 = subst (λ (ls : List (List ℕ)). All IsUtf8 ls) (sym m.lines_are) (All-cons IsUtf8 m.first m.others m.first_utf8 m.others_utf8);
        }
    by_line false t ih =
        let m = ih (front ++ b ∷ []) (subst IsUtf8 (sym (append_assoc front (b ∷ []) bs)) u) in
        record {
          first = b ∷ m.first;
          others = m.others;
          lines_are = cond-false (nat_eq b 10) ([] ∷ lines_of bs) (onto_first b (lines_of bs)) t ∙ ap (λ (ls : List (List ℕ)). onto_first b ls) m.lines_are;
          first_utf8 = subst IsUtf8 (append_assoc front (b ∷ []) m.first) m.first_utf8;
          others_utf8 = m.others_utf8;
        }

blank_low : (b : ℕ) → is_blank b ≡ true → is_low b ≡ true
unfolding is_low
blank_low b h = grind (arith, nat_tests)

blank_ascii : (b : ℕ) → is_blank b ≡ true → b < 128
blank_ascii b h = grind (arith, nat_tests)

leading_utf8 : (line : List ℕ) → IsUtf8 line → IsUtf8 (without_leading_blanks line)
leading_utf8 line u =
    let n : ℕ = prefix_len is_blank line in
    after_low (take n line) (drop n line) (low_run is_blank blank_low (take n line) (list_all-run is_blank line)) (subst IsUtf8 (sym (take-append-drop n line)) u)

trailing_utf8 : (line : List ℕ) → IsUtf8 line → IsUtf8 (without_trailing_blanks line)
trailing_utf8 line u = by_size (cases_lt 0 (suffix_len is_blank line))
  where
    by_size : (0 < suffix_len is_blank line) ⊎ (suffix_len is_blank line ≤ 0) → IsUtf8 (without_trailing_blanks line)
    by_size (inl some) =
        let n : ℕ = suffix_len is_blank line in
        let within : n ≤ length line = suffix_len-le-length is_blank line in
        let m : ℕ = length line - n in
        let passes : is_blank (get_or (reverse line) (n - 1) 0) ≡ true = prefix_len_passes is_blank (reverse line) (n - 1) 0 (omega arith) in
        let same : get_or (reverse line) (n - 1) 0 ≡ get_or line (length line - 1 - (n - 1)) 0 = get_or-reverse line (n - 1) 0 (omega arith) in
        let place : length line - 1 - (n - 1) ≡ m = omega arith in
        let blank : is_blank (get_or line m 0) ≡ true = ap (λ (i : ℕ). is_blank (get_or line i 0)) (sym place) ∙ (ap is_blank (sym same) ∙ passes) in
        IsUtf8-take line m u (IsCharBoundary-before_ascii line m (omega arith) (blank_ascii (get_or line m 0) blank))
    by_size (inr none) = subst IsUtf8 (sym (take_all (length line - suffix_len is_blank line) line (omega arith))) u

begun_utf8 : (first : Bool) (line : List ℕ) → IsUtf8 line → IsUtf8 (if first then line else without_leading_blanks line)
begun_utf8 true line u = u
begun_utf8 false line u = leading_utf8 line u

trimmed_utf8 : (first : Bool) (lines : List (List ℕ)) → All IsUtf8 lines → All IsUtf8 (trimmed_lines first lines)
trimmed_utf8 first [] h = All-nil IsUtf8
trimmed_utf8 first (x ∷ []) h = All-cons IsUtf8 (if first then x else without_leading_blanks x) [] (begun_utf8 first x (All-head IsUtf8 x [] h)) (All-nil IsUtf8)
trimmed_utf8 first (x ∷ y ∷ ys) h =
    All-cons IsUtf8 (without_trailing_blanks (if first then x else without_leading_blanks x)) (trimmed_lines false (y ∷ ys))
    (trailing_utf8 (if first then x else without_leading_blanks x) (begun_utf8 first x (All-head IsUtf8 x (y ∷ ys) h)))
    (trimmed_utf8 false (y ∷ ys) (All-tail IsUtf8 x (y ∷ ys) h))

with_line_utf8 : (text line : List ℕ) → IsUtf8 text → IsUtf8 line → IsUtf8 (with_line text line)
with_line_utf8 text [] u v = u
with_line_utf8 [] (b ∷ bs) u v = v
with_line_utf8 (a ∷ as') (b ∷ bs) u v = IsUtf8-append (a ∷ as') (32 ∷ b ∷ bs) u (IsUtf8-append (32 ∷ []) (b ∷ bs) (one_ascii 32 (omega arith)) v)

with_lines_utf8 : (text : List ℕ) (lines : List (List ℕ)) → IsUtf8 text → All IsUtf8 lines → IsUtf8 (with_lines text lines)
with_lines_utf8 text [] u h = u
with_lines_utf8 text (line ∷ lines) u h = with_lines_utf8 (with_line text line) lines (with_line_utf8 text line u (All-head IsUtf8 line lines h)) (All-tail IsUtf8 line lines h)

pub cleaned_utf8 : (text : List ℕ) → IsUtf8 text → IsUtf8 (clean_text text)
cleaned_utf8 text u =
    let m = lines_utf8 text [] u in
    let all : All IsUtf8 (lines_of text) = subst (λ (ls : List (List ℕ)). All IsUtf8 ls) (sym m.lines_are) (All-cons IsUtf8 m.first m.others m.first_utf8 m.others_utf8) in
    subst IsUtf8 (joined (trimmed_lines true (lines_of text))) (with_lines_utf8 [] (trimmed_lines true (lines_of text)) (low_utf8 [] refl) (trimmed_utf8 true (lines_of text) all))

pub text_utf8 : (word : List ℕ) → IsUtf8 word → IsUtf8 (jsx_text_of word)
text_utf8 word u = decoded_utf8 (clean_text word) (cleaned_utf8 word u)
