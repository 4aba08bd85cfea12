-- A text in UTF-8 may be cut before and after a lexeme.
use Rattle.std.proofs.Common.{◌≡◌, ℕ, zero, suc, ◌+◌, ◌<◌, inl, inr, Bool, true, false, nat_lt, List, [], ◌∷◌, ◌++◌, length, get_or, Option, Some, None, refl, ap, sym, ◌∙◌, arith, subst, append_assoc}
use Rattle.std.specs.Str.{IsUtf8, IsAscii}
use Rattle.std.specs.List.{list_all, flat_map}
use Rattle.std.specs.Char.{is_ascii_digit}
use Rattle.std.proofs.lemmas.Bool.{and_parts, and_from, cond-true, cond-false, ltb-true}
use Rattle.std.proofs.lemmas.Bool.Decides.{nat_tests}
use Rattle.std.proofs.lemmas.List.{append-nil, length-append}
use Rattle.std.proofs.lemmas.Str.{IsUtf8-append, IsUtf8-take, IsUtf8-drop, IsUtf8-from_ascii, IsCharBoundary-before_ascii, IsCharBoundary-after_ascii}
use Rattle.std.proofs.Math.Seq.{take-append_seam, drop-append-add, get_or-append_seam}
use Rattle.jsx_lex.specs.Characters.{is_space, is_name_start, is_name_part, is_tag_name_part, is_quote, is_in_line, is_jsx_text, begins, Ends}
use Rattle.jsx_lex.specs.ModeStack.{ModesAt}
use Rattle.jsx_lex.specs.SignTable.{SignRow, row, signs_of, code_signs, tag_signs, children_signs, close_signs, first_sign}
use Rattle.jsx_lex.specs.StringParts.{spelling_of}
use Rattle.jsx_lex.specs.Words.{IsSpace, IsName, IsDigits, IsNumber}
use Rattle.jsx_lex.specs.Lexemes.{Lexeme, HasForm, Stands}
use Rattle.jsx_lex.specs.declared.mode.Mode.{Mode}
use Rattle.jsx_lex.specs.declared.mode.Mode.TheVariants.{Code, Tag, Children, Close}
use Rattle.jsx_lex.specs.declared.token.TokenKind.{TokenKind}
use Rattle.jsx_lex.specs.declared.token.TokenKind.TheVariants.{Name, Number, Str, TagStr, JsxText}
use Rattle.jsx_lex.proofs.Finding.{Fits}
use Rattle.jsx_lex.proofs.Forms.{quote_cases}

-- A text may be cut before and after an ASCII byte.
pub cut_at_ascii : (front : List ℕ) (b : ℕ) (more : List ℕ) → b < 128 → IsUtf8 (front ++ b ∷ more) → IsUtf8 front × IsUtf8 more
cut_at_ascii front b more l u =
    let all : List ℕ = front ++ b ∷ more in
    let i : ℕ = length front in
    let inside : i < length all = omega (arith, length-append front (b ∷ more)) in
    let ascii : get_or all i 0 < 128 = rw (get_or-append_seam front b more 0) l in (
      subst IsUtf8 (take-append_seam front (b ∷ more)) (IsUtf8-take all i u (IsCharBoundary-before_ascii all i inside ascii)),
      subst IsUtf8 (drop-append-add front (b ∷ more) 1) (IsUtf8-drop all (i + 1) u (IsCharBoundary-after_ascii all i u inside ascii)),
    )

unfoldable pub is_low : ℕ → Bool
is_low b = nat_lt b 128

pub one_ascii : (b : ℕ) → b < 128 → IsUtf8 (b ∷ [])
one_ascii b l = IsUtf8-from_ascii (b ∷ []) (at b l)
  where
    at : (b : ℕ) → b < 128 → IsAscii (b ∷ [])
    at b l zero = l
    at b l (suc i) = omega arith

-- bytes that are all ASCII
abbrev pub AreLow : List ℕ → Type 0
AreLow bs = list_all is_low bs ≡ true

low_at : (bs : List ℕ) → AreLow bs → IsAscii bs
unfolding is_low
low_at [] h i = omega arith
low_at (b ∷ bs) h zero = let p = and_parts (is_low b) (list_all is_low bs) h in ltb-true b 128 p.0
low_at (b ∷ bs) h (suc i) = let p = and_parts (is_low b) (list_all is_low bs) h in low_at bs p.1 i

pub low_utf8 : (bs : List ℕ) → AreLow bs → IsUtf8 bs
low_utf8 bs h = IsUtf8-from_ascii bs (low_at bs h)

pub after_low : (bs more : List ℕ) → AreLow bs → IsUtf8 (bs ++ more) → IsUtf8 more
unfolding is_low
after_low [] more h u = u
after_low (b ∷ bs) more h u =
    let p = and_parts (is_low b) (list_all is_low bs) h in
    after_low bs more p.1 (cut_at_ascii [] b (bs ++ more) (ltb-true b 128 p.0) u).1

-- a test that only ASCII bytes pass
pub low_run : (test : ℕ → Bool) → ((b : ℕ) → test b ≡ true → is_low b ≡ true) → (bs : List ℕ) → list_all test bs ≡ true → AreLow bs
low_run test low [] h = refl
low_run test low (b ∷ bs) h =
    let p = and_parts (test b) (list_all test bs) h in
    and_from (is_low b) (list_all is_low bs) (low b p.0) (low_run test low bs p.1)

-- How a lexeme lets the text be cut after it: its bytes are ASCII, or its last one is, or what comes after begins so.
pub data IsCut (word after : List ℕ) : Type 0 where
  all_low : AreLow word → IsCut word after
  last_low : (front : List ℕ) (b : ℕ) → b < 128 → word ≡ front ++ b ∷ [] → IsCut word after
  next_low : (b : ℕ) (more : List ℕ) → b < 128 → after ≡ b ∷ more → IsCut word after
  at_end : after ≡ [] → IsCut word after

pub cut : (word after : List ℕ) → IsCut word after → IsUtf8 (word ++ after) → IsUtf8 word × IsUtf8 after
cut word after (all_low h) u = (low_utf8 word h, after_low word after h u)
cut word after (last_low front b l e) u =
    let u' : IsUtf8 (front ++ b ∷ after) = subst IsUtf8 (ap (λ (zs : List ℕ). zs ++ after) e ∙ append_assoc front (b ∷ []) after) u in
    let c = cut_at_ascii front b after l u' in
    (subst IsUtf8 (sym e) (IsUtf8-append front (b ∷ []) c.0 (one_ascii b l)), c.1)
cut word after (next_low b more l e) u =
    let u' : IsUtf8 (word ++ b ∷ more) = subst (λ (zs : List ℕ). IsUtf8 (word ++ zs)) e u in
    let c = cut_at_ascii word b more l u' in
    (c.0, subst IsUtf8 (sym e) (IsUtf8-append (b ∷ []) more (one_ascii b l) c.1))
cut word after (at_end e) u =
    let u' : IsUtf8 (word ++ []) = subst (λ (zs : List ℕ). IsUtf8 (word ++ zs)) e u in
    (subst IsUtf8 (append-nil word) u', subst IsUtf8 (sym e) (low_utf8 [] refl))

space_low : (b : ℕ) → is_space b ≡ true → is_low b ≡ true
unfolding is_low
space_low b h = grind (arith, nat_tests)

name_low : (b : ℕ) → is_tag_name_part b ≡ true → is_low b ≡ true
unfolding is_low
name_low b h = grind (arith, nat_tests)

code_name_low : (b : ℕ) → is_name_part b ≡ true → is_low b ≡ true
unfolding is_low
code_name_low b h = grind (arith, nat_tests)

name_start_low : (b : ℕ) → is_name_start b ≡ true → is_low b ≡ true
unfolding is_low
name_start_low b h = grind (arith, nat_tests)

digit_low : (b : ℕ) → is_ascii_digit b ≡ true → is_low b ≡ true
unfolding is_low
digit_low b h = grind (arith, nat_tests)

end_of_line : (b : ℕ) → is_in_line b ≡ false → b < 128
end_of_line b h = grind (arith, nat_tests)

end_of_text : (b : ℕ) → is_jsx_text b ≡ false → b < 128
end_of_text b h = grind (arith, nat_tests)

pub quote_low : (q : ℕ) → is_quote q ≡ true → q < 128
quote_low q h = quote_cases (λ (q : ℕ). q < 128) (omega arith) (omega arith) q h

cut_before : (word after : List ℕ) (test : ℕ → Bool) → ((b : ℕ) → test b ≡ false → b < 128) → Ends test after → IsCut word after
cut_before word [] test low h = at_end refl
cut_before word (b ∷ bs) test low h = next_low b bs (low b h) refl

cut_space : (word after : List ℕ) → IsSpace word → IsCut word after
cut_space [] after h = absurd h
cut_space (b ∷ []) after h = all_low (and_from (is_low b) true (space_low b h) refl)
cut_space (b ∷ c ∷ bs) after h = absurd h

cut_name : (test : ℕ → Bool) → ((b : ℕ) → test b ≡ true → is_low b ≡ true) → (word after : List ℕ) → IsName test word → IsCut word after
cut_name test low [] after h = absurd h
cut_name test low (b ∷ bs) after h = all_low (and_from (is_low b) (list_all is_low bs) (name_start_low b h.0) (low_run test low bs h.1))

digits_low : (ds : List ℕ) → IsDigits ds → AreLow ds
digits_low [] h = absurd h
digits_low (d ∷ ds) h = low_run is_ascii_digit digit_low (d ∷ ds) h.0

minus_low : (b : ℕ) → b ≡ 45 → is_low b ≡ true
unfolding is_low
minus_low b e = grind (arith, nat_tests)

cut_number : (word after : List ℕ) → IsNumber word → IsCut word after
cut_number [] after h = absurd h
cut_number (b ∷ bs) after (inl h) = all_low (digits_low (b ∷ bs) h.0)
cut_number (b ∷ bs) after (inr h) = all_low (and_from (is_low b) (list_all is_low bs) (minus_low b h.0) (digits_low bs h.1))

cut_form : (m : Mode) (kind : Option TokenKind) (word after : List ℕ) → HasForm m kind word after → IsCut word after
cut_form Code None word after (inl h) = cut_space word after h
cut_form Code None word after (inr (inl h)) = cut_before word after is_in_line end_of_line h.longest
cut_form Code None word after (inr (inr h)) = last_low (47 ∷ 42 ∷ (h.body ++ 42 ∷ [])) 47 (omega arith) (h.spelled ∙ ap (λ (zs : List ℕ). 47 ∷ 42 ∷ zs) (sym (append_assoc h.body (42 ∷ []) (47 ∷ []))))
cut_form Code (Some Name) word after h = cut_name is_name_part code_name_low word after h.0
cut_form Code (Some Number) word after h = cut_number word after h.0
cut_form Code (Some Str) word after h = last_low (h.quote ∷ flat_map spelling_of h.parts) h.quote (quote_low h.quote h.quoted) h.spelled
cut_form Tag None word after h = cut_space word after h
cut_form Tag (Some Name) word after h = cut_name is_tag_name_part name_low word after h.0
cut_form Tag (Some TagStr) word after h = last_low (h.quote ∷ h.body) h.quote (quote_low h.quote h.quoted) h.spelled
cut_form Children (Some JsxText) word after h = cut_before word after is_jsx_text end_of_text h.1
cut_form Close None word after h = cut_space word after h
cut_form Close (Some Name) word after h = cut_name is_tag_name_part name_low word after h.0
cut_form _ _ word after h = absurd h

-- signs
rows_low : List SignRow → Bool
rows_low rows = list_all (λ (r : SignRow). list_all is_low r.bytes) rows

sign_low : (rows : List SignRow) (text : List ℕ) (r : SignRow) → rows_low rows ≡ true → first_sign rows text ≡ Some r → AreLow r.bytes
unfolding rows_low
sign_low [] text r h e = absurd cc
sign_low (s ∷ ss) text r h e = by_begins (begins s.bytes text) refl (sign_low ss text r)
  where
    by_begins : (t : Bool) → begins s.bytes text ≡ t → (rows_low ss ≡ true → first_sign ss text ≡ Some r → AreLow r.bytes) → AreLow r.bytes
    by_begins true t ih =
        let p = and_parts (list_all is_low s.bytes) (rows_low ss) h in
        let f : first_sign (s ∷ ss) text ≡ Some s = cond-true (begins s.bytes text) (Some s) (first_sign ss text) t in
        let i : s ≡ r = cc in
        subst (λ (x : SignRow). AreLow x.bytes) i p.0
    by_begins false t ih =
        let p = and_parts (list_all is_low s.bytes) (rows_low ss) h in
        ih p.1 (sym (cond-false (begins s.bytes text) (Some s) (first_sign ss text) t) ∙ e)

tables_low : (m : Mode) → rows_low (signs_of m) ≡ true
unfolding rows_low is_low code_signs tag_signs children_signs close_signs
tables_low Code = refl
tables_low Tag = refl
tables_low Children = refl
tables_low Close = refl

cut_fits : (m : Mode) (x : Lexeme) (after : List ℕ) → Fits m x after → IsCut x.bytes after
cut_fits m x after (inl h) = cut_form m x.kind x.bytes after h.0
cut_fits m x after (inr s) = all_low (sign_low (signs_of m) (x.bytes ++ after) (row x.bytes x.change) (tables_low m) s.1)

pub cut_lexeme : (modes : ModesAt) (x : Lexeme) (after : List ℕ) → Stands modes x after → IsUtf8 (x.bytes ++ after) → IsUtf8 x.bytes × IsUtf8 after
cut_lexeme modes x after h u = cut x.bytes after (cut_fits modes.mode x after h.form) u
