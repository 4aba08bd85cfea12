-- No `<` stands in a string.
use Rattle.std.proofs.Common.{◌≡◌, ◌≢◌, ℕ, zero, suc, ◌-◌, ◌/◌, ◌%◌, ◌<◌, false, List, [], ◌∷◌, ◌++◌, length, get_or, Some, sym, ◌∙◌, ap, ⊎_elim, arith, append-nil}
use Rattle.std.specs.Char.{encode_utf8, digit_char}
use Rattle.std.specs.List.{flat_map}
use Rattle.std.specs.Str.{chars}
use Rattle.std.proofs.lemmas.Bool.{cases_lt}
use Rattle.std.proofs.lemmas.Bool.Decides.{nat_tests}
use Rattle.std.proofs.lemmas.List.{get_or_past}
use Rattle.std.proofs.lemmas.Str.{inside_one}
use Rattle.std.proofs.Math.ListN.{get_or-append}
use Rattle.std.proofs.Math.Seq.{get_or-append_right}
use Rattle.html_names.specs.JsStrings.{short_letter, is_coded, four_digits, char_spelling, js_string}
use Rattle.html_names.proofs.JsStringsCharLemmas.{each_letter, each_spelling, coded_small}
use Rattle.html_names.proofs.JsStringsLemmas.{apart_bools}

abbrev HasNoMark : List ℕ → Type 0
HasNoMark xs = (k : ℕ) → get_or xs k 0 ≢ 60

no_mark-nil : HasNoMark []
no_mark-nil k e = omega arith

no_mark-cons : (b : ℕ) (xs : List ℕ) → b ≢ 60 → HasNoMark xs → HasNoMark (b ∷ xs)
no_mark-cons b xs n h zero e = n e
no_mark-cons b xs n h (suc k) e = h k e

no_mark-append : (xs ys : List ℕ) → HasNoMark xs → HasNoMark ys → HasNoMark (xs ++ ys)
no_mark-append xs ys h g k e =
    ⊎_elim (λ l. h k (sym (get_or-append xs ys 0 k l) ∙ e)) (λ l. g (k - length xs) (sym (get_or-append_right xs ys k 0 l) ∙ e)) (cases_lt k (length xs))

four_no_mark : (a b c d : ℕ) → a ≢ 60 → b ≢ 60 → c ≢ 60 → d ≢ 60 → HasNoMark (a ∷ b ∷ c ∷ d ∷ [])
four_no_mark a b c d na nb nc nd =
    no_mark-cons a (b ∷ c ∷ d ∷ []) na (no_mark-cons b (c ∷ d ∷ []) nb (no_mark-cons c (d ∷ []) nc (no_mark-cons d [] nd no_mark-nil)))

letter_no_mark : (c l : ℕ) → short_letter c ≡ Some l → l ≢ 60
letter_no_mark = each_letter (λ c l. l ≢ 60) (λ e. omega arith) (λ e. omega arith) (λ e. omega arith) (λ e. omega arith) (λ e. omega arith) (λ e. omega arith) (λ e. omega arith)

digit_no_mark : (d : ℕ) → d < 16 → digit_char d ≢ 60
digit_no_mark d l e = grind (arith, nat_tests)

itself_no_mark : (c : ℕ) → is_coded c ≡ false → HasNoMark (encode_utf8 c)
itself_no_mark c f k e =
    let at : k < length (encode_utf8 c) → ⊥ = λ l.
    let is : c ≡ get_or (encode_utf8 c) k 0 = inside_one c [] (encode_utf8 c) k (sym (append-nil (encode_utf8 c))) l (omega arith) in
    apart_bools (is_coded c) (ap is_coded (is ∙ e)) f in
    ⊎_elim at (λ l. let past : get_or (encode_utf8 c) k 0 ≡ 0 = get_or_past (encode_utf8 c) k 0 l in omega arith) (cases_lt k (length (encode_utf8 c)))

spelling_no_mark : (c : ℕ) → HasNoMark (char_spelling c)
spelling_no_mark c = each_spelling HasNoMark c
    (λ l f. no_mark-cons 92 (l ∷ []) (λ e. omega arith) (no_mark-cons l [] (letter_no_mark c l f) no_mark-nil))
    (λ n t. let small : c < 65536 = coded_small c t in
    no_mark-cons 92 (117 ∷ four_digits c) (λ e. omega arith) (no_mark-cons 117 (four_digits c) (λ e. omega arith)
    (four_no_mark (digit_char (c / 16 / 16 / 16)) (digit_char (c / 16 / 16 % 16)) (digit_char (c / 16 % 16)) (digit_char (c % 16))
    (digit_no_mark (c / 16 / 16 / 16) (omega arith)) (digit_no_mark (c / 16 / 16 % 16) (omega arith)) (digit_no_mark (c / 16 % 16) (omega arith)) (digit_no_mark (c % 16) (omega arith)))))
    (λ n t. itself_no_mark c t)

all_no_mark : (cs : List ℕ) → HasNoMark (flat_map char_spelling cs)
all_no_mark [] = no_mark-nil
all_no_mark (c ∷ cs) = no_mark-append (char_spelling c) (flat_map char_spelling cs) (spelling_no_mark c) (all_no_mark cs)

pub string_no_mark : (text : List ℕ) (k : ℕ) → get_or (js_string text) k 0 ≢ 60
string_no_mark text = no_mark-cons 34 (flat_map char_spelling (chars text) ++ 34 ∷ []) (λ e. omega arith)
    (no_mark-append (flat_map char_spelling (chars text)) (34 ∷ []) (all_no_mark (chars text)) (no_mark-cons 34 [] (λ e. omega arith) no_mark-nil))
