-- How characters are written in a string: one reading for each spelling.
use Rattle.std.proofs.Common.{◌≡◌, ◌≢◌, ℕ, ◌+◌, ◌*◌, ◌/◌, ◌%◌, ◌<◌, ◌≤◌, Bool, true, false, if◌then◌else◌, ◌==◌, List, [], ◌∷◌, ◌++◌, take, drop, length, get_or, Option, Some, None, refl, sym, ◌∙◌, ap, subst, ⊎_elim, arith}
use Rattle.std.specs.Char.{IsScalar, encode_utf8, digit_char, digit_value, len_utf8}
use Rattle.std.specs.Str.{IsUtf8}
use Rattle.std.proofs.lemmas.Bool.{cases_eq, ne_eqb, eqb-true}
use Rattle.std.proofs.lemmas.Bool.Decides.{Decides-ltb, nat_tests}
use Rattle.std.proofs.lemmas.Option.{same_Some}
use Rattle.std.proofs.lemmas.Str.{encode_same, char_from_byte, digit_value-digit_char, IsUtf8-encode, length-encode, len_utf8_bounds}
use Rattle.html_names.specs.JsStrings.{short_letter, is_coded, four_digits, spelling_by, char_spelling}
use Rattle.html_names.proofs.EscapedPrefixLemmas.{or_cases}
use Rattle.html_names.proofs.Utf8Lemmas.{utf8_ascii}

at_letter : (P : ℕ → ℕ → Type 0) (c l x y : ℕ) → P x y → c ≡ x → short_letter x ≡ Some y → short_letter c ≡ Some l → P c l
at_letter P c l x y p here is e =
    let letter : y ≡ l = same_Some y l (sym is ∙ (ap short_letter (sym here) ∙ e)) in
    subst (λ a. P a l) (sym here) (subst (P x) letter p)

apart_options : (o : Option ℕ) (l : ℕ) → o ≡ Some l → o ≡ None → ⊥
apart_options o l e f = cc

no_letter : (c l : ℕ) → c ≢ 34 → c ≢ 92 → c ≢ 8 → c ≢ 9 → c ≢ 10 → c ≢ 12 → c ≢ 13 → short_letter c ≡ Some l → ⊥
no_letter c l n34 n92 n8 n9 n10 n12 n13 e =
    let none : short_letter c ≡ None = rw (ne_eqb c 34 n34, ne_eqb c 92 n92, ne_eqb c 8 n8, ne_eqb c 9 n9, ne_eqb c 10 n10, ne_eqb c 12 n12, ne_eqb c 13 n13) in
    apart_options (short_letter c) l e none

-- The characters that have a short escape, each with its letter.
pub each_letter : (P : ℕ → ℕ → Type 0) → P 34 34 → P 92 92 → P 8 98 → P 9 116 → P 10 110 → P 12 102 → P 13 114 → (c l : ℕ) → short_letter c ≡ Some l → P c l
each_letter P p34 p92 p8 p9 p10 p12 p13 c l e =
    ⊎_elim (λ h. at_letter P c l 34 34 p34 h refl e) (λ n34.
    ⊎_elim (λ h. at_letter P c l 92 92 p92 h refl e) (λ n92.
    ⊎_elim (λ h. at_letter P c l 8 98 p8 h refl e) (λ n8.
    ⊎_elim (λ h. at_letter P c l 9 116 p9 h refl e) (λ n9.
    ⊎_elim (λ h. at_letter P c l 10 110 p10 h refl e) (λ n10.
    ⊎_elim (λ h. at_letter P c l 12 102 p12 h refl e) (λ n12.
    ⊎_elim (λ h. at_letter P c l 13 114 p13 h refl e) (λ n13. absurd (no_letter c l n34 n92 n8 n9 n10 n12 n13 e))
    (cases_eq c 13)) (cases_eq c 12)) (cases_eq c 10)) (cases_eq c 9)) (cases_eq c 8)) (cases_eq c 92)) (cases_eq c 34)

-- A character is written by its short escape, by its code, or as itself.
coded_or_itself : (P : List ℕ → Type 0) (c : ℕ) (b : Bool) → is_coded c ≡ b → (is_coded c ≡ true → P (92 ∷ 117 ∷ four_digits c)) → (is_coded c ≡ false → P (encode_utf8 c)) →
    P (if b then 92 ∷ 117 ∷ four_digits c else encode_utf8 c)
coded_or_itself P c true e coded itself = coded e
coded_or_itself P c false e coded itself = itself e

at_option : (P : List ℕ → Type 0) (c : ℕ) (o : Option ℕ) → short_letter c ≡ o → ((l : ℕ) → short_letter c ≡ Some l → P (92 ∷ l ∷ [])) →
    (short_letter c ≡ None → is_coded c ≡ true → P (92 ∷ 117 ∷ four_digits c)) → (short_letter c ≡ None → is_coded c ≡ false → P (encode_utf8 c)) → P (spelling_by o c)
at_option P c (Some l) e short coded itself = short l e
at_option P c None e short coded itself = coded_or_itself P c (is_coded c) refl (coded e) (itself e)

pub each_spelling : (P : List ℕ → Type 0) (c : ℕ) → ((l : ℕ) → short_letter c ≡ Some l → P (92 ∷ l ∷ [])) →
    (short_letter c ≡ None → is_coded c ≡ true → P (92 ∷ 117 ∷ four_digits c)) → (short_letter c ≡ None → is_coded c ≡ false → P (encode_utf8 c)) → P (char_spelling c)
each_spelling P c = at_option P c (short_letter c) refl

-- Codes

pub coded_small : (c : ℕ) → is_coded c ≡ true → c < 65536
coded_small c e =
    ⊎_elim (λ e1.
    ⊎_elim (λ e2.
    ⊎_elim (λ e3. let small = (Decides-ltb c 32).0 e3 in omega arith) (λ h. let is = eqb-true c 60 h in omega arith) (or_cases _ _ e2))
    (λ h. let is = eqb-true c 0x2028 h in omega arith) (or_cases _ _ e1))
    (λ h. let is = eqb-true c 0x2029 h in omega arith) (or_cases _ _ e)

same_digit : (a b : ℕ) → a < 16 → b < 16 → digit_char a ≡ digit_char b → a ≡ b
same_digit a b la lb e = sym (digit_value-digit_char a (omega arith)) ∙ (ap digit_value e ∙ digit_value-digit_char b (omega arith))

-- Four numbers below 16 whose digits are those of the code are the code.
pub code_from_digits : (c a1 a2 a3 a4 : ℕ) → c < 65536 → a1 ≡ c / 16 / 16 / 16 → a2 ≡ c / 16 / 16 % 16 → a3 ≡ c / 16 % 16 → a4 ≡ c % 16 → ((a1 * 16 + a2) * 16 + a3) * 16 + a4 ≡ c
code_from_digits c a1 a2 a3 a4 l e1 e2 e3 e4 = omega arith

same_code : (c d : ℕ) → c < 65536 → d < 65536 → four_digits c ≡ four_digits d → c ≡ d
same_code c d lc ld e =
    let e1 : c / 16 / 16 / 16 ≡ d / 16 / 16 / 16 = same_digit _ _ (omega arith) (omega arith) (ap (λ xs. get_or xs 0 0) e) in
    let e2 : c / 16 / 16 % 16 ≡ d / 16 / 16 % 16 = same_digit _ _ (omega arith) (omega arith) (ap (λ xs. get_or xs 1 0) e) in
    let e3 : c / 16 % 16 ≡ d / 16 % 16 = same_digit _ _ (omega arith) (omega arith) (ap (λ xs. get_or xs 2 0) e) in
    let e4 : c % 16 ≡ d % 16 = same_digit _ _ (omega arith) (omega arith) (ap (λ xs. get_or xs 3 0) e) in
    omega arith

-- What a spelling begins with

pub itself_not_escape : (c : ℕ) (x y : List ℕ) → short_letter c ≡ None → encode_utf8 c ++ x ≡ 92 ∷ y → ⊥
itself_not_escape c x y n e =
    let is : c ≡ 92 = char_from_byte (92 ∷ y) x c (sym e) (omega arith) (omega arith) in
    apart_options (short_letter c) 92 (ap short_letter is) n

pub letter_not_u : (c l : ℕ) → short_letter c ≡ Some l → l ≢ 117
letter_not_u = each_letter (λ c l. l ≢ 117) (λ e. omega arith) (λ e. omega arith) (λ e. omega arith) (λ e. omega arith) (λ e. omega arith) (λ e. omega arith) (λ e. omega arith)

abbrev letter_char : ℕ → ℕ
letter_char l =
    if l == 98 then 8 else
    if l == 116 then 9 else
    if l == 110 then 10 else
    if l == 102 then 12 else
    if l == 114 then 13 else l

pub same_letter : (c d l : ℕ) → short_letter c ≡ Some l → short_letter d ≡ Some l → c ≡ d
same_letter c d l e f =
    let back : (c l : ℕ) → short_letter c ≡ Some l → letter_char l ≡ c = each_letter (λ c l. letter_char l ≡ c) refl refl refl refl refl refl refl in
    sym (back c l e) ∙ back d l f

pub short_is : (c l : ℕ) → short_letter c ≡ Some l → char_spelling c ≡ 92 ∷ l ∷ []
short_is c l e = ap (λ o. spelling_by o c) e

pub coded_is : (c : ℕ) → short_letter c ≡ None → is_coded c ≡ true → char_spelling c ≡ 92 ∷ 117 ∷ four_digits c
coded_is c n e = ap (λ o. spelling_by o c) n ∙ ap (λ (b : Bool). if b then 92 ∷ 117 ∷ four_digits c else encode_utf8 c) e

pub itself_is : (c : ℕ) → short_letter c ≡ None → is_coded c ≡ false → char_spelling c ≡ encode_utf8 c
itself_is c n e = ap (λ o. spelling_by o c) n ∙ ap (λ (b : Bool). if b then 92 ∷ 117 ∷ four_digits c else encode_utf8 c) e

-- One reading

cons_same : (a b : ℕ) (x y : List ℕ) → a ∷ x ≡ b ∷ y → (a ≡ b) × (x ≡ y)
cons_same a b x y e = (ap (λ xs. get_or xs 0 0) e, ap (drop 1) e)

-- What a spelling is, c and its rest being given.
abbrev Same : ℕ → List ℕ → List ℕ → ℕ → List ℕ → Type 0
Same c x bytes d y = bytes ≡ char_spelling c ++ x → (c ≡ d) × (x ≡ y)

short_same : (c l d : ℕ) (x y : List ℕ) → short_letter d ≡ Some l → Same c x (92 ∷ l ∷ y) d y
short_same c l d x y f = each_spelling (λ bs. 92 ∷ l ∷ y ≡ bs ++ x → (c ≡ d) × (x ≡ y)) c
    (λ k g e. let rest : (l ≡ k) × (y ≡ x) = cons_same l k y x (ap (drop 1) e) in
    (same_letter c d l (g ∙ ap Some (sym rest.0)) f, sym rest.1))
    (λ n t e. absurd (letter_not_u d l f (ap (λ xs. get_or xs 1 0) e)))
    (λ n t e. absurd (itself_not_escape c x (l ∷ y) n (sym e)))

coded_same : (c d : ℕ) (x y : List ℕ) → short_letter d ≡ None → is_coded d ≡ true → Same c x (92 ∷ 117 ∷ (four_digits d ++ y)) d y
coded_same c d x y m f = each_spelling (λ bs. 92 ∷ 117 ∷ (four_digits d ++ y) ≡ bs ++ x → (c ≡ d) × (x ≡ y)) c
    (λ k g e. absurd (letter_not_u c k g (sym (ap (λ xs. get_or xs 1 0) e))))
    (λ n t e. (sym (same_code d c (coded_small d f) (coded_small c t) (ap (λ xs. take 4 (drop 2 xs)) e)), sym (ap (drop 6) e)))
    (λ n t e. absurd (itself_not_escape c x (117 ∷ (four_digits d ++ y)) n (sym e)))

itself_same : (c d : ℕ) (x y : List ℕ) → short_letter d ≡ None → is_coded d ≡ false → Same c x (encode_utf8 d ++ y) d y
itself_same c d x y m f = each_spelling (λ bs. encode_utf8 d ++ y ≡ bs ++ x → (c ≡ d) × (x ≡ y)) c
    (λ k g e. absurd (itself_not_escape d y (k ∷ x) m e))
    (λ n t e. absurd (itself_not_escape d y (117 ∷ (four_digits c ++ x)) m e))
    (λ n t e. let same : (d ≡ c) × (y ≡ x) = encode_same d c y x e in (sym same.0, sym same.1))

-- No spelling begins another: a character and what follows it are determined.
pub char_same : (c d : ℕ) (x y : List ℕ) → char_spelling c ++ x ≡ char_spelling d ++ y → (c ≡ d) × (x ≡ y)
char_same c d x y e = each_spelling (λ bs. Same c x (bs ++ y) d y) d
    (λ l f. short_same c l d x y f) (λ m f. coded_same c d x y m f) (λ m f. itself_same c d x y m f) (sym e)

-- No spelling begins with a quote.
pub not_quote : (c : ℕ) (x y : List ℕ) → char_spelling c ++ x ≡ 34 ∷ y → ⊥
not_quote c x y = each_spelling (λ bs. bs ++ x ≡ 34 ∷ y → ⊥) c
    (λ l f e. let bad = ap (λ xs. get_or xs 0 0) e in omega arith)
    (λ n t e. let bad = ap (λ xs. get_or xs 0 0) e in omega arith)
    (λ n t e. let is : c ≡ 34 = char_from_byte (34 ∷ y) x c (sym e) (omega arith) (omega arith) in apart_options (short_letter c) 34 (ap short_letter is) n)

digit_ascii : (d : ℕ) → d < 16 → digit_char d < 128
digit_ascii d l = grind (arith, nat_tests)

letter_ascii : (c l : ℕ) → short_letter c ≡ Some l → l < 128
letter_ascii = each_letter (λ c l. l < 128) (omega arith) (omega arith) (omega arith) (omega arith) (omega arith) (omega arith) (omega arith)

-- Spellings are UTF-8.
pub spelling_utf8 : (c : ℕ) → IsScalar c → IsUtf8 (char_spelling c)
spelling_utf8 c s = each_spelling IsUtf8 c
    (λ l f. utf8_ascii (92 ∷ l ∷ []) (omega arith, (letter_ascii c l f, tt)))
    (λ n t. let small : c < 65536 = coded_small c t in
    utf8_ascii (92 ∷ 117 ∷ four_digits c) (omega arith, (omega arith, (digit_ascii _ (omega arith), (digit_ascii _ (omega arith), (digit_ascii _ (omega arith), (digit_ascii _ (omega arith), tt)))))))
    (λ n t. IsUtf8-encode c s)

-- Each spelling has a byte.
pub spelling_some : (c : ℕ) → 0 < length (char_spelling c)
spelling_some c = each_spelling (λ bs. 0 < length bs) c (λ l f. omega arith) (λ n t. omega arith)
    (λ n t. let bounds : (1 ≤ len_utf8 c) × (len_utf8 c ≤ 4) = len_utf8_bounds c in omega (arith, length-encode c))
