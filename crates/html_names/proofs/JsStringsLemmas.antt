-- Reading strings: what begins with no spelling, and that a string has one reading.
use Rattle.std.proofs.Common.{◌≡◌, ◌≢◌, ℕ, ◌-◌, ◌<◌, ◌≤◌, Bool, true, false, ◌&&◌, List, [], ◌∷◌, ◌++◌, take, drop, length, get_or, Result, Ok, Err, Option, Some, None, refl, sym, ◌∙◌, ap, subst, arith, append_assoc, append-nil, length-append}
use Rattle.std.specs.Char.{IsScalar, encode_utf8, len_utf8}
use Rattle.std.specs.List.{flat_map}
use Rattle.std.specs.Option.{MatchOption}
use Rattle.std.specs.Result.{OnOk, is_err}
use Rattle.std.specs.Str.{IsUtf8, bytes_eq, IsValidUpTo, StartsWithNoChar, all_scalars, chars, encode_utf8_all}
use Rattle.std.proofs.lemmas.List.{take-append-drop, take-take, length-take-le}
use Rattle.std.proofs.lemmas.List.Concat.{flat_map-append}
use Rattle.std.proofs.lemmas.Str.{encode_same, IsUtf8-encode, IsUtf8-append, length-encode, len_utf8_bounds, chars-append, chars-encodes, scalars-chars, encodes-chars, chars-nil, IsUtf8-nil}
use Rattle.std.proofs.lemmas.Slice.Eq.{bytes_eq-Decides}
use Rattle.std.proofs.Math.Seq.{take-append_seam, drop-append_seam}
use Rattle.html_names.specs.JsStrings.{short_letter, is_coded, four_digits, char_spelling, js_string, BeginsNoChar, BeginsNoString, BeginsWithString}
use Rattle.html_names.specs.Spellings.{IsSpelled}
use Rattle.html_names.specs.declared.js_string.Spelling.{Spelling}
use Rattle.html_names.specs.declared.js_string.Spelling.TheVariants.{Short, Coded, Itself}
use Rattle.std.proofs.Math.Utf8.{scalar}
use Rattle.html_names.proofs.EscapedPrefixLemmas.{and_both}
use Rattle.html_names.proofs.Utf8Lemmas.{utf8_ascii}
use Rattle.html_names.proofs.JsStringsCharLemmas.{each_spelling, letter_not_u, itself_not_escape, char_same, not_quote, spelling_some, spelling_utf8}

pub apart_bools : (b : Bool) → b ≡ true → b ≡ false → ⊥
apart_bools b e f = cc

no_char : (bytes : List ℕ) → ((c l : ℕ) (more : List ℕ) → short_letter c ≡ Some l → bytes ≢ 92 ∷ l ∷ more) →
    ((c : ℕ) (more : List ℕ) → IsSpelled c Coded → bytes ≢ 92 ∷ 117 ∷ (four_digits c ++ more)) →
    ((c : ℕ) (more : List ℕ) → IsScalar c → IsSpelled c Itself → bytes ≢ encode_utf8 c ++ more) → BeginsNoChar bytes
no_char bytes short coded itself c more scalar e =
    each_spelling (λ bs. bytes ≡ bs ++ more → ⊥) c (λ l f. short c l more f) (λ n t. coded c more (n, t)) (λ n t. itself c more scalar (n, t)) e

pub when_ok : {T E : Type 0} (r : Result T E) (P : Type 0) → OnOk r P → is_err r ≡ false → P
when_ok (Ok x) P h e = h
when_ok (Err x) P h e = absurd (apart_bools true refl e)

-- Behind a backslash

pub no_end : BeginsNoChar (92 ∷ [])
no_end = no_char (92 ∷ [])
    (λ c l more f e. omega (arith, ap length e))
    (λ c more f e. omega (arith, ap length e))
    (λ c more s f e. itself_not_escape c more [] f.0 (sym e))

pub no_letter : (letter : ℕ) (more : List ℕ) → letter ≢ 117 → ((c : ℕ) → short_letter c ≢ Some letter) → BeginsNoChar (92 ∷ letter ∷ more)
no_letter letter more n h = no_char (92 ∷ letter ∷ more)
    (λ c l rest f e. h c (f ∙ ap Some (sym (ap (λ xs. get_or xs 1 0) e))))
    (λ c rest f e. n (ap (λ xs. get_or xs 1 0) e))
    (λ c rest s f e. itself_not_escape c rest (letter ∷ more) f.0 (sym e))

pub no_digits : (digits : List ℕ) → length digits < 4 → BeginsNoChar (92 ∷ 117 ∷ digits)
no_digits digits few = no_char (92 ∷ 117 ∷ digits)
    (λ c l rest f e. letter_not_u c l f (sym (ap (λ xs. get_or xs 1 0) e)))
    (λ c rest f e. omega (arith, ap length e))
    (λ c rest s f e. itself_not_escape c rest (117 ∷ digits) f.0 (sym e))

pub no_code : (digits : List ℕ) → ((c : ℕ) → IsSpelled c Coded → take 4 digits ≢ four_digits c) → BeginsNoChar (92 ∷ 117 ∷ digits)
no_code digits h = no_char (92 ∷ 117 ∷ digits)
    (λ c l rest f e. letter_not_u c l f (sym (ap (λ xs. get_or xs 1 0) e)))
    (λ c rest f e. h c f (ap (λ xs. take 4 (drop 2 xs)) e))
    (λ c rest s f e. itself_not_escape c rest (117 ∷ digits) f.0 (sym e))

apart_letters : (o : Option ℕ) (l : ℕ) → o ≡ Some l → o ≡ None → ⊥
apart_letters o l e f = cc

-- A character is spelled in one way.
pub is_itself : (c : ℕ) (kind : Spelling) → IsSpelled c kind → IsSpelled c Itself → kind ≡ Itself
is_itself c (Short l) h f = absurd (apart_letters (short_letter c) l h f.0)
is_itself c Coded h f = absurd (apart_bools (is_coded c) h.1 f.1)
is_itself c Itself h f = refl

pub is_by_code : (c : ℕ) (kind : Spelling) → IsSpelled c kind → IsSpelled c Coded → kind ≡ Coded
is_by_code c (Short l) h f = absurd (apart_letters (short_letter c) l h f.0)
is_by_code c Coded h f = refl
is_by_code c Itself h f = absurd (apart_bools (is_coded c) f.1 h.1)

-- Elsewhere

pub no_itself : (bytes : List ℕ) → ((more : List ℕ) → bytes ≢ 92 ∷ more) → ((c : ℕ) (more : List ℕ) → IsScalar c → IsSpelled c Itself → bytes ≢ encode_utf8 c ++ more) → BeginsNoChar bytes
no_itself bytes n h = no_char bytes (λ c l more f e. n (l ∷ more) e) (λ c more f e. n (117 ∷ (four_digits c ++ more)) e) h

pub no_front : (bytes : List ℕ) → ((more : List ℕ) → bytes ≢ 92 ∷ more) → StartsWithNoChar bytes → BeginsNoChar bytes
no_front bytes n h = no_itself bytes n (λ c more s f e. h c more s e)

pub other_front : (bytes rest : List ℕ) (c : ℕ) (kind : Spelling) → ((more : List ℕ) → bytes ≢ 92 ∷ more) → bytes ≡ encode_utf8 c ++ rest → IsSpelled c kind → kind ≢ Itself → BeginsNoChar bytes
other_front bytes rest c kind n is spelled other = no_itself bytes n (λ d more s f e.
    let same : (c ≡ d) × (rest ≡ more) = encode_same c d rest more (sym is ∙ e) in
    other (is_itself c kind spelled (subst (λ a. IsSpelled a Itself) (sym same.0) f)))

-- The first character

-- The longest UTF-8 within the first four bytes
pub longest_front : (rest text : List ℕ) (n m k : ℕ) → IsValidUpTo (take k rest) n → text ≡ take n (take k rest) → length text < m → m ≤ k → ¬ IsUtf8 (take m rest)
longest_front rest text n m k valid is more within u =
    let size : length text ≡ n = ap length is ∙ length-take-le n (take k rest) (omega (arith, valid.short)) in
    valid.longest m (omega arith) (subst IsUtf8 (sym (take-take m k rest within)) u)

pub no_char_at_front : (rest text : List ℕ) → length text ≡ 0 → ((m : ℕ) → length text < m → m ≤ 4 → m ≤ length rest → ¬ IsUtf8 (take m rest)) → StartsWithNoChar rest
no_char_at_front rest text none longest c more scalar e =
    let m : ℕ = length (encode_utf8 c) in
    let bounds : (1 ≤ len_utf8 c) × (len_utf8 c ≤ 4) = len_utf8_bounds c in
    let front : take m rest ≡ encode_utf8 c = ap (take m) e ∙ take-append_seam (encode_utf8 c) more in
    longest m (omega (arith, length-encode c)) (omega (arith, length-encode c)) (omega (arith, ap length e, length-append (encode_utf8 c) more))
    (subst IsUtf8 (sym front) (IsUtf8-encode c scalar))

pub char_at_front : (rest text left : List ℕ) (c : ℕ) → text ≡ take (length text) rest → text ≡ encode_utf8 c ++ left → rest ≡ encode_utf8 c ++ drop (len_utf8 c) rest
char_at_front rest text left c front is =
    let n : ℕ = length text in
    let whole : rest ≡ encode_utf8 c ++ (left ++ drop n rest) =
    sym (take-append-drop n rest) ∙ (ap (λ xs. xs ++ drop n rest) (sym front ∙ is) ∙ append_assoc (encode_utf8 c) left (drop n rest)) in
    let past : drop (len_utf8 c) rest ≡ left ++ drop n rest =
    ap (λ k. drop k rest) (sym (length-encode c)) ∙ (ap (drop (length (encode_utf8 c))) whole ∙ drop-append_seam (encode_utf8 c) (left ++ drop n rest)) in
    whole ∙ ap (λ xs. encode_utf8 c ++ xs) (sym past)

pub first_is : (rest text whole left : List ℕ) (X : Type 0) (r : Option ℕ) → MatchOption r ((length text ≡ 0) × X) (λ c. text ≡ encode_utf8 c ++ left) → text ≡ whole →
    whole ≡ take (length whole) rest → ((m : ℕ) → length whole < m → m ≤ 4 → m ≤ length rest → ¬ IsUtf8 (take m rest)) →
    MatchOption r (StartsWithNoChar rest) (λ c. rest ≡ encode_utf8 c ++ drop (len_utf8 c) rest)
first_is rest text whole left X None step same front longest = no_char_at_front rest whole (ap length (sym same) ∙ step.0) longest
first_is rest text whole left X (Some c) step same front longest = char_at_front rest whole left c front (sym same ∙ step)

-- The quotes

pub quote_first : (bytes rest : List ℕ) → bytes_eq (take 1 bytes) (34 ∷ []) ≡ true → rest ≡ drop 1 bytes → bytes ≡ 34 ∷ rest
quote_first bytes rest e is = sym (take-append-drop 1 bytes) ∙ (ap (λ xs. xs ++ drop 1 bytes) ((bytes_eq-Decides (take 1 bytes) (34 ∷ [])).0 e) ∙ ap (λ xs. 34 ∷ xs) (sym is))

pub not_first : (bytes : List ℕ) (b : ℕ) → bytes_eq (take 1 bytes) (b ∷ []) ≡ false → (xs : List ℕ) → bytes ≢ b ∷ xs
not_first bytes b e xs is = apart_bools (bytes_eq (take 1 bytes) (b ∷ [])) ((bytes_eq-Decides (take 1 bytes) (b ∷ [])).1 (ap (take 1) is)) e

pub first_string : (bytes rest text : List ℕ) → bytes ≡ 34 ∷ rest → text ≡ [] → bytes ≡ 34 ∷ (flat_map char_spelling (chars text) ++ rest)
first_string bytes rest text is none = is ∙ ap (λ xs. 34 ∷ (flat_map char_spelling xs ++ rest)) (sym (ap chars none ∙ chars-nil))

pub shorter_rest : (rest more : List ℕ) (c : ℕ) → rest ≡ char_spelling c ++ more → length more < length rest
shorter_rest rest more c e = omega (arith, ap length e, length-append (char_spelling c) more, spelling_some c)

-- Strings

both_read : (cs ds rest more : List ℕ) → all_scalars ds ≡ true → flat_map char_spelling cs ++ rest ≡ flat_map char_spelling ds ++ 34 ∷ more → BeginsNoChar rest →
    ((xs : List ℕ) → rest ≢ 34 ∷ xs) → ⊥
both_read [] [] rest more s e none end = end more e
both_read [] (d ∷ ds) rest more s e none end = none d (flat_map char_spelling ds ++ 34 ∷ more) ((and_both (scalar d) (all_scalars ds) s).0) (e ∙ append_assoc (char_spelling d) (flat_map char_spelling ds) (34 ∷ more))
both_read (c ∷ cs) [] rest more s e none end = not_quote c (flat_map char_spelling cs ++ rest) more (sym (append_assoc (char_spelling c) (flat_map char_spelling cs) rest) ∙ e)
both_read (c ∷ cs) (d ∷ ds) rest more s e none end =
    let same : (c ≡ d) × (flat_map char_spelling cs ++ rest ≡ flat_map char_spelling ds ++ 34 ∷ more) =
    char_same c d (flat_map char_spelling cs ++ rest) (flat_map char_spelling ds ++ 34 ∷ more)
    (sym (append_assoc (char_spelling c) (flat_map char_spelling cs) rest) ∙ (e ∙ append_assoc (char_spelling d) (flat_map char_spelling ds) (34 ∷ more))) in
    both_read cs ds rest more ((and_both (scalar d) (all_scalars ds) s).1) same.1 none end

-- The string as its characters, a quote and what follows.
string_is : (text more : List ℕ) → js_string text ++ more ≡ 34 ∷ (flat_map char_spelling (chars text) ++ 34 ∷ more)
string_is text more = ap (λ xs. 34 ∷ xs) (append_assoc (flat_map char_spelling (chars text)) (34 ∷ []) more)

-- Where neither a character nor the quote comes, no string began.
pub no_string : (bytes text rest : List ℕ) → bytes ≡ 34 ∷ (flat_map char_spelling (chars text) ++ rest) → BeginsNoChar rest → ((xs : List ℕ) → rest ≢ 34 ∷ xs) → BeginsNoString bytes
no_string bytes text rest is none end other more u e =
    both_read (chars text) (chars other) rest more (scalars-chars other u) (ap (drop 1) (sym is ∙ (e ∙ string_is other more))) none end

pub no_quote_no_string : (bytes : List ℕ) → ((xs : List ℕ) → bytes ≢ 34 ∷ xs) → BeginsNoString bytes
no_quote_no_string bytes n text more u e = n (flat_map char_spelling (chars text) ++ 34 ∷ [] ++ more) e

-- A further character was read.
pub read_more : (bytes text rest more : List ℕ) (c : ℕ) → IsUtf8 text → IsScalar c → bytes ≡ 34 ∷ (flat_map char_spelling (chars text) ++ rest) → rest ≡ char_spelling c ++ more →
    bytes ≡ 34 ∷ (flat_map char_spelling (chars (text ++ encode_utf8 c)) ++ more)
read_more bytes text rest more c u is_scalar is e =
    let spelled : List ℕ = flat_map char_spelling (chars text) in
    let one : chars (encode_utf8 c) ≡ c ∷ [] = ap chars (sym (append-nil (encode_utf8 c))) ∙ chars-encodes (c ∷ []) (ap (λ b. b && true) is_scalar) in
    let grown : flat_map char_spelling (chars (text ++ encode_utf8 c)) ≡ spelled ++ char_spelling c =
    ap (flat_map char_spelling) (chars-append text (encode_utf8 c) u ∙ ap (λ xs. chars text ++ xs) one)
    ∙ (flat_map-append char_spelling (chars text) (c ∷ []) ∙ ap (λ xs. spelled ++ xs) (append-nil (char_spelling c))) in
    is ∙ (ap (λ xs. 34 ∷ (spelled ++ xs)) e ∙ (ap (λ xs. 34 ∷ xs) (sym (append_assoc spelled (char_spelling c) more)) ∙ ap (λ xs. 34 ∷ (xs ++ more)) (sym grown)))

pub whole_string : (bytes text rest more : List ℕ) → IsUtf8 text → bytes ≡ 34 ∷ (flat_map char_spelling (chars text) ++ rest) → rest ≡ 34 ∷ more → BeginsWithString bytes text (length bytes - length more)
whole_string bytes text rest more u is e =
    let whole : bytes ≡ js_string text ++ more = is ∙ (ap (λ xs. 34 ∷ (flat_map char_spelling (chars text) ++ xs)) e ∙ sym (string_is text more)) in
    let size : length bytes - length more ≡ length (js_string text) = omega (arith, ap length whole, length-append (js_string text) more) in
    record {
      utf8 = u;
      whole = size;
      is = whole ∙ ap (λ xs. js_string text ++ xs) (sym (ap (λ n. drop n bytes) size ∙ (ap (drop (length (js_string text))) whole ∙ drop-append_seam (js_string text) more)));
    }

same_strings : (cs ds x y : List ℕ) → flat_map char_spelling cs ++ 34 ∷ x ≡ flat_map char_spelling ds ++ 34 ∷ y → (cs ≡ ds) × (x ≡ y)
same_strings [] [] x y e = (refl, ap (drop 1) e)
same_strings [] (d ∷ ds) x y e = absurd (not_quote d (flat_map char_spelling ds ++ 34 ∷ y) x (sym (e ∙ append_assoc (char_spelling d) (flat_map char_spelling ds) (34 ∷ y))))
same_strings (c ∷ cs) [] x y e = absurd (not_quote c (flat_map char_spelling cs ++ 34 ∷ x) y (sym (append_assoc (char_spelling c) (flat_map char_spelling cs) (34 ∷ x)) ∙ e))
same_strings (c ∷ cs) (d ∷ ds) x y e =
    let same : (c ≡ d) × (flat_map char_spelling cs ++ 34 ∷ x ≡ flat_map char_spelling ds ++ 34 ∷ y) =
    char_same c d (flat_map char_spelling cs ++ 34 ∷ x) (flat_map char_spelling ds ++ 34 ∷ y)
    (sym (append_assoc (char_spelling c) (flat_map char_spelling cs) (34 ∷ x)) ∙ (e ∙ append_assoc (char_spelling d) (flat_map char_spelling ds) (34 ∷ y))) in
    let rest : (cs ≡ ds) × (x ≡ y) = same_strings cs ds x y same.1 in
    (cc (same.0, rest.0), rest.1)

-- A string has one text, and one end.
pub one_string : (a b x y : List ℕ) → IsUtf8 a → IsUtf8 b → js_string a ++ x ≡ js_string b ++ y → (a ≡ b) × (x ≡ y)
one_string a b x y u v e =
    let same : (chars a ≡ chars b) × (x ≡ y) = same_strings (chars a) (chars b) x y (ap (drop 1) (sym (string_is a x) ∙ (e ∙ string_is b y))) in
    (sym (encodes-chars a u) ∙ (ap encode_utf8_all same.0 ∙ encodes-chars b v), same.1)

spelled_utf8 : (cs : List ℕ) → all_scalars cs ≡ true → IsUtf8 (flat_map char_spelling cs)
spelled_utf8 [] s = IsUtf8-nil
spelled_utf8 (c ∷ cs) s =
    let both : (scalar c ≡ true) × (all_scalars cs ≡ true) = and_both (scalar c) (all_scalars cs) s in
    IsUtf8-append (char_spelling c) (flat_map char_spelling cs) (spelling_utf8 c both.0) (spelled_utf8 cs both.1)

quote_utf8 : IsUtf8 (34 ∷ [])
quote_utf8 = utf8_ascii (34 ∷ []) (omega arith, tt)

pub string_utf8 : (text : List ℕ) → IsUtf8 text → IsUtf8 (js_string text)
string_utf8 text u =
    IsUtf8-append (34 ∷ []) (flat_map char_spelling (chars text) ++ 34 ∷ []) quote_utf8
    (IsUtf8-append (flat_map char_spelling (chars text)) (34 ∷ []) (spelled_utf8 (chars text) (scalars-chars text u)) quote_utf8)
