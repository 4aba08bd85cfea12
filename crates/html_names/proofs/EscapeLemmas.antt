-- What is escaped has no bad place, and only one text is escaped as it.
use Rattle.std.proofs.Common.{◌≡◌, ◌≢◌, ℕ, zero, suc, ◌<◌, false, if◌then◌else◌, List, [], ◌∷◌, ◌++◌, drop, take, length, get_or, codes, refl, sym, ◌∙◌, ap, subst, ⊎_elim, arith, append_assoc, length-append, append-nil, true}
use Rattle.std.specs.Str.{bytes_eq}
use Rattle.std.proofs.lemmas.Bool.{cases_eq, cases_lt, ne_eqb}
use Rattle.std.proofs.lemmas.List.{append_cancel_left, get_or_past}
use Rattle.std.proofs.Math.Seq.{drop-cons}
use Rattle.fizz_text.specs.Ascii.{apostrophe, greater_than_sign, less_than_sign, quotation_mark}
use Rattle.html_names.specs.Escape.{spelling_of, escape_of, begins_badly, IsNoMark}

-- A byte is one of the five that have replacements, or another.
pub each_byte : (P : ℕ → Type 0) → P 34 → P 38 → P 39 → P 60 → P 62 →
    ((b : ℕ) → b ≢ 34 → b ≢ 38 → b ≢ 39 → b ≢ 60 → b ≢ 62 → P b) → (b : ℕ) → P b
each_byte P p34 p38 p39 p60 p62 other b =
    ⊎_elim (λ e. subst P (sym e) p34) (λ n34.
    ⊎_elim (λ e. subst P (sym e) p38) (λ n38.
    ⊎_elim (λ e. subst P (sym e) p39) (λ n39.
    ⊎_elim (λ e. subst P (sym e) p60) (λ n60.
    ⊎_elim (λ e. subst P (sym e) p62) (λ n62. other b n34 n38 n39 n60 n62)
    (cases_eq b 62)) (cases_eq b 60)) (cases_eq b 39)) (cases_eq b 38)) (cases_eq b 34)

-- No place of the first bytes is bad, where the others follow.
abbrev NoneBad : List ℕ → List ℕ → Type 0
NoneBad [] more = Unit {0}
NoneBad (b ∷ bs) more = (begins_badly (b ∷ (bs ++ more)) ≡ false) × NoneBad bs more

NoneBad-append : (xs ys more : List ℕ) → NoneBad xs (ys ++ more) → NoneBad ys more → NoneBad (xs ++ ys) more
NoneBad-append [] ys more h k = k
NoneBad-append (x ∷ xs) ys more h k = (rw (append_assoc xs ys more) h.0, NoneBad-append xs ys more h.1 k)

NoneBad-at : (xs more : List ℕ) (k : ℕ) → NoneBad xs more → k < length xs → begins_badly (drop k (xs ++ more)) ≡ false
NoneBad-at [] more k h l = absurd (omega arith)
NoneBad-at (x ∷ xs) more zero h l = h.0
NoneBad-at (x ∷ xs) more (suc k) h l = NoneBad-at xs more k h.1 (omega arith)

-- Another byte stands for itself.
pub plain_spelling : (b : ℕ) → b ≢ 34 → b ≢ 38 → b ≢ 39 → b ≢ 60 → b ≢ 62 → spelling_of b ≡ b ∷ []
plain_spelling b n34 n38 n39 n60 n62 = rw (ne_eqb b 34 n34, ne_eqb b 38 n38, ne_eqb b 39 n39, ne_eqb b 60 n60, ne_eqb b 62 n62)

plain_good : (b : ℕ) (bs : List ℕ) → b ≢ 34 → b ≢ 38 → b ≢ 39 → b ≢ 60 → b ≢ 62 → begins_badly (b ∷ bs) ≡ false
plain_good b bs n34 n38 n39 n60 n62 = rw (ne_eqb b 34 n34, ne_eqb b 38 n38, ne_eqb b 39 n39, ne_eqb b 60 n60, ne_eqb b 62 n62)

NoneBad-spelling : (more : List ℕ) (b : ℕ) → NoneBad (spelling_of b) more
NoneBad-spelling more = each_byte (λ b. NoneBad (spelling_of b) more)
    (refl, (refl, (refl, (refl, (refl, (refl, tt)))))) (refl, (refl, (refl, (refl, (refl, tt)))))
    (refl, (refl, (refl, (refl, (refl, (refl, tt)))))) (refl, (refl, (refl, (refl, tt)))) (refl, (refl, (refl, (refl, tt))))
    (λ b n34 n38 n39 n60 n62. subst (λ bs. NoneBad bs more) (sym (plain_spelling b n34 n38 n39 n60 n62)) (plain_good b more n34 n38 n39 n60 n62, tt))

NoneBad-escape_of : (text more : List ℕ) → NoneBad (escape_of text) more
NoneBad-escape_of [] more = tt
NoneBad-escape_of (b ∷ text) more =
    NoneBad-append (spelling_of b) (escape_of text) more (NoneBad-spelling (escape_of text ++ more) b) (NoneBad-escape_of text more)

-- No place of an escaped text is bad, whatever follows.
pub escaped_clean : (text more : List ℕ) (k : ℕ) → k < length (escape_of text) → begins_badly (drop k (escape_of text ++ more)) ≡ false
escaped_clean text more k l = NoneBad-at (escape_of text) more k (NoneBad-escape_of text more) l

-- The byte whose spelling stands at the front, and the length of its spelling.
abbrev byte_at_front : List ℕ → ℕ
byte_at_front bytes =
    if bytes_eq (take 6 bytes) (codes "&quot;") then 34 else
    if bytes_eq (take 5 bytes) (codes "&amp;") then 38 else
    if bytes_eq (take 6 bytes) (codes "&#x27;") then 39 else
    if bytes_eq (take 4 bytes) (codes "&lt;") then 60 else
    if bytes_eq (take 4 bytes) (codes "&gt;") then 62 else get_or bytes 0 0

byte_at_front_is : (more : List ℕ) (b : ℕ) → byte_at_front (spelling_of b ++ more) ≡ b
byte_at_front_is more = each_byte (λ b. byte_at_front (spelling_of b ++ more) ≡ b) refl refl refl refl refl
    (λ b n34 n38 n39 n60 n62. rw (plain_spelling b n34 n38 n39 n60 n62, ne_eqb b 38 n38))

pub spelling_some : (b : ℕ) → 0 < length (spelling_of b)
spelling_some = each_byte (λ b. 0 < length (spelling_of b)) (omega arith) (omega arith) (omega arith) (omega arith) (omega arith)
    (λ b n34 n38 n39 n60 n62. rw (plain_spelling b n34 n38 n39 n60 n62) (omega arith))

-- Only one text is escaped as these bytes.
pub escaped_injective : (xs ys : List ℕ) → escape_of xs ≡ escape_of ys → xs ≡ ys
escaped_injective [] [] e = refl
escaped_injective [] (y ∷ ys) e = absurd (omega (arith, spelling_some y, ap length e, length-append (spelling_of y) (escape_of ys)))
escaped_injective (x ∷ xs) [] e = absurd (omega (arith, spelling_some x, ap length e, length-append (spelling_of x) (escape_of xs)))
escaped_injective (x ∷ xs) (y ∷ ys) e =
    let same : x ≡ y = sym (byte_at_front_is (escape_of xs) x) ∙ (ap byte_at_front e ∙ byte_at_front_is (escape_of ys) y) in
    let rest : escape_of xs ≡ escape_of ys = append_cancel_left (spelling_of x) (escape_of xs) (escape_of ys) (e ∙ ap (λ b. spelling_of b ++ escape_of ys) (sym same)) in
    cc (same, escaped_injective xs ys rest)

true_not_false : true ≡ false → ⊥
true_not_false e = cc

-- A byte that is bad wherever it stands is in no escaped text.
pub absent_byte : (m : ℕ) → 0 < m → ((bs : List ℕ) → begins_badly (m ∷ bs) ≡ true) → (text : List ℕ) (k : ℕ) → get_or (escape_of text) k 0 ≢ m
absent_byte m some bad text k e =
    let all : List ℕ = escape_of text in
    let inside : k < length all → ⊥ = λ l.
    let good : begins_badly (drop k all) ≡ false = subst (λ bs. begins_badly (drop k bs) ≡ false) (append-nil all) (escaped_clean text [] k l) in
    let here : drop k all ≡ m ∷ drop (suc k) all = drop-cons all k 0 l ∙ ap (λ b. b ∷ drop (suc k) all) e in
    true_not_false (sym (bad (drop (suc k) all)) ∙ (ap begins_badly (sym here) ∙ good)) in
    ⊎_elim inside (λ past. let none : get_or all k 0 ≡ 0 = get_or_past all k 0 past in omega arith) (cases_lt k (length all))

-- The four marks stand in no escaped text.
pub escaped_unmarked : (text : List ℕ) (k : ℕ) → IsNoMark (get_or (escape_of text) k 0)
escaped_unmarked text k = record {
  no_quotation_mark = absent_byte quotation_mark (omega arith) (λ bs. refl) text k;
  no_apostrophe = absent_byte apostrophe (omega arith) (λ bs. refl) text k;
  no_less_than_sign = absent_byte less_than_sign (omega arith) (λ bs. refl) text k;
  no_greater_than_sign = absent_byte greater_than_sign (omega arith) (λ bs. refl) text k;
}
