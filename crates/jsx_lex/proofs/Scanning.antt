-- How far a string, a comment and digits go, step by step.
use Rattle.std.proofs.Common.{◌≡◌, ℕ, zero, suc, ◌+◌, ◌-◌, ◌^◌, ◌<◌, ◌≤◌, Bool, true, false, nat_eq, List, [], ◌∷◌, length, drop, take, get_or, codes, Option, Some, None, refl, ap, sym, ◌∙◌, arith, SomeIff, option_and_then, subst, Result, Ok, Err, ◌≢◌}
use Rattle.std.proofs.lemmas.List.{drop_more, take_rest, drop-drop}
use Rattle.std.proofs.lemmas.Bool.{and_parts, cond-false}
use Rattle.std.proofs.lemmas.Bool.Decides.{nat_tests}
use Rattle.std.proofs.lemmas.Fmt.{IsAscii-from_digits}
use Rattle.std.proofs.lemmas.Str.{IsUtf8-from_ascii}
use Rattle.std.proofs.lemmas.Str.Parse.{without_leading_plus_none}
use Rattle.std.specs.Result.{result_ok}
use Rattle.std.specs.List.{list_all, prefix_len}
use Rattle.std.specs.Char.{is_ascii_digit, digit_value}
use Rattle.std.specs.Str.{IsUtf8}
use Rattle.std.specs.Str.Parse.{AllDigits, digits_value, ParsesUnsigned, without_leading_plus}
use Rattle.jsx_lex.specs.Characters.{begins}
use Rattle.jsx_lex.specs.Reading.{offset_by, string_len, part_at, comment_end}
use Rattle.jsx_lex.specs.declared.string.Part.{Part}

pub shifted-zero : (o : Option ℕ) → offset_by 0 o ≡ o
shifted-zero None = refl
shifted-zero (Some n) = ap Some (omega arith)

pub shifted-shifted : (m n k : ℕ) (o : Option ℕ) → m + n ≡ k → offset_by m (offset_by n o) ≡ offset_by k o
shifted-shifted m n k None e = refl
shifted-shifted m n k (Some i) e = ap Some (omega arith)

pub string_len-passed : (quote k : ℕ) (xs : List ℕ) → k ≤ length xs → string_len quote k xs ≡ offset_by k (string_len quote 0 (drop k xs))
string_len-passed quote zero xs h = sym (shifted-zero (string_len quote 0 xs))
string_len-passed quote (suc k) [] h = refl
string_len-passed quote (suc k) (x ∷ xs) h = ap (offset_by 1) (string_len-passed quote k xs (omega arith)) ∙ shifted-shifted 1 k (suc k) (string_len quote 0 (drop k xs)) (omega arith)

drop-less : (n : ℕ) (b : ℕ) (bs : List ℕ) → 0 < n → drop n (b ∷ bs) ≡ drop (n - 1) bs
drop-less zero b bs h = absurd (omega arith)
drop-less (suc n) b bs h = ap (λ k. drop k bs) (omega arith)

-- after a part of a string
pub string_len-part : (quote : ℕ) (xs : List ℕ) (p : Part) → part_at quote xs ≡ Some p → 0 < p.length → p.length ≤ length xs → string_len quote 0 xs ≡ offset_by p.length (string_len quote 0 (drop p.length xs))
string_len-part quote [] p e l h = absurd cc
string_len-part quote (b ∷ bs) p e l h = by_quote (nat_eq b quote) refl
  where
    by_quote : (t : Bool) → nat_eq b quote ≡ t → string_len quote 0 (b ∷ bs) ≡ offset_by p.length (string_len quote 0 (drop p.length (b ∷ bs)))
    by_quote true q = let n : part_at quote (b ∷ bs) ≡ None = rw q in absurd cc
    by_quote false q =
        cond-false (nat_eq b quote) (Some 1) (option_and_then (λ (r : Part). offset_by 1 (string_len quote (r.length - 1) bs)) (part_at quote (b ∷ bs))) q
        ∙ (ap (λ (o : Option Part). option_and_then (λ (r : Part). offset_by 1 (string_len quote (r.length - 1) bs)) o) e
        ∙ ap (offset_by 1) (string_len-passed quote (p.length - 1) bs (omega arith))
        ∙ shifted-shifted 1 (p.length - 1) p.length (string_len quote 0 (drop (p.length - 1) bs)) (omega arith)
        ∙ ap (λ ys. offset_by p.length (string_len quote 0 ys)) (sym (drop-less p.length b bs l)))

pub string_len-step : (quote at : ℕ) (xs : List ℕ) (p : Part) → at ≤ length xs → string_len quote 0 xs ≡ offset_by at (string_len quote 0 (drop at xs)) → Some p ≡ part_at quote (take (length xs - at) (drop at xs)) → 0 < p.length → p.length ≤ length (take (length xs - at) (drop at xs)) → string_len quote 0 xs ≡ offset_by (at + p.length) (string_len quote 0 (drop (at + p.length) xs))
string_len-step quote at xs p h inv e l within =
    let e' : Some p ≡ part_at quote (drop at xs) = rw (take_rest xs at) at e in
    let within' : p.length ≤ length (drop at xs) = rw (take_rest xs at) at within in
    inv ∙ ap (offset_by at) (string_len-part quote (drop at xs) p (sym e') l within')
    ∙ shifted-shifted at p.length (at + p.length) (string_len quote 0 (drop p.length (drop at xs))) refl
    ∙ ap (λ ys. offset_by (at + p.length) (string_len quote 0 ys)) (drop-drop p.length at xs)

-- after a byte of a comment
comment_end-more : (b : ℕ) (bs : List ℕ) → begins (codes "*/") (b ∷ bs) ≡ false → comment_end (b ∷ bs) ≡ offset_by 1 (comment_end bs)
comment_end-more b bs e = rw e

pub comment_end-step : (at : ℕ) (xs : List ℕ) → at < length xs → comment_end xs ≡ offset_by at (comment_end (drop at xs)) → begins (codes "*/") (take (length xs - at) (drop at xs)) ≡ false → comment_end xs ≡ offset_by (at + 1) (comment_end (drop (at + 1) xs))
comment_end-step at xs h inv e =
    let e' : begins (codes "*/") (drop at xs) ≡ false = rw (take_rest xs at) at e in
    let e'' : begins (codes "*/") (get_or xs at 0 ∷ drop (at + 1) xs) ≡ false = rw (drop_more xs at 0 h) at e' in
    inv ∙ ap (λ ys. offset_by at (comment_end ys)) (drop_more xs at 0 h)
    ∙ ap (offset_by at) (comment_end-more (get_or xs at 0) (drop (at + 1) xs) e'')
    ∙ shifted-shifted at 1 (at + 1) (comment_end (drop (at + 1) xs)) refl

digit : (b : ℕ) → is_ascii_digit b ≡ true → digit_value b < 10
digit b e = grind (arith, nat_tests)

pub AllDigits-from_test : (bs : List ℕ) → list_all is_ascii_digit bs ≡ true → AllDigits 10 bs
AllDigits-from_test [] e = tt
AllDigits-from_test (b ∷ bs) e =
    let p = and_parts (is_ascii_digit b) (list_all is_ascii_digit bs) e in
    (digit b p.0, AllDigits-from_test bs p.1)

-- a run of characters of a test
pub list_all-run : (test : ℕ → Bool) (xs : List ℕ) → list_all test (take (prefix_len test xs) xs) ≡ true
list_all-run test [] = refl
list_all-run test (x ∷ xs) = by_test (test x) refl (list_all-run test xs)
  where
    by_test : (t : Bool) → test x ≡ t → list_all test (take (prefix_len test xs) xs) ≡ true → list_all test (take (prefix_len test (x ∷ xs)) (x ∷ xs)) ≡ true
    by_test true e more =
        let next : 1 + prefix_len test xs ≡ suc (prefix_len test xs) = omega arith in
        rw (e, next, e) more
    by_test false e more = rw e

no_plus : (ds : List ℕ) → AllDigits 10 ds → get_or ds 0 0 ≢ 43
no_plus [] h = λ e. absurd (omega arith)
no_plus (d ∷ ds) h = λ e. let large : digit_value 43 < 10 = subst (λ (x : ℕ). digit_value x < 10) e h.0 in absurd (omega arith)

-- what `parse` gives of digits
pub parsed : {E : Type 0} (ds : List ℕ) (r : Result ℕ E) → ParsesUnsigned 64 10 ds r → 0 < length ds → AllDigits 10 ds → SomeIff (result_ok r) (digits_value 10 ds < 2 ^ 64) (digits_value 10 ds)
parsed ds (Ok x) p l h = let e : without_leading_plus ds ≡ ds = without_leading_plus_none ds (no_plus ds h) in let q = rw e at p in (q.0.1, q.1)
parsed ds (Err x) p l h = λ lt. let e : without_leading_plus ds ≡ ds = without_leading_plus_none ds (no_plus ds h) in let q = rw e at p in q ((l, h), lt)

pub digits_are_text : (ds : List ℕ) → AllDigits 10 ds → IsUtf8 ds
digits_are_text ds h = IsUtf8-from_ascii ds (IsAscii-from_digits ds h)
