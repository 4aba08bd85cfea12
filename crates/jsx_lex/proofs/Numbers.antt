-- The numbers that the lexer finds are the numbers.
use Rattle.std.proofs.Common.{◌≡◌, ℕ, ◌+◌, ◌^◌, ◌<◌, ◌≤◌, ◌⊎◌, inl, inr, Bool, true, false, not, ◌||◌, nat_eq, nat_lt, nat_le, List, [], ◌∷◌, ◌++◌, length, drop, take, get_or, Option, Some, None, refl, ap, sym, ◌∙◌, arith, subst}
use Rattle.std.proofs.lemmas.Bool.{and_parts, and_from, or_parts, or_cases, eqb-true, ne_eqb, eq-eqb, lt-ltb, le-leb, ltb-true, leb-true, cond-true, cond-false, not_from_false, not-true, eqb-false}
use Rattle.std.proofs.lemmas.List.{take_at, drop_at, take-append-drop, nil_from_length}
use Rattle.std.proofs.lemmas.List.Folds.{length-prefix_len}
use Rattle.std.specs.List.{list_all, prefix_len}
use Rattle.std.specs.Char.{is_ascii_digit}
use Rattle.std.specs.Str.Parse.{digits_value, AllDigits}
use Rattle.jsx_lex.specs.Characters.{is_number_follower, is_name_part, is_name_start, Ends}
use Rattle.jsx_lex.specs.Words.{IsDigits, IsNumber}
use Rattle.jsx_lex.specs.Reading.{offset_by, ends, is_numeral, digits_len, number_len}
use Rattle.jsx_lex.proofs.Scanning.{list_all-run, AllDigits-from_test}
use Rattle.jsx_lex.proofs.Runs.{prefix_len-run}

digits_end : (after : List ℕ) → Ends is_number_follower after → Ends is_ascii_digit after
digits_end [] h = tt
digits_end (b ∷ bs) h =
    let p = or_parts (is_name_part b) (nat_eq b 46) h in
    let q = or_parts (is_name_start b) (is_ascii_digit b) p.0 in
    q.1

ends-from : (test : ℕ → Bool) (after : List ℕ) → Ends test after → ends test after ≡ true
ends-from test [] h = refl
ends-from test (b ∷ bs) h = not_from_false (test b) h

Ends-from : (test : ℕ → Bool) (after : List ℕ) → ends test after ≡ true → Ends test after
Ends-from test [] h = tt
Ends-from test (b ∷ bs) h = not-true (test b) h

no_zero : (ds : List ℕ) → IsDigits ds → (nat_eq (length ds) 1 || not (nat_eq (get_or ds 0 0) 48)) ≡ true
no_zero [] h = absurd h
no_zero (d ∷ ds) h = by_zero (nat_eq d 48) refl
  where
    by_zero : (t : Bool) → nat_eq d 48 ≡ t → (nat_eq (length (d ∷ ds)) 1 || not (nat_eq (get_or (d ∷ ds) 0 0) 48)) ≡ true
    by_zero true e = let n : ds ≡ [] = h.1 (eqb-true d 48 e) in rw n
    by_zero false e = rw e (or_true (nat_eq (length (d ∷ ds)) 1))
      where
        or_true : (t : Bool) → (t || true) ≡ true
        or_true true = refl
        or_true false = refl

some_digits : (ds : List ℕ) → IsDigits ds → nat_lt 0 (length ds) ≡ true
some_digits [] h = absurd h
some_digits (d ∷ ds) h = lt-ltb 0 (length (d ∷ ds)) (omega arith)

all_digits : (ds : List ℕ) → IsDigits ds → list_all is_ascii_digit ds ≡ true
all_digits [] h = absurd h
all_digits (d ∷ ds) h = h.0

pub digits_len-complete : (least past : ℕ) (ds after : List ℕ) → IsDigits ds → least ≤ digits_value 10 ds → digits_value 10 ds < past → Ends is_number_follower after → digits_len least past (ds ++ after) ≡ Some (length ds)
digits_len-complete least past ds after h low high e =
    let n : prefix_len is_ascii_digit (ds ++ after) ≡ length ds = prefix_len-run is_ascii_digit ds after (all_digits ds h) (digits_end after e) in
    let t : take (length ds) (ds ++ after) ≡ ds = take_at ds after (length ds) refl in
    let d : drop (length ds) (ds ++ after) ≡ after = drop_at ds after (length ds) refl in
    let k : is_numeral least past ds after ≡ true =
    and_from _ (ends is_number_follower after)
    (and_from _ (nat_lt (digits_value 10 ds) past)
    (and_from _ (nat_le least (digits_value 10 ds))
    (and_from (nat_lt 0 (length ds)) (nat_eq (length ds) 1 || not (nat_eq (get_or ds 0 0) 48)) (some_digits ds h) (no_zero ds h))
    (le-leb least (digits_value 10 ds) low))
    (lt-ltb (digits_value 10 ds) past high))
    (ends-from is_number_follower after e) in
    rw (n, t, d, k)

pub record FindsDigits (least past : ℕ) (text : List ℕ) (n : ℕ) : Type 0 where
  pub digits : List ℕ
  pub after : List ℕ
  pub split : text ≡ digits ++ after
  pub form : IsDigits digits
  pub low : least ≤ digits_value 10 digits
  pub high : digits_value 10 digits < past
  pub ends : Ends is_number_follower after
  pub length_is : n ≡ length digits

form-from : (ds : List ℕ) → list_all is_ascii_digit ds ≡ true → nat_lt 0 (length ds) ≡ true → (nat_eq (length ds) 1 || not (nat_eq (get_or ds 0 0) 48)) ≡ true → IsDigits ds
form-from [] a s z = let f : false ≡ true = s in absurd cc
form-from (d ∷ ds) a s z = (a, λ e. by_case e (or_cases (nat_eq (length (d ∷ ds)) 1) (not (nat_eq d 48)) z))
  where
    by_case : d ≡ 48 → (nat_eq (length (d ∷ ds)) 1 ≡ true) ⊎ (not (nat_eq d 48) ≡ true) → ds ≡ []
    by_case e (inl one) = let k = eqb-true (length (d ∷ ds)) 1 one in nil_from_length ds (omega arith)
    by_case e (inr ne) = absurd (eqb-false d 48 (not-true (nat_eq d 48) ne) e)

pub digits_len-sound : (least past : ℕ) (text : List ℕ) (n : ℕ) → digits_len least past text ≡ Some n → FindsDigits least past text n
digits_len-sound least past text n e = by_test (is_numeral least past (take (prefix_len is_ascii_digit text) text) (drop (prefix_len is_ascii_digit text) text)) refl
  where
    by_test : (t : Bool) → is_numeral least past (take (prefix_len is_ascii_digit text) text) (drop (prefix_len is_ascii_digit text) text) ≡ t → FindsDigits least past text n
    by_test true t =
        let ds : List ℕ = take (prefix_len is_ascii_digit text) text in
        let after : List ℕ = drop (prefix_len is_ascii_digit text) text in
        let f : digits_len least past text ≡ Some (prefix_len is_ascii_digit text) = cond-true _ (Some (prefix_len is_ascii_digit text)) None t in
        let p = and_parts _ (ends is_number_follower after) t in
        let q = and_parts _ (nat_lt (digits_value 10 ds) past) p.0 in
        let r = and_parts _ (nat_le least (digits_value 10 ds)) q.0 in
        let s = and_parts (nat_lt 0 (length ds)) (nat_eq (length ds) 1 || not (nat_eq (get_or ds 0 0) 48)) r.0 in
        record {
          digits = ds;
          after = after;
          split = sym (take-append-drop (prefix_len is_ascii_digit text) text);
          form = form-from ds (list_all-run is_ascii_digit text) s.0 s.1;
          low = leb-true least (digits_value 10 ds) r.1;
          high = ltb-true (digits_value 10 ds) past q.1;
          ends = Ends-from is_number_follower after p.1;
          length_is =
              let g : Some (prefix_len is_ascii_digit text) ≡ Some n = sym f ∙ e in
              let i : prefix_len is_ascii_digit text ≡ n = cc in
              sym i ∙ sym (length-prefix_len is_ascii_digit text);
        }
    by_test false t =
        let f : digits_len least past text ≡ None = cond-false _ (Some (prefix_len is_ascii_digit text)) None t in absurd cc

-- a digit is no `-`
digit_no_minus : (b : ℕ) (bs : List ℕ) → IsDigits (b ∷ bs) → nat_eq b 45 ≡ false
digit_no_minus b bs h = ne_eqb b 45 (λ e. let p = and_parts (is_ascii_digit b) (list_all is_ascii_digit bs) h.0 in let k : is_ascii_digit 45 ≡ true = subst (λ (x : ℕ). is_ascii_digit x ≡ true) e p.0 in let f : false ≡ true = k in absurd cc)

pub number_len-complete : (word after : List ℕ) → IsNumber word → Ends is_number_follower after → number_len (word ++ after) ≡ Some (length word)
number_len-complete [] after h e = absurd h
number_len-complete (b ∷ bs) after (inl h) e =
    cond-false (nat_eq b 45) (offset_by 1 (digits_len 1 (2 ^ 63 + 1) (bs ++ after))) (digits_len 0 (2 ^ 63) (b ∷ (bs ++ after))) (digit_no_minus b bs h.0)
    ∙ digits_len-complete 0 (2 ^ 63) (b ∷ bs) after h.0 (omega arith) h.1 e
number_len-complete (b ∷ bs) after (inr h) e =
    let low : 1 ≤ digits_value 10 bs = h.2 in
    let high : digits_value 10 bs < 2 ^ 63 + 1 = let k = h.3 in omega arith in
    cond-true (nat_eq b 45) (offset_by 1 (digits_len 1 (2 ^ 63 + 1) (bs ++ after))) (digits_len 0 (2 ^ 63) (b ∷ (bs ++ after))) (eq-eqb b 45 h.0)
    ∙ (ap (λ (o : Option ℕ). offset_by 1 o) (digits_len-complete 1 (2 ^ 63 + 1) bs after h.1 low high e)
    ∙ ap Some (omega arith))

pub record FindsNumber (text : List ℕ) (n : ℕ) : Type 0 where
  pub word : List ℕ
  pub after : List ℕ
  pub split : text ≡ word ++ after
  pub form : IsNumber word
  pub ends : Ends is_number_follower after
  pub length_is : n ≡ length word

some-shifted : (k : ℕ) (o : Option ℕ) (n : ℕ) → offset_by k o ≡ Some n → (m : ℕ) × (o ≡ Some m) × (k + m ≡ n)
some-shifted k None n e = absurd cc
some-shifted k (Some m) n e = (m, refl, cc)

number-from : (ds : List ℕ) → IsDigits ds → digits_value 10 ds < 2 ^ 63 → IsNumber ds
number-from [] h v = absurd h
number-from (d ∷ ds) h v = inl (h, v)

pub number_len-sound : (text : List ℕ) (n : ℕ) → number_len text ≡ Some n → FindsNumber text n
number_len-sound [] n e = absurd cc
number_len-sound (b ∷ bs) n e = by_minus (nat_eq b 45) refl
  where
    by_minus : (t : Bool) → nat_eq b 45 ≡ t → FindsNumber (b ∷ bs) n
    by_minus true t =
        let f : offset_by 1 (digits_len 1 (2 ^ 63 + 1) bs) ≡ Some n = sym (cond-true (nat_eq b 45) (offset_by 1 (digits_len 1 (2 ^ 63 + 1) bs)) (digits_len 0 (2 ^ 63) (b ∷ bs)) t) ∙ e in
        let m = some-shifted 1 (digits_len 1 (2 ^ 63 + 1) bs) n f in
        let d = digits_len-sound 1 (2 ^ 63 + 1) bs m.0 m.1 in
        let low = d.low in
        let high = d.high in
        let size = d.length_is in
        let total = m.2 in
        record {
          word = b ∷ d.digits;
          after = d.after;
          split = ap (λ (xs : List ℕ). b ∷ xs) d.split;
          form = inr (eqb-true b 45 t, d.form, omega arith, omega arith);
          ends = d.ends;
          length_is = omega arith;
        }
    by_minus false t =
        let f : digits_len 0 (2 ^ 63) (b ∷ bs) ≡ Some n = sym (cond-false (nat_eq b 45) (offset_by 1 (digits_len 1 (2 ^ 63 + 1) bs)) (digits_len 0 (2 ^ 63) (b ∷ bs)) t) ∙ e in
        let d = digits_len-sound 0 (2 ^ 63) (b ∷ bs) n f in
        record {
          word = d.digits;
          after = d.after;
          split = d.split;
          form = number-from d.digits d.form d.high;
          ends = d.ends;
          length_is = d.length_is;
        }

-- the digits of a number
pub digits_after : (word : List ℕ) → IsNumber word → get_or word 0 0 ≡ 45 → AllDigits 10 (drop 1 word)
digits_after [] h e = absurd h
digits_after (b ∷ bs) (inl h) e = let k = digit_no_minus b bs h.0 in let j = eq-eqb b 45 e in absurd cc
digits_after (b ∷ bs) (inr h) e = AllDigits-from_test bs (all_digits bs h.1)

pub digits_whole : (word : List ℕ) → IsNumber word → (get_or word 0 0 ≡ 45 → ⊥) → AllDigits 10 word
digits_whole [] h e = absurd h
digits_whole (b ∷ bs) (inl h) e = AllDigits-from_test (b ∷ bs) h.0.0
digits_whole (b ∷ bs) (inr h) e = absurd (e h.0)
