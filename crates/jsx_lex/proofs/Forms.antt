-- The lexemes of each form are found.
use Rattle.std.proofs.Common.{◌≡◌, ℕ, ◌+◌, ◌⊎◌, inl, inr, true, false, not, nat_eq, nat_lt, List, [], ◌∷◌, ◌++◌, length, option_map, Option, Some, None, refl, ap, sym, ◌∙◌, arith, subst, append_assoc}
use Rattle.std.proofs.lemmas.Bool.{and_parts, or_cases, or_left, or_right, eqb-true, eq-eqb, lt-ltb, cond-true, cond-false, not_from_true}
use Rattle.std.proofs.lemmas.Bool.Decides.{nat_tests}
use Rattle.std.proofs.lemmas.List.{length-append}
use Rattle.std.specs.List.{list_all, prefix_len, flat_map}
use Rattle.std.specs.Char.{is_ascii_digit}
use Rattle.jsx_lex.specs.Characters.{is_space, is_name_start, is_name_part, is_tag_name_part, is_number_start, is_number_follower, is_quote, is_in_line, is_jsx_text, Ends}
use Rattle.jsx_lex.specs.StringParts.{spelling_of}
use Rattle.jsx_lex.specs.Words.{IsSpace, IsLineComment, IsBlockComment, IsName, IsNumber, IsStr, IsTagStr, IsJsxText}
use Rattle.jsx_lex.specs.Reading.{offset_by, found, number_len, string_len, tag_string_len, comment_end, read_code, read_tag, read_children, read_close}
use Rattle.jsx_lex.specs.declared.token.TokenKind.TheVariants.{Name, Number, Str, TagStr, JsxText}
use Rattle.jsx_lex.proofs.Runs.{prefix_len-run}
use Rattle.jsx_lex.proofs.Comments.{comment_end-complete}
use Rattle.jsx_lex.proofs.Strings.{string_len-complete, quote_apart}
use Rattle.jsx_lex.proofs.Numbers.{number_len-complete}

-- the first characters of forms differ
name_apart : (b : ℕ) → is_name_start b ≡ true → is_space b ≡ false
name_apart b h = grind (arith, nat_tests)

number_no_space : (b : ℕ) → is_number_start b ≡ true → is_space b ≡ false
number_no_space b h = grind (arith, nat_tests)

number_no_name : (b : ℕ) → is_number_start b ≡ true → is_name_start b ≡ false
number_no_name b h = grind (arith, nat_tests)

pub quote_cases : (P : ℕ → Type 0) → P 34 → P 39 → (q : ℕ) → is_quote q ≡ true → P q
quote_cases P double single q h = by_quote (or_cases (nat_eq q 34) (nat_eq q 39) h)
  where
    by_quote : (nat_eq q 34 ≡ true) ⊎ (nat_eq q 39 ≡ true) → P q
    by_quote (inl e) = subst P (sym (eqb-true q 34 e)) double
    by_quote (inr e) = subst P (sym (eqb-true q 39 e)) single

number_first : (b : ℕ) (bs : List ℕ) → IsNumber (b ∷ bs) → is_number_start b ≡ true
number_first b bs (inl h) = let p = and_parts (is_ascii_digit b) (list_all is_ascii_digit bs) h.0.0 in or_left (is_ascii_digit b) (nat_eq b 45) p.0
number_first b bs (inr h) = or_right (is_ascii_digit b) (nat_eq b 45) (eq-eqb b 45 h.0)

-- which case a first character leads to
pub code-number : (b : ℕ) (bs : List ℕ) → is_number_start b ≡ true → read_code (b ∷ bs) ≡ option_map (λ n. found (Some Number) n) (number_len (b ∷ bs))
code-number b bs h =
    cond-false (is_space b) _ _ (number_no_space b h) ∙ (cond-false (is_name_start b) _ _ (number_no_name b h) ∙ cond-true (is_number_start b) _ _ h)

pub code-quote : (q : ℕ) (bs : List ℕ) → is_quote q ≡ true → read_code (q ∷ bs) ≡ option_map (λ n. found (Some Str) (1 + n)) (string_len q 0 bs)
code-quote q bs h = quote_cases (λ (q : ℕ). read_code (q ∷ bs) ≡ option_map (λ n. found (Some Str) (1 + n)) (string_len q 0 bs)) refl refl q h

pub tag-quote : (q : ℕ) (bs : List ℕ) → is_quote q ≡ true → read_tag (q ∷ bs) ≡ option_map (λ n. found (Some TagStr) n) (tag_string_len q bs)
tag-quote q bs h = quote_cases (λ (q : ℕ). read_tag (q ∷ bs) ≡ option_map (λ n. found (Some TagStr) n) (tag_string_len q bs)) refl refl q h

-- spaces
pub space-code : (word after : List ℕ) → IsSpace word → read_code (word ++ after) ≡ Some (found None (length word))
space-code [] after h = absurd h
space-code (b ∷ []) after h = cond-true (is_space b) _ _ h
space-code (b ∷ c ∷ bs) after h = absurd h

pub space-tag : (word after : List ℕ) → IsSpace word → read_tag (word ++ after) ≡ Some (found None (length word))
space-tag [] after h = absurd h
space-tag (b ∷ []) after h = cond-true (is_space b) _ _ h
space-tag (b ∷ c ∷ bs) after h = absurd h

pub space-close : (word after : List ℕ) → IsSpace word → read_close (word ++ after) ≡ Some (found None (length word))
space-close [] after h = absurd h
space-close (b ∷ []) after h = cond-true (is_space b) _ _ h
space-close (b ∷ c ∷ bs) after h = absurd h

-- comments
pub line-code : (word after : List ℕ) → IsLineComment word after → read_code (word ++ after) ≡ Some (found None (length word))
line-code word after h =
    let n : prefix_len is_in_line (h.body ++ after) ≡ length h.body = prefix_len-run is_in_line h.body after h.in_line h.longest in
    subst (λ (w : List ℕ). read_code (w ++ after) ≡ Some (found None (length w))) (sym h.spelled)
    (ap (λ (k : ℕ). Some (found None (2 + k))) n ∙ ap (λ (k : ℕ). Some (found None k)) (omega arith))

pub block-code : (word after : List ℕ) → IsBlockComment word → read_code (word ++ after) ≡ Some (found None (length word))
block-code word after h =
    let e : comment_end ((h.body ++ 42 ∷ 47 ∷ []) ++ after) ≡ Some (length h.body + 2) =
    ap comment_end (append_assoc h.body (42 ∷ 47 ∷ []) after) ∙ comment_end-complete h.body after h.first_end in
    let l : length (h.body ++ 42 ∷ 47 ∷ []) ≡ length h.body + 2 = length-append h.body (42 ∷ 47 ∷ []) in
    subst (λ (w : List ℕ). read_code (w ++ after) ≡ Some (found None (length w))) (sym h.spelled)
    (ap (λ (o : Option ℕ). option_map (λ n. found None n) (offset_by 2 o)) e ∙ ap (λ (k : ℕ). Some (found None k)) (omega arith))

-- names
pub name-code : (word after : List ℕ) → IsName is_name_part word → Ends is_name_part after → read_code (word ++ after) ≡ Some (found (Some Name) (length word))
name-code [] after h e = absurd h
name-code (b ∷ bs) after h e =
    cond-false (is_space b) _ _ (name_apart b h.0)
    ∙ (cond-true (is_name_start b) _ _ h.0
    ∙ (ap (λ (k : ℕ). Some (found (Some Name) (1 + k))) (prefix_len-run is_name_part bs after h.1 e)
    ∙ ap (λ (k : ℕ). Some (found (Some Name) k)) (omega arith)))

pub name-tag : (word after : List ℕ) → IsName is_tag_name_part word → Ends is_tag_name_part after → read_tag (word ++ after) ≡ Some (found (Some Name) (length word))
name-tag [] after h e = absurd h
name-tag (b ∷ bs) after h e =
    cond-false (is_space b) _ _ (name_apart b h.0)
    ∙ (cond-true (is_name_start b) _ _ h.0
    ∙ (ap (λ (k : ℕ). Some (found (Some Name) (1 + k))) (prefix_len-run is_tag_name_part bs after h.1 e)
    ∙ ap (λ (k : ℕ). Some (found (Some Name) k)) (omega arith)))

pub name-close : (word after : List ℕ) → IsName is_tag_name_part word → Ends is_tag_name_part after → read_close (word ++ after) ≡ Some (found (Some Name) (length word))
name-close [] after h e = absurd h
name-close (b ∷ bs) after h e =
    cond-false (is_space b) _ _ (name_apart b h.0)
    ∙ (cond-true (is_name_start b) _ _ h.0
    ∙ (ap (λ (k : ℕ). Some (found (Some Name) (1 + k))) (prefix_len-run is_tag_name_part bs after h.1 e)
    ∙ ap (λ (k : ℕ). Some (found (Some Name) k)) (omega arith)))

-- numbers
pub number-code : (word after : List ℕ) → IsNumber word → Ends is_number_follower after → read_code (word ++ after) ≡ Some (found (Some Number) (length word))
number-code [] after h e = absurd h
number-code (b ∷ bs) after h e =
    code-number b (bs ++ after) (number_first b bs h)
    ∙ ap (λ (o : Option ℕ). option_map (λ n. found (Some Number) n) o) (number_len-complete (b ∷ bs) after h e)

-- strings
pub string-code : (word after : List ℕ) → IsStr word → read_code (word ++ after) ≡ Some (found (Some Str) (length word))
string-code word after h =
    let body : List ℕ = flat_map spelling_of h.parts in
    let e : string_len h.quote 0 ((body ++ h.quote ∷ []) ++ after) ≡ Some (length body + 1) =
    ap (λ (xs : List ℕ). string_len h.quote 0 xs) (append_assoc body (h.quote ∷ []) after)
    ∙ string_len-complete h.quote h.parts after (quote_apart h.quote h.quoted) h.valid in
    let l : length (body ++ h.quote ∷ []) ≡ length body + 1 = length-append body (h.quote ∷ []) in
    subst (λ (w : List ℕ). read_code (w ++ after) ≡ Some (found (Some Str) (length w))) (sym h.spelled)
    (code-quote h.quote ((body ++ h.quote ∷ []) ++ after) h.quoted
    ∙ (ap (λ (o : Option ℕ). option_map (λ n. found (Some Str) (1 + n)) o) e
    ∙ ap (λ (k : ℕ). Some (found (Some Str) k)) (omega arith)))

tag_string_len-complete : (q : ℕ) (body after : List ℕ) → list_all (λ b. not (nat_eq b q)) body ≡ true → tag_string_len q (body ++ q ∷ after) ≡ Some (length body + 2)
tag_string_len-complete q body after h =
    let n : prefix_len (λ b. not (nat_eq b q)) (body ++ q ∷ after) ≡ length body = prefix_len-run (λ b. not (nat_eq b q)) body (q ∷ after) h (not_from_true (nat_eq q q) (eq-eqb q q refl)) in
    let l = length-append body (q ∷ after) in
    let lt : nat_lt (length body) (length (body ++ q ∷ after)) ≡ true = lt-ltb (length body) (length (body ++ q ∷ after)) (omega arith) in
    rw (n, lt)

pub string-tag : (word after : List ℕ) → IsTagStr word → read_tag (word ++ after) ≡ Some (found (Some TagStr) (length word))
string-tag word after h =
    let e : tag_string_len h.quote ((h.body ++ h.quote ∷ []) ++ after) ≡ Some (length h.body + 2) =
    ap (λ (xs : List ℕ). tag_string_len h.quote xs) (append_assoc h.body (h.quote ∷ []) after)
    ∙ tag_string_len-complete h.quote h.body after h.first_end in
    let l : length (h.body ++ h.quote ∷ []) ≡ length h.body + 1 = length-append h.body (h.quote ∷ []) in
    subst (λ (w : List ℕ). read_tag (w ++ after) ≡ Some (found (Some TagStr) (length w))) (sym h.spelled)
    (tag-quote h.quote ((h.body ++ h.quote ∷ []) ++ after) h.quoted
    ∙ (ap (λ (o : Option ℕ). option_map (λ n. found (Some TagStr) n) o) e
    ∙ ap (λ (k : ℕ). Some (found (Some TagStr) k)) (omega arith)))

-- text between tags
pub text-children : (word after : List ℕ) → IsJsxText word → Ends is_jsx_text after → read_children (word ++ after) ≡ Some (found (Some JsxText) (length word))
text-children [] after h e = absurd h
text-children (b ∷ bs) after h e =
    let p = and_parts (is_jsx_text b) (list_all is_jsx_text bs) h in
    cond-true (is_jsx_text b) _ _ p.0
    ∙ (ap (λ (k : ℕ). Some (found (Some JsxText) (1 + k))) (prefix_len-run is_jsx_text bs after p.1 e)
    ∙ ap (λ (k : ℕ). Some (found (Some JsxText) k)) (omega arith))
