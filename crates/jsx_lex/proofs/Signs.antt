-- Where a sign of a table stands, no lexeme of another form does.
use Rattle.std.proofs.Common.{◌≡◌, ℕ, ◌<◌, Bool, true, false, not, ◌||◌, nat_eq, List, [], ◌∷◌, ◌++◌, length, drop, option_map, Option, Some, refl, ap, sym, ◌∙◌, arith, subst}
use Rattle.std.proofs.lemmas.Bool.{and_parts, or_parts, cond-true, cond-false, not-true}
use Rattle.std.specs.List.{list_all}
use Rattle.jsx_lex.specs.Characters.{begins, is_space, is_name_start, is_number_start, is_quote, is_jsx_text}
use Rattle.jsx_lex.specs.SignTable.{SignRow, code_signs, tag_signs, children_signs, close_signs, first_sign}
use Rattle.jsx_lex.specs.Reading.{found_sign, read_code, read_tag, read_children, read_close}
use Rattle.jsx_lex.specs.declared.lexeme.Found.{Found}
use Rattle.jsx_lex.specs.declared.mode.Change.TheVariants.{Pop}
use Rattle.jsx_lex.proofs.Comments.{begins-split}

-- the text begins with a character of the test
abbrev pub head_passes : (ℕ → Bool) → List ℕ → Bool
head_passes test [] = false
head_passes test (c ∷ cs) = test c

abbrev pub heads_pass : (ℕ → Bool) → List SignRow → Bool
heads_pass test rows = list_all (λ (r : SignRow). head_passes test r.bytes) rows

head-append : (test : ℕ → Bool) (xs ys : List ℕ) → head_passes test xs ≡ true → head_passes test (xs ++ ys) ≡ true
head-append test [] ys h = absurd cc
head-append test (x ∷ xs) ys h = h

pub record FindsSign (test : ℕ → Bool) (text : List ℕ) (r : SignRow) : Type 0 where
  pub head : head_passes test text ≡ true
  pub split : text ≡ r.bytes ++ drop (length r.bytes) text
  pub some : 0 < length r.bytes

some-head : (test : ℕ → Bool) (xs : List ℕ) → head_passes test xs ≡ true → 0 < length xs
some-head test [] h = absurd cc
some-head test (x ∷ xs) h = omega arith

pub first_sign-head : (test : ℕ → Bool) (rows : List SignRow) (text : List ℕ) (r : SignRow) → heads_pass test rows ≡ true → first_sign rows text ≡ Some r → FindsSign test text r
first_sign-head test [] text r h e = absurd cc
first_sign-head test (s ∷ ss) text r h e = by_begins (begins s.bytes text) refl (first_sign-head test ss text r)
  where
    by_begins : (t : Bool) → begins s.bytes text ≡ t → (heads_pass test ss ≡ true → first_sign ss text ≡ Some r → FindsSign test text r) → FindsSign test text r
    by_begins true t ih =
        let p = and_parts (head_passes test s.bytes) (heads_pass test ss) h in
        let k : text ≡ s.bytes ++ drop (length s.bytes) text = begins-split s.bytes text t in
        let f : first_sign (s ∷ ss) text ≡ Some s = cond-true (begins s.bytes text) (Some s) (first_sign ss text) t in
        let i : s ≡ r = cc in
        subst (λ (x : SignRow). FindsSign test text x) i
        (record {
          head = subst (λ (x : List ℕ). head_passes test x ≡ true) (sym k) (head-append test s.bytes (drop (length s.bytes) text) p.0);
          split = k;
          some = some-head test s.bytes p.0;
        })
    by_begins false t ih =
        let p = and_parts (head_passes test s.bytes) (heads_pass test ss) h in
        ih p.1 (sym (cond-false (begins s.bytes text) (Some s) (first_sign ss text) t) ∙ e)

-- a character that begins no other lexeme of the mode
abbrev pub is_other_code : ℕ → Bool
is_other_code c = not ((((is_space c || is_name_start c) || is_number_start c) || is_quote c) || nat_eq c 47)

abbrev pub is_other_tag : ℕ → Bool
is_other_tag c = not ((is_space c || is_name_start c) || is_quote c)

abbrev pub is_other_children : ℕ → Bool
is_other_children c = not (is_jsx_text c)

abbrev pub is_other_close : ℕ → Bool
is_other_close c = not (is_space c || is_name_start c)

pub code_heads : heads_pass is_other_code code_signs ≡ true
unfolding code_signs
code_heads = refl

pub tag_heads : heads_pass is_other_tag tag_signs ≡ true
unfolding tag_signs
tag_heads = refl

pub children_heads : heads_pass is_other_children children_signs ≡ true
unfolding children_signs
children_heads = refl

pub close_heads : heads_pass is_other_close close_signs ≡ true
unfolding close_signs
close_heads = refl

other-code : (text : List ℕ) → head_passes is_other_code text ≡ true → read_code text ≡ option_map found_sign (first_sign code_signs text)
other-code [] h = absurd cc
other-code (b ∷ bs) h =
    let n = not-true _ h in
    let p = or_parts (((is_space b || is_name_start b) || is_number_start b) || is_quote b) (nat_eq b 47) n in
    let q = or_parts ((is_space b || is_name_start b) || is_number_start b) (is_quote b) p.0 in
    let r = or_parts (is_space b || is_name_start b) (is_number_start b) q.0 in
    let s = or_parts (is_space b) (is_name_start b) r.0 in
    cond-false (is_space b) _ _ s.0
    ∙ (cond-false (is_name_start b) _ _ s.1
    ∙ (cond-false (is_number_start b) _ _ r.1
    ∙ (cond-false (is_quote b) _ _ q.1
    ∙ cond-false (nat_eq b 47) _ _ p.1)))

other-tag : (text : List ℕ) → head_passes is_other_tag text ≡ true → read_tag text ≡ option_map found_sign (first_sign tag_signs text)
other-tag [] h = absurd cc
other-tag (b ∷ bs) h =
    let n = not-true _ h in
    let q = or_parts (is_space b || is_name_start b) (is_quote b) n in
    let s = or_parts (is_space b) (is_name_start b) q.0 in
    cond-false (is_space b) _ _ s.0 ∙ (cond-false (is_name_start b) _ _ s.1 ∙ cond-false (is_quote b) _ _ q.1)

other-children : (text : List ℕ) → head_passes is_other_children text ≡ true → read_children text ≡ option_map found_sign (first_sign children_signs text)
other-children [] h = absurd cc
other-children (b ∷ bs) h = cond-false (is_jsx_text b) _ _ (not-true (is_jsx_text b) h)

other-close : (text : List ℕ) → head_passes is_other_close text ≡ true → read_close text ≡ option_map found_sign (first_sign close_signs text)
other-close [] h = absurd cc
other-close (b ∷ bs) h =
    let s = or_parts (is_space b) (is_name_start b) (not-true _ h) in
    cond-false (is_space b) _ _ s.0 ∙ cond-false (is_name_start b) _ _ s.1

-- a sign of the table is found
pub sign-code : (text : List ℕ) (r : SignRow) → first_sign code_signs text ≡ Some r → read_code text ≡ Some (found_sign r)
sign-code text r e = other-code text (first_sign-head is_other_code code_signs text r code_heads e).head ∙ ap (λ (o : Option SignRow). option_map found_sign o) e

pub sign-tag : (text : List ℕ) (r : SignRow) → first_sign tag_signs text ≡ Some r → read_tag text ≡ Some (found_sign r)
sign-tag text r e = other-tag text (first_sign-head is_other_tag tag_signs text r tag_heads e).head ∙ ap (λ (o : Option SignRow). option_map found_sign o) e

pub sign-children : (text : List ℕ) (r : SignRow) → first_sign children_signs text ≡ Some r → read_children text ≡ Some (found_sign r)
sign-children text r e = other-children text (first_sign-head is_other_children children_signs text r children_heads e).head ∙ ap (λ (o : Option SignRow). option_map found_sign o) e

pub sign-close : (text : List ℕ) (r : SignRow) → first_sign close_signs text ≡ Some r → read_close text ≡ Some (found_sign r)
sign-close text r e = other-close text (first_sign-head is_other_close close_signs text r close_heads e).head ∙ ap (λ (o : Option SignRow). option_map found_sign o) e

-- a `}` of Code is one byte
pub brace-code : (bs : List ℕ) (f : Found) → read_code (125 ∷ bs) ≡ Some f → f.length ≡ 1
unfolding code_signs
brace-code bs f e = let k : read_code (125 ∷ bs) ≡ Some (found_sign (record { bytes = 125 ∷ []; change = Pop })) = refl in ap (λ (x : Found). x.length) (same k e)
  where
    same : read_code (125 ∷ bs) ≡ Some (found_sign (record { bytes = 125 ∷ []; change = Pop })) → read_code (125 ∷ bs) ≡ Some f → f ≡ found_sign (record { bytes = 125 ∷ []; change = Pop })
    same k e = cc
