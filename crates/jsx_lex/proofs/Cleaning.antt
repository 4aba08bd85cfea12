-- Lines, cut and joined.
use Rattle.std.proofs.Common.{◌≡◌, ℕ, ◌+◌, ◌<◌, ◌≤◌, Bool, true, false, nat_eq, nat_lt, List, [], ◌∷◌, ◌++◌, length, drop, take, get_or, filter, if◌then◌else◌, refl, ap, sym, ◌∙◌, arith, append_assoc}
use Rattle.std.proofs.lemmas.Bool.{cond-true, cond-false, lt-ltb, not-true}
use Rattle.std.proofs.lemmas.List.{take_all}
use Rattle.std.proofs.lemmas.List.Sums.{prefix_len_passes}
use Rattle.std.proofs.lemmas.List.Splits.{slice_split_first, slice_split_none}
use Rattle.std.specs.List.{prefix_len, onto_first, join_with_byte}
use Rattle.jsx_lex.specs.Characters.{is_in_line}
use Rattle.jsx_lex.specs.Cleaning.{trimmed_lines, lines_of, clean_text, without_leading_blanks, without_trailing_blanks}
use Rattle.jsx_lex.specs.LineJoining.{with_line, with_lines}

abbrev is_some_line : List ℕ → Bool
is_some_line line = nat_lt 0 (length line)

some-filter : (b : ℕ) (bs : List ℕ) (lines : List (List ℕ)) → filter is_some_line ((b ∷ bs) ∷ lines) ≡ (b ∷ bs) ∷ filter is_some_line lines
some-filter b bs lines = cond-true (nat_lt 0 (length (b ∷ bs))) ((b ∷ bs) ∷ filter is_some_line lines) (filter is_some_line lines) (lt-ltb 0 (length (b ∷ bs)) (omega arith))

join-onto : (x y : List ℕ) (lines : List (List ℕ)) → join_with_byte 32 ((x ++ 32 ∷ y) ∷ lines) ≡ x ++ 32 ∷ join_with_byte 32 (y ∷ lines)
join-onto x y [] = refl
join-onto x y (l ∷ ls) = append_assoc x (32 ∷ y) (32 ∷ join_with_byte 32 (l ∷ ls))

-- one space between each two lines that are not empty
joined-some : (a : ℕ) (as' : List ℕ) (lines : List (List ℕ)) → with_lines (a ∷ as') lines ≡ join_with_byte 32 ((a ∷ as') ∷ filter is_some_line lines)
joined-some a as' [] = refl
joined-some a as' ([] ∷ lines) = joined-some a as' lines
joined-some a as' ((b ∷ bs) ∷ lines) =
    joined-some a (as' ++ 32 ∷ b ∷ bs) lines
    ∙ (join-onto (a ∷ as') (b ∷ bs) (filter is_some_line lines)
    ∙ ap (λ (ls : List (List ℕ)). join_with_byte 32 ((a ∷ as') ∷ ls)) (sym (some-filter b bs lines)))

pub joined : (lines : List (List ℕ)) → with_lines [] lines ≡ join_with_byte 32 (filter is_some_line lines)
joined [] = refl
joined ([] ∷ lines) = joined lines
joined ((b ∷ bs) ∷ lines) = joined-some b bs lines ∙ ap (λ (ls : List (List ℕ)). join_with_byte 32 ls) (sym (some-filter b bs lines))

-- the first line of a text, with those after it
lines-more : (text : List ℕ) (size : ℕ) → size ≡ prefix_len is_in_line text → size < length text → lines_of text ≡ take size text ∷ lines_of (drop (size + 1) text)
lines-more text size e h =
    let l : prefix_len is_in_line text < length text = omega arith in
    slice_split_first (λ b. nat_eq b 10) text 0 l ∙ ap (λ (n : ℕ). take n text ∷ lines_of (drop (n + 1) text)) (sym e)

lines-last : (text : List ℕ) (size : ℕ) → size ≡ prefix_len is_in_line text → length text ≤ size → lines_of text ≡ text ∷ []
lines-last text size e h =
    slice_split_none (λ b. nat_eq b 10) text (λ k d l. not-true (nat_eq (get_or text k d) 10) (prefix_len_passes is_in_line text k d (omega arith)))

lines-some : (text : List ℕ) → (x : List ℕ) × (xs : List (List ℕ)) × (lines_of text ≡ x ∷ xs)
lines-some [] = ([], [], refl)
lines-some (b ∷ bs) = by_line (nat_eq b 10) refl (lines-some bs)
  where
    by_line : (t : Bool) → nat_eq b 10 ≡ t → (x : List ℕ) × (xs : List (List ℕ)) × (lines_of bs ≡ x ∷ xs) → (x : List ℕ) × (xs : List (List ℕ)) × (lines_of (b ∷ bs) ≡ x ∷ xs)
    by_line true t more = ([], lines_of bs, cond-true (nat_eq b 10) ([] ∷ lines_of bs) (onto_first b (lines_of bs)) t)
    by_line false t more = (b ∷ more.0, more.1, cond-false (nat_eq b 10) ([] ∷ lines_of bs) (onto_first b (lines_of bs)) t ∙ ap (λ (ls : List (List ℕ)). onto_first b ls) more.2)

abbrev begun : Bool → List ℕ → List ℕ
begun first line = if first then line else without_leading_blanks line

trimmed-more : (first : Bool) (line text : List ℕ) → trimmed_lines first (line ∷ lines_of text) ≡ without_trailing_blanks (begun first line) ∷ trimmed_lines false (lines_of text)
trimmed-more first line text =
    let s = lines-some text in
    ap (λ (ls : List (List ℕ)). trimmed_lines first (line ∷ ls)) s.2
    ∙ ap (λ (ls : List (List ℕ)). without_trailing_blanks (begun first line) ∷ trimmed_lines false ls) (sym s.2)

-- the turns of the loop
pub clean-last : (text out rest new line : List ℕ) (first : Bool) (size : ℕ) → with_lines out (trimmed_lines first (lines_of rest)) ≡ clean_text text → size ≡ prefix_len is_in_line rest → length rest ≤ size → line ≡ begun first (take size rest) → new ≡ with_line out line → new ≡ clean_text text
clean-last text out rest new line first size inv e h l n =
    let whole : line ≡ begun first rest = l ∙ ap (λ (zs : List ℕ). begun first zs) (take_all size rest h) in
    n ∙ (ap (λ (zs : List ℕ). with_line out zs) whole
    ∙ (ap (λ (ls : List (List ℕ)). with_lines out (trimmed_lines first ls)) (sym (lines-last rest size e h)) ∙ inv))

pub clean-more : (text out rest new line more : List ℕ) (first : Bool) (size : ℕ) → with_lines out (trimmed_lines first (lines_of rest)) ≡ clean_text text → size ≡ prefix_len is_in_line rest → size < length rest → more ≡ drop (size + 1) rest → line ≡ begun first (take size rest) → new ≡ with_line out (without_trailing_blanks line) → with_lines new (trimmed_lines false (lines_of more)) ≡ clean_text text
clean-more text out rest new line more first size inv e h m l n =
    ap (λ (zs : List ℕ). with_lines zs (trimmed_lines false (lines_of more))) (n ∙ ap (λ (zs : List ℕ). with_line out (without_trailing_blanks zs)) l)
    ∙ (ap (λ (zs : List ℕ). with_lines (with_line out (without_trailing_blanks (begun first (take size rest)))) (trimmed_lines false (lines_of zs))) m
    ∙ (ap (λ (ls : List (List ℕ)). with_lines out ls) (sym (trimmed-more first (take size rest) (drop (size + 1) rest)))
    ∙ (ap (λ (ls : List (List ℕ)). with_lines out (trimmed_lines first ls)) (sym (lines-more rest size e h)) ∙ inv)))

pub clean-first : (text out : List ℕ) → out ≡ [] → with_lines out (trimmed_lines true (lines_of text)) ≡ clean_text text
clean-first text out e = ap (λ (zs : List ℕ). with_lines zs (trimmed_lines true (lines_of text))) e ∙ joined (trimmed_lines true (lines_of text))
