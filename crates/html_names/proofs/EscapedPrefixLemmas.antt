-- The prefixes of escaped texts, and that bytes without a bad place are an escaped text.
use Rattle.std.proofs.Common.{◌≡◌, ℕ, zero, suc, ◌+◌, ◌<◌, ◌≤◌, Bool, true, false, nat_lt, not, ◌&&◌, ◌||◌, ◌⊎◌, inl, inr, List, [], ◌∷◌, ◌++◌, take, drop, length, refl, sym, ◌∙◌, ap, subst, ⊎_elim, arith, append_assoc, append-nil, length-append}
use Rattle.std.specs.List.{list_any}
use Rattle.std.specs.Str.{bytes_eq}
use Rattle.std.proofs.lemmas.Bool.{cases_lt}
use Rattle.std.proofs.lemmas.List.{take-append-drop, take-append-le, drop-append-le, nil_from_length}
use Rattle.std.proofs.lemmas.List.Concat.{flat_map-append}
use Rattle.std.proofs.lemmas.Slice.Eq.{bytes_eq-Decides}
use Rattle.std.proofs.Math.Seq.{take-append_seam, drop-append_seam, drop-append-add}
use Rattle.html_names.specs.Escape.{spelling_of, escape_of, entities, begins_entity, begins_badly, is_open_entity, IsClean, IsEscaped, IsEscapedPrefix, IsTextAndOpen}
use Rattle.html_names.proofs.EscapeLemmas.{each_byte, plain_spelling, spelling_some}

pub or_cases : (a b : Bool) → (a || b) ≡ true → (a ≡ true) ⊎ (b ≡ true)
or_cases true b e = inl refl
or_cases false b e = inr e

pub and_both : (a b : Bool) → (a && b) ≡ true → (a ≡ true) × (b ≡ true)
and_both true b e = (refl, e)
and_both false b e = absurd cc

not_true : false ≡ true → ⊥
not_true e = cc

not_false : true ≡ false → ⊥
not_false e = cc

when_not_false : (a : Bool) → not a ≡ false → a ≡ true
when_not_false true e = refl
when_not_false false e = absurd (not_false e)

-- Nothing, or a replacement that isn't whole.
abbrev IsEnding : List ℕ → Type 0
IsEnding rest = (rest ≡ []) ⊎ (is_open_entity rest ≡ true)

-- Each proper front of what follows `front` is an ending.
abbrev AreEndings : List ℕ → List ℕ → Type 0
AreEndings front [] = Unit {0}
AreEndings front (b ∷ bs) = IsEnding front × AreEndings (front ++ b ∷ []) bs

ending_at : (front bs : List ℕ) (k : ℕ) → AreEndings front bs → k < length bs → IsEnding (front ++ take k bs)
ending_at front [] k h l = absurd (omega arith)
ending_at front (b ∷ bs) zero h l = subst IsEnding (sym (append-nil front)) h.0
ending_at front (b ∷ bs) (suc k) h l = subst IsEnding (append_assoc front (b ∷ []) (take k bs)) (ending_at (front ++ b ∷ []) bs k h.1 (omega arith))

spelling_endings : (b : ℕ) → AreEndings [] (spelling_of b)
spelling_endings = each_byte (λ b. AreEndings [] (spelling_of b))
    (inl refl, (inr refl, (inr refl, (inr refl, (inr refl, (inr refl, tt))))))
    (inl refl, (inr refl, (inr refl, (inr refl, (inr refl, tt)))))
    (inl refl, (inr refl, (inr refl, (inr refl, (inr refl, (inr refl, tt))))))
    (inl refl, (inr refl, (inr refl, (inr refl, tt))))
    (inl refl, (inr refl, (inr refl, (inr refl, tt))))
    (λ b n34 n38 n39 n60 n62. subst (λ bs. AreEndings [] bs) (sym (plain_spelling b n34 n38 n39 n60 n62)) (inl refl, tt))

front_of_text : (text bytes more : List ℕ) → bytes ++ more ≡ escape_of text → IsTextAndOpen bytes
front_of_text [] bytes more e =
    let none : bytes ≡ [] = nil_from_length bytes (omega (arith, ap length e, length-append bytes more)) in
    record { text = []; rest = []; is = none; ending = inl refl }
front_of_text (b ∷ text) bytes more e =
    let n : ℕ = length (spelling_of b) in
    let within : length bytes < n → IsTextAndOpen bytes = λ l.
    let same : bytes ≡ take (length bytes) (spelling_of b) =
    sym (take-append_seam bytes more) ∙ (ap (take (length bytes)) e ∙ take-append-le (length bytes) (spelling_of b) (escape_of text) (omega arith)) in
    record { text = []; rest = bytes; is = refl; ending = subst IsEnding (sym same) (ending_at [] (spelling_of b) (length bytes) (spelling_endings b) l) } in
    let past : n ≤ length bytes → IsTextAndOpen bytes = λ l.
    let first : take n bytes ≡ spelling_of b =
    sym (take-append-le n bytes more l) ∙ (ap (take n) e ∙ take-append_seam (spelling_of b) (escape_of text)) in
    let left : drop n bytes ++ more ≡ escape_of text =
    sym (drop-append-le n bytes more l) ∙ (ap (drop n) e ∙ drop-append_seam (spelling_of b) (escape_of text)) in
    let h : IsTextAndOpen (drop n bytes) = front_of_text text (drop n bytes) more left in
    record {
      text = b ∷ h.text;
      rest = h.rest;
      is = sym (take-append-drop n bytes) ∙ (ap (λ xs. xs ++ drop n bytes) first ∙ (ap (λ xs. spelling_of b ++ xs) h.is ∙ sym (append_assoc (spelling_of b) (escape_of h.text) h.rest)));
      ending = h.ending;
    } in
    ⊎_elim within past (cases_lt (length bytes) n)

pub front_is_open : (bytes : List ℕ) → IsEscapedPrefix bytes → IsTextAndOpen bytes
front_is_open bytes h = front_of_text h.0 bytes h.1 h.2

-- What an ending goes on with.
abbrev GoesOn : List ℕ → Type 0
GoesOn rest = (b : ℕ) × (more : List ℕ) × (rest ++ more ≡ spelling_of b)

goes_on : (rest : List ℕ) (b : ℕ) → (nat_lt (length rest) (length (spelling_of b)) && bytes_eq (take (length rest) (spelling_of b)) rest) ≡ true → GoesOn rest
goes_on rest b e =
    let same : take (length rest) (spelling_of b) ≡ rest = (bytes_eq-Decides _ _).0 ((and_both (nat_lt (length rest) (length (spelling_of b))) _ e).1) in
    (b, drop (length rest) (spelling_of b), ap (λ xs. xs ++ drop (length rest) (spelling_of b)) (sym same) ∙ take-append-drop (length rest) (spelling_of b))

one_goes_on : (rest : List ℕ) → list_any (λ e. nat_lt (length rest) (length e) && bytes_eq (take (length rest) e) rest) entities ≡ true → GoesOn rest
one_goes_on rest e1 =
    ⊎_elim (goes_on rest 34) (λ e2.
    ⊎_elim (goes_on rest 38) (λ e3.
    ⊎_elim (goes_on rest 39) (λ e4.
    ⊎_elim (goes_on rest 60) (λ e5.
    ⊎_elim (goes_on rest 62) (λ e6. absurd (not_true e6))
    (or_cases _ _ e5)) (or_cases _ _ e4)) (or_cases _ _ e3)) (or_cases _ _ e2)) (or_cases _ _ e1)

open_goes_on : (rest : List ℕ) → is_open_entity rest ≡ true → GoesOn rest
open_goes_on rest e = one_goes_on rest ((and_both (nat_lt 0 (length rest)) _ e).1)

pub open_is_front : (bytes : List ℕ) → IsTextAndOpen bytes → IsEscapedPrefix bytes
open_is_front bytes h =
    let whole : h.rest ≡ [] → IsEscapedPrefix bytes = λ e.
    (h.text, [], append-nil bytes ∙ (h.is ∙ (ap (λ xs. escape_of h.text ++ xs) e ∙ append-nil (escape_of h.text)))) in
    let cut : is_open_entity h.rest ≡ true → IsEscapedPrefix bytes = λ e.
    let g : GoesOn h.rest = open_goes_on h.rest e in (
      h.text ++ g.0 ∷ [],
      g.1,
      ap (λ xs. xs ++ g.1) h.is ∙ (append_assoc (escape_of h.text) h.rest g.1 ∙ (ap (λ xs. escape_of h.text ++ xs) (g.2 ∙ sym (append-nil (spelling_of g.0)))
          ∙ sym (flat_map-append spelling_of h.text (g.0 ∷ [])))),
    ) in
    ⊎_elim whole cut h.ending

-- A spelling at the front of bytes.
record HasSpelling (bytes : List ℕ) : Type 0 where
  byte : ℕ
  more : List ℕ
  is : spelling_of byte ++ more ≡ bytes

spelling_there : (bytes : List ℕ) (b : ℕ) → bytes_eq (take (length (spelling_of b)) bytes) (spelling_of b) ≡ true → HasSpelling bytes
spelling_there bytes b e =
    let n : ℕ = length (spelling_of b) in
    record {
      byte = b;
      more = drop n bytes;
      is = ap (λ xs. xs ++ drop n bytes) (sym ((bytes_eq-Decides _ _).0 e)) ∙ take-append-drop n bytes;
    }

entity_there : (bytes : List ℕ) → begins_entity bytes ≡ true → HasSpelling bytes
entity_there bytes e1 =
    ⊎_elim (spelling_there bytes 34) (λ e2.
    ⊎_elim (spelling_there bytes 38) (λ e3.
    ⊎_elim (spelling_there bytes 39) (λ e4.
    ⊎_elim (spelling_there bytes 60) (λ e5.
    ⊎_elim (spelling_there bytes 62) (λ e6. absurd (not_true e6))
    (or_cases _ _ e5)) (or_cases _ _ e4)) (or_cases _ _ e3)) (or_cases _ _ e2)) (or_cases _ _ e1)

good_front : (bs : List ℕ) (b : ℕ) → begins_badly (b ∷ bs) ≡ false → HasSpelling (b ∷ bs)
good_front bs = each_byte (λ b. begins_badly (b ∷ bs) ≡ false → HasSpelling (b ∷ bs))
    (λ h. absurd (not_false h))
    (λ h. entity_there (38 ∷ bs) (when_not_false (begins_entity (38 ∷ bs)) h))
    (λ h. absurd (not_false h))
    (λ h. absurd (not_false h))
    (λ h. absurd (not_false h))
    (λ b n34 n38 n39 n60 n62 h. record { byte = b; more = bs; is = ap (λ xs. xs ++ bs) (plain_spelling b n34 n38 n39 n60 n62) })

clean_rest : (b : ℕ) (more bytes : List ℕ) → spelling_of b ++ more ≡ bytes → IsClean bytes → IsClean more
clean_rest b more bytes e h k =
    let n : ℕ = length (spelling_of b) in
    ap begins_badly (sym (drop-append-add (spelling_of b) more k)) ∙ (ap (λ xs. begins_badly (drop (n + k) xs)) e ∙ h (n + k))

-- Bytes without a bad place are spelled by a text.
clean_within : (n : ℕ) (bytes : List ℕ) → length bytes ≤ n → IsClean bytes → IsEscaped bytes
clean_within n [] l h = ([], refl)
clean_within zero (b ∷ bs) l h = absurd (omega arith)
clean_within (suc n) (b ∷ bs) l h =
    let s : HasSpelling (b ∷ bs) = good_front bs b (h 0) in
    let shorter : length s.more ≤ n = omega (arith, ap length s.is, length-append (spelling_of s.byte) s.more, spelling_some s.byte) in
    let t : IsEscaped s.more = clean_within n s.more shorter (clean_rest s.byte s.more (b ∷ bs) s.is h) in
    (s.byte ∷ t.0, ap (λ xs. spelling_of s.byte ++ xs) t.1 ∙ s.is)

pub clean_is_escaped : (bytes : List ℕ) → IsClean bytes → IsEscaped bytes
clean_is_escaped bytes h = clean_within (length bytes) bytes (omega arith) h
