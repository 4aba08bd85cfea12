-- Where the quotes of a tag stand, so that it is plain whether a value is open and which run it has.
use Rattle.std.proofs.Common.{◌≡◌, ℕ, zero, suc, ◌+◌, ◌<◌, ◌≤◌, Bool, true, false, if◌then◌else◌, cond, not, ◌==◌, ◌&&◌, Option, Some, None, List, [], ◌∷◌, ◌++◌, length, take, codes, refl, sym, ◌∙◌, ap, subst, ⊎_elim, arith, append-nil, length-append, nat_lt}
use Rattle.std.specs.List.{list_all, list_any}
use Rattle.std.specs.Str.{bytes_eq}
use Rattle.std.proofs.lemmas.Bool.{cond-false, cases_eq, ne_eqb, and_parts, and_from, or_cases, or_left, or_right, lt-ltb, ltb-true}
use Rattle.std.proofs.lemmas.Slice.Eq.{bytes_eq-Decides}
use Rattle.std.proofs.lemmas.List.{take_at}
use Rattle.fizz_text.specs.declared.attribute.Attr.{Attr}
use Rattle.html_names.specs.Escape.{spelling_of, escape_of, entities, is_open_entity}
use Rattle.html_names.proofs.EscapeLemmas.{each_byte, plain_spelling}
use Rattle.html_read.specs.declared.place.Place.{Place}
use Rattle.html_read.specs.declared.place.Place.TheVariants.{Whole, Char, Entity}
use Rattle.html_names.specs.Names.{is_letter, is_name_byte}
use Rattle.html_read.specs.Names.{IsTagName, IsAttributeName}
use Rattle.html_names.specs.Printing.{value_spelling, attribute_spelling, attributes_spelling, tag_prefix}
use Rattle.html_read.specs.Tokens.{IsAttribute, AreAttributes}
use Rattle.html_read.specs.Faults.{IsOpenValue}
use Rattle.html_read.specs.Machine.{is_word}
use Rattle.html_read.proofs.WordLemmas.{none_true, begins_gives, word_passes, is_word_byte, is_name_word, tag_name_bytes}
use Rattle.html_read.proofs.HasRunLemmas.{AreHigh, IsOpenEntity, HasRun}

abbrev pub no_quote : ℕ → Bool
no_quote b = not (b == 34)

abbrev pub HasNoQuote : List ℕ → Type 0
HasNoQuote bs = list_all no_quote bs ≡ true

pub all_weaken : (p q : ℕ → Bool) → ((b : ℕ) → p b ≡ true → q b ≡ true) → (xs : List ℕ) → list_all p xs ≡ true → list_all q xs ≡ true
all_weaken p q f [] h = refl
all_weaken p q f (x ∷ xs) h = let k : (p x ≡ true) × (list_all p xs ≡ true) = and_parts _ _ h in and_from _ _ (f x k.0) (all_weaken p q f xs k.1)

pub all_append : (p : ℕ → Bool) (xs ys : List ℕ) → list_all p xs ≡ true → list_all p ys ≡ true → list_all p (xs ++ ys) ≡ true
all_append p [] ys h k = k
all_append p (x ∷ xs) ys h k = let g : (p x ≡ true) × (list_all p xs ≡ true) = and_parts _ _ h in and_from _ _ g.0 (all_append p xs ys g.1 k)

pub all_front : (p : ℕ → Bool) (xs ys : List ℕ) → list_all p (xs ++ ys) ≡ true → list_all p xs ≡ true
all_front p [] ys h = refl
all_front p (x ∷ xs) ys h = let g : (p x ≡ true) × (list_all p (xs ++ ys) ≡ true) = and_parts _ _ h in and_from _ _ g.0 (all_front p xs ys g.1)

not_quote : (b : ℕ) (p : ℕ → Bool) → p 34 ≡ false → p b ≡ true → no_quote b ≡ true
not_quote b p f h = ⊎_elim (λ e. absurd (none_true (sym f ∙ (ap p (sym e) ∙ h)))) (λ n. ap not (ne_eqb b 34 n)) (cases_eq b 34)

pub name_no_quote : (name : List ℕ) → is_name_word name ≡ true → HasNoQuote name
name_no_quote name h = all_weaken is_word_byte no_quote (λ b. not_quote b is_word_byte refl) name h

pub attribute_no_quote : (name : List ℕ) → IsAttributeName name → HasNoQuote name
attribute_no_quote [] h = refl
attribute_no_quote (b ∷ bs) h =
    and_from _ _ (not_quote b is_letter refl h.0) (all_weaken is_name_byte no_quote (λ x. not_quote x is_name_byte refl) bs h.1)

spelled_no_quote : (b : ℕ) → HasNoQuote (spelling_of b)
spelled_no_quote = each_byte (λ b. HasNoQuote (spelling_of b)) refl refl refl refl refl
    (λ b n34 n38 n39 n60 n62. ap (list_all no_quote) (plain_spelling b n34 n38 n39 n60 n62) ∙ and_from _ _ (ap not (ne_eqb b 34 n34)) refl)

pub escaped_no_quote : (text : List ℕ) → HasNoQuote (escape_of text)
escaped_no_quote [] = refl
escaped_no_quote (b ∷ text) = all_append no_quote (spelling_of b) (escape_of text) (spelled_no_quote b) (escaped_no_quote text)

high_no_quote : (bs : List ℕ) → AreHigh bs → HasNoQuote bs
high_no_quote [] h = refl
high_no_quote (b ∷ bs) h = and_from _ _ (ap not (ne_eqb b 34 (λ e. let l : 128 ≤ b = h.0 in omega arith))) (high_no_quote bs h.1)

pub entity_no_quote : (e : List ℕ) → IsOpenEntity e → HasNoQuote e
entity_no_quote e h =
    let g : (rest : List ℕ) × (is_word entities (e ++ rest) ≡ true) = begins_gives entities e h.begun in
    all_front no_quote e g.0 (word_passes (list_all no_quote) entities (e ++ g.0) refl g.1)

pub run_no_quote : (base : ℕ) (p : Place) (run : List ℕ) → HasRun base p run → HasNoQuote run
run_no_quote base Whole run h = ap (list_all no_quote) h.is ∙ escaped_no_quote h.text
run_no_quote base (Char tail) run h = ap (list_all no_quote) h.is ∙ all_append no_quote (escape_of h.text) h.part (escaped_no_quote h.text) (high_no_quote h.part h.high)
run_no_quote base (Entity start) run h = ap (list_all no_quote) h.is ∙ all_append no_quote (escape_of h.text) h.entity (escaped_no_quote h.text) (entity_no_quote h.entity h.begun)

-- Whether the last quote opens.
abbrev pub turned : Bool → ℕ → Bool
turned s b = if b == 34 then not s else s

abbrev pub quoted : Bool → List ℕ → Bool
quoted s [] = s
quoted s (b ∷ bs) = quoted (turned s b) bs

pub quoted_append : (s : Bool) (xs ys : List ℕ) → quoted s (xs ++ ys) ≡ quoted (quoted s xs) ys
quoted_append s [] ys = refl
quoted_append s (x ∷ xs) ys = quoted_append (turned s x) xs ys

no_from_not : (b : Bool) → not b ≡ true → b ≡ false
no_from_not true h = absurd (none_true h)
no_from_not false h = refl

pub quoted_none : (s : Bool) (xs : List ℕ) → HasNoQuote xs → quoted s xs ≡ s
quoted_none s [] h = refl
quoted_none s (x ∷ xs) h =
    let g : (no_quote x ≡ true) × (list_all no_quote xs ≡ true) = and_parts _ _ h in
    ap (λ t. quoted t xs) (cond-false (x == 34) (not s) s (no_from_not (x == 34) g.0)) ∙ quoted_none s xs g.1

quoted_value : (value : Option (List ℕ)) → quoted false (value_spelling value) ≡ false
quoted_value None = refl
quoted_value (Some text) = quoted_append true (escape_of text) (codes "\"") ∙ ap (λ s. quoted s (codes "\"")) (quoted_none true (escape_of text) (escaped_no_quote text))

pub quoted_attribute : (a : Attr) → IsAttribute a → quoted false (attribute_spelling a) ≡ false
quoted_attribute a h =
    quoted_append false (32 ∷ a.name) (value_spelling a.value) ∙ (ap (λ s. quoted s (value_spelling a.value)) (quoted_none false a.name (attribute_no_quote a.name h.0)) ∙ quoted_value a.value)

quoted_attributes : (attributes : List Attr) → AreAttributes attributes → quoted false (attributes_spelling attributes) ≡ false
quoted_attributes [] h = refl
quoted_attributes (a ∷ more) h =
    quoted_append false (attribute_spelling a) (attributes_spelling more) ∙ (ap (λ s. quoted s (attributes_spelling more)) (quoted_attribute a h.0) ∙ quoted_attributes more h.1)

pub quoted_front : (name : List ℕ) (attributes : List Attr) → IsTagName name → AreAttributes attributes → quoted false (tag_prefix name attributes) ≡ false
quoted_front name attributes t h =
    quoted_append false (60 ∷ name) (attributes_spelling attributes) ∙ (ap (λ s. quoted s (attributes_spelling attributes)) (quoted_none false name (name_no_quote name (tag_name_bytes name t))) ∙ quoted_attributes attributes h)

-- A rest with an open value has an open quote.
pub open_quoted : (rest run : List ℕ) → IsOpenValue rest run → quoted false rest ≡ true
open_quoted rest run h =
    let name : List ℕ = h.0 in
    let attributes : List Attr = h.1 in
    let attribute : List ℕ = h.2 in
    ap (quoted false) h.6 ∙ (quoted_append false (tag_prefix name attributes) (32 ∷ attribute ++ 61 ∷ 34 ∷ run) ∙ (ap (λ s. quoted s (32 ∷ attribute ++ 61 ∷ 34 ∷ run)) (quoted_front name attributes h.3 h.4)
    ∙ (quoted_append false attribute (61 ∷ 34 ∷ run) ∙ (ap (λ s. quoted s (61 ∷ 34 ∷ run)) (quoted_none false attribute (attribute_no_quote attribute h.5)) ∙ quoted_none true run h.7))))

-- What stands after the last quote.
has_quote : (xs ys : List ℕ) → HasNoQuote (xs ++ 34 ∷ ys) → ⊥
has_quote [] ys h = none_true h
has_quote (x ∷ xs) ys h = has_quote xs ys ((and_parts _ _ h).1)

heads : (x y : ℕ) (xs ys : List ℕ) → x ∷ xs ≡ y ∷ ys → (x ≡ y) × (xs ≡ ys)
heads x y xs ys e = (cc, cc)

pub after_quote : (a b r s : List ℕ) → HasNoQuote r → HasNoQuote s → a ++ 34 ∷ r ≡ b ++ 34 ∷ s → r ≡ s
after_quote [] [] r s h k e = (heads 34 34 r s e).1
after_quote [] (y ∷ b) r s h k e = absurd (has_quote b s (subst HasNoQuote ((heads 34 y r (b ++ 34 ∷ s) e).1) h))
after_quote (x ∷ a) [] r s h k e = absurd (has_quote a r (subst HasNoQuote (sym ((heads x 34 (a ++ 34 ∷ r) s e).1)) k))
after_quote (x ∷ a) (y ∷ b) r s h k e = after_quote a b r s h k ((heads x y (a ++ 34 ∷ r) (b ++ 34 ∷ s) e).1)

-- Whether bytes end within a replacement.
abbrev pub within_after : Bool → ℕ → Bool
within_after s b = if b == 38 then true else (if b == 59 then false else s)

abbrev pub within : Bool → List ℕ → Bool
within s [] = s
within s (b ∷ bs) = within (within_after s b) bs

within_append : (s : Bool) (xs ys : List ℕ) → within s (xs ++ ys) ≡ within (within s xs) ys
within_append s [] ys = refl
within_append s (x ∷ xs) ys = within_append (within_after s x) xs ys

same_both : (b x : Bool) → cond b x x ≡ x
same_both true x = refl
same_both false x = refl

spelled_within : (b : ℕ) → within false (spelling_of b) ≡ false
spelled_within = each_byte (λ b. within false (spelling_of b) ≡ false) refl refl refl refl refl
    (λ b n34 n38 n39 n60 n62. ap (within false) (plain_spelling b n34 n38 n39 n60 n62) ∙ (cond-false (b == 38) true _ (ne_eqb b 38 n38) ∙ same_both (b == 59) false))

escaped_within : (text : List ℕ) → within false (escape_of text) ≡ false
escaped_within [] = refl
escaped_within (b ∷ text) = within_append false (spelling_of b) (escape_of text) ∙ (ap (λ s. within s (escape_of text)) (spelled_within b) ∙ escaped_within text)

abbrev fronts_within : ℕ → List ℕ → Bool
fronts_within zero e = true
fronts_within (suc n) e = within false (take (suc n) e) && fronts_within n e

front_within : (n k : ℕ) (e : List ℕ) → fronts_within n e ≡ true → 0 < k → k ≤ n → within false (take k e) ≡ true
front_within zero k e h l m = absurd (omega arith)
front_within (suc n) k e h l m =
    let g : (within false (take (suc n) e) ≡ true) × (fronts_within n e ≡ true) = and_parts _ _ h in
    ⊎_elim (λ s. ap (λ j. within false (take j e)) s ∙ g.0) (λ s. front_within n k e g.1 l (omega arith)) (cases_eq k (suc n))

abbrev IsOpenOf : List ℕ → List ℕ → Bool
IsOpenOf bytes e = nat_lt (length bytes) (length e) && bytes_eq (take (length bytes) e) bytes

open_of : (bytes e : List ℕ) (n : ℕ) → fronts_within n e ≡ true → length e ≡ n + 1 → 0 < length bytes → IsOpenOf bytes e ≡ true → within false bytes ≡ true
open_of bytes e n f l some h =
    let g : (nat_lt (length bytes) (length e) ≡ true) × (bytes_eq (take (length bytes) e) bytes ≡ true) = and_parts _ _ h in
    let less : length bytes < length e = ltb-true _ _ g.0 in
    ap (within false) (sym ((bytes_eq-Decides (take (length bytes) e) bytes).0 g.1)) ∙ front_within n (length bytes) e f some (omega arith)

pub open_within : (bytes : List ℕ) → is_open_entity bytes ≡ true → within false bytes ≡ true
open_within bytes h =
    let g : (nat_lt 0 (length bytes) ≡ true) × (list_any (IsOpenOf bytes) entities ≡ true) = and_parts _ _ h in
    let some : 0 < length bytes = ltb-true _ _ g.0 in
    ⊎_elim (open_of bytes (codes "&quot;") 5 refl refl some) (λ h2.
    ⊎_elim (open_of bytes (codes "&amp;") 4 refl refl some) (λ h3.
    ⊎_elim (open_of bytes (codes "&#x27;") 5 refl refl some) (λ h4.
    ⊎_elim (open_of bytes (codes "&lt;") 3 refl refl some) (λ h5.
    ⊎_elim (open_of bytes (codes "&gt;") 3 refl refl some) (λ h6. absurd (none_true h6))
    (or_cases _ _ h5)) (or_cases _ _ h4)) (or_cases _ _ h3)) (or_cases _ _ h2)) (or_cases _ _ g.1)

-- A whole escaped text does not end within a replacement.
pub not_within : (whole text begun : List ℕ) → escape_of whole ≡ escape_of text ++ begun → is_open_entity begun ≡ true → ⊥
not_within whole text begun e h =
    let split : within false (escape_of text ++ begun) ≡ true = within_append false (escape_of text) begun ∙ (ap (λ s. within s begun) (escaped_within text) ∙ open_within begun h) in
    none_true (sym (escaped_within whole) ∙ (ap (within false) e ∙ split))

any_at : (test : List ℕ → Bool) (words : List (List ℕ)) (w : List ℕ) → is_word words w ≡ true → test w ≡ true → list_any test words ≡ true
any_at test [] w h t = absurd (none_true h)
any_at test (x ∷ words) w h t =
    ⊎_elim (λ e. or_left _ _ (ap test ((bytes_eq-Decides x w).0 e) ∙ t)) (λ g. or_right (test x) _ (any_at test words w g t)) (or_cases _ _ h)

-- What has begun and is no whole replacement is open.
pub begun_open : (e : List ℕ) → IsOpenEntity e → is_open_entity e ≡ true
begun_open e h =
    let g : (rest : List ℕ) × (is_word entities (e ++ rest) ≡ true) = begins_gives entities e h.begun in
    let longer : (rest : List ℕ) → is_word entities (e ++ rest) ≡ true → length e < length (e ++ rest) = λ rest.
    elim rest as (λ rest. is_word entities (e ++ rest) ≡ true → length e < length (e ++ rest)) [
      | [] ↦ λ w. absurd (none_true (sym h.open_still ∙ (ap (is_word entities) (sym (append-nil e)) ∙ w)))
      | x ∷ xs ↦ λ w. omega (arith, length-append e (x ∷ xs))
    ] in
    and_from _ _ (lt-ltb 0 (length e) h.some) (any_at (IsOpenOf e) entities (e ++ g.0) g.1
    (and_from _ _ (lt-ltb _ _ (longer g.0 g.1)) ((bytes_eq-Decides _ e).1 (take_at e g.0 (length e) refl))))
