-- Ids of segments and boundaries: two of a kind are equal where their numbers are, and two kinds never are.
use Rattle.std.proofs.Common.{◌≡◌, ◌≢◌, ℕ, ◌==◌, Bool, true, false, ◌&&◌, ◌||◌, List, [], ◌∷◌, ◌++◌, Option, Some, None, get_or, inl, inr, refl, sym, ap, ◌∙◌, arith, codes, unwrap_or}
use Rattle.std.specs.List.{list_any}
use Rattle.std.specs.Str.{bytes_eq}
use Rattle.std.proofs.lemmas.Bool.{cases_eq, eq-eqb, ne_eqb}
use Rattle.std.proofs.lemmas.Slice.Eq.{bytes_eq-Decides}
use Rattle.fizz_text.specs.declared.attribute.Attr.{Attr}
use Rattle.fizz_text.specs.Hexadecimal.{hexadecimal}
use Rattle.html_names.specs.Attributes.{is_reserved}
use Rattle.html_names.proofs.NamesLemmas.{reserved_after}
use Rattle.dom_forest.specs.Ids.{gives_id, is_value}
use Rattle.fizz_instructions.specs.Bodies.{id_of, boundary_id, segment_id, placeholder_id}
use Rattle.fizz_instructions.proofs.IdsLemmas.{same_id}
use Rattle.std.proofs.lemmas.List.{append_cancel_left}
use Rattle.page_laws.specs.Pages.{is_reserved_id}

pub never_true : (b : Bool) → (b ≡ true → ⊥) → b ≡ false
never_true true h = absurd (h refl)
never_true false h = refl

pub bytes_apart : (a b : List ℕ) → a ≢ b → bytes_eq a b ≡ false
bytes_apart a b h = never_true (bytes_eq a b) (λ e. h ((bytes_eq-Decides a b).0 e))

pub bytes_same : (a b : List ℕ) → a ≡ b → bytes_eq a b ≡ true
bytes_same a b e = (bytes_eq-Decides a b).1 e

-- two ids of one kind
pub same_kind : (prefix mark : List ℕ) (i h : ℕ) → bytes_eq (id_of prefix mark i) (id_of prefix mark h) ≡ (i == h)
same_kind prefix mark i h = elim (cases_eq i h) [
  | inl e ↦ bytes_same (id_of prefix mark i) (id_of prefix mark h) (ap (id_of prefix mark) e) ∙ sym (eq-eqb i h e)
  | inr n ↦ bytes_apart (id_of prefix mark i) (id_of prefix mark h) (λ e. n (same_id prefix mark i h e)) ∙ sym (ne_eqb i h n)
]

first_of : List ℕ → ℕ
first_of bytes = get_or bytes 0 0

-- ids of two kinds
pub boundary_no_segment : (prefix : List ℕ) (i h : ℕ) → bytes_eq (boundary_id prefix i) (segment_id prefix h) ≡ false
boundary_no_segment prefix i h = bytes_apart (boundary_id prefix i) (segment_id prefix h)
    (λ e. let apart : get_or (codes "B:" ++ hexadecimal i) 0 0 ≡ get_or (codes "S:" ++ hexadecimal h) 0 0 = ap (λ bytes. get_or bytes 0 0) (append_cancel_left prefix _ _ e) in omega (arith, apart))

pub placeholder_no_segment : (prefix : List ℕ) (i h : ℕ) → bytes_eq (placeholder_id prefix i) (segment_id prefix h) ≡ false
placeholder_no_segment prefix i h = bytes_apart (placeholder_id prefix i) (segment_id prefix h)
    (λ e. let apart : get_or (codes "P:" ++ hexadecimal i) 0 0 ≡ get_or (codes "S:" ++ hexadecimal h) 0 0 = ap (λ bytes. get_or bytes 0 0) (append_cancel_left prefix _ _ e) in omega (arith, apart))

pub boundary_no_placeholder : (prefix : List ℕ) (i h : ℕ) → bytes_eq (boundary_id prefix i) (placeholder_id prefix h) ≡ false
boundary_no_placeholder prefix i h = bytes_apart (boundary_id prefix i) (placeholder_id prefix h)
    (λ e. let apart : get_or (codes "B:" ++ hexadecimal i) 0 0 ≡ get_or (codes "P:" ++ hexadecimal h) 0 0 = ap (λ bytes. get_or bytes 0 0) (append_cancel_left prefix _ _ e) in omega (arith, apart))

pub placeholder_no_boundary : (prefix : List ℕ) (i h : ℕ) → bytes_eq (placeholder_id prefix i) (boundary_id prefix h) ≡ false
placeholder_no_boundary prefix i h = bytes_apart (placeholder_id prefix i) (boundary_id prefix h)
    (λ e. let apart : get_or (codes "P:" ++ hexadecimal i) 0 0 ≡ get_or (codes "B:" ++ hexadecimal h) 0 0 = ap (λ bytes. get_or bytes 0 0) (append_cancel_left prefix _ _ e) in omega (arith, apart))

pub segment_no_boundary : (prefix : List ℕ) (i h : ℕ) → bytes_eq (segment_id prefix i) (boundary_id prefix h) ≡ false
segment_no_boundary prefix i h = bytes_apart (segment_id prefix i) (boundary_id prefix h)
    (λ e. let apart : get_or (codes "S:" ++ hexadecimal i) 0 0 ≡ get_or (codes "B:" ++ hexadecimal h) 0 0 = ap (λ bytes. get_or bytes 0 0) (append_cancel_left prefix _ _ e) in omega (arith, apart))

pub segment_no_placeholder : (prefix : List ℕ) (i h : ℕ) → bytes_eq (segment_id prefix i) (placeholder_id prefix h) ≡ false
segment_no_placeholder prefix i h = bytes_apart (segment_id prefix i) (placeholder_id prefix h)
    (λ e. let apart : get_or (codes "S:" ++ hexadecimal i) 0 0 ≡ get_or (codes "P:" ++ hexadecimal h) 0 0 = ap (λ bytes. get_or bytes 0 0) (append_cancel_left prefix _ _ e) in omega (arith, apart))

-- The ids of segments and boundaries are reserved.
pub boundary_reserved : (prefix : List ℕ) (i : ℕ) → is_reserved prefix (boundary_id prefix i) ≡ true
boundary_reserved prefix i = reserved_after prefix (codes "B:" ++ hexadecimal i)

pub segment_reserved : (prefix : List ℕ) (i : ℕ) → is_reserved prefix (segment_id prefix i) ≡ true
segment_reserved prefix i = reserved_after prefix (codes "S:" ++ hexadecimal i)

pub placeholder_reserved : (prefix : List ℕ) (i : ℕ) → is_reserved prefix (placeholder_id prefix i) ≡ true
placeholder_reserved prefix i = reserved_after prefix (codes "P:" ++ hexadecimal i)

-- Where no attribute gives a reserved id, none gives this one.
gives_value : (prefix id : List ℕ) (named : Bool) (value : Option (List ℕ)) → is_reserved prefix id ≡ true
    → (named && is_reserved prefix (unwrap_or value [])) ≡ false → (named && is_value id value) ≡ false
gives_value prefix id false value r h = refl
gives_value prefix id true None r h = refl
gives_value prefix id true (Some v) r h = bytes_apart v id (λ e. let t : true ≡ false = sym r ∙ (ap (is_reserved prefix) (sym e) ∙ h) in cc)

first_false : (a b : Bool) → (a || b) ≡ false → a ≡ false
first_false true b h = h
first_false false b h = refl

rest_false : (a b : Bool) → (a || b) ≡ false → b ≡ false
rest_false true b h = absurd (let t : true ≡ false = h in cc)
rest_false false b h = h

pub either_false : (a b : Bool) → a ≡ false → b ≡ false → (a || b) ≡ false
either_false a b x y = ap (λ c. c || b) x ∙ y

pub gives_no_id : (prefix id : List ℕ) (attributes : List Attr) → is_reserved prefix id ≡ true → list_any (is_reserved_id prefix) attributes ≡ false
    → list_any (gives_id id) attributes ≡ false
gives_no_id prefix id [] r h = refl
gives_no_id prefix id (a ∷ more) r h =
    either_false (gives_id id a) (list_any (gives_id id) more)
    (gives_value prefix id (bytes_eq a.name (codes "id")) a.value r (first_false (is_reserved_id prefix a) (list_any (is_reserved_id prefix) more) h))
    (gives_no_id prefix id more r (rest_false (is_reserved_id prefix a) (list_any (is_reserved_id prefix) more) h))
