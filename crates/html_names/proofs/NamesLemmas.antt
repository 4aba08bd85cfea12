-- What the names that are printed look like.
use Rattle.std.proofs.Common.{◌≡◌, ℕ, Bool, true, false, cond, ◌&&◌, ◌||◌, ◌==◌, nat_le, nat_lt, List, [], ◌∷◌, ◌++◌, take, drop, length, codes, Option, Some, None, is_some, refl, sym, ◌∙◌, ap, subst, ⊎_elim}
use Rattle.std.specs.List.{list_all}
use Rattle.std.specs.Map.{lookup}
use Rattle.std.specs.Str.{bytes_eq}
use Rattle.std.proofs.lemmas.List.{take-append-drop}
use Rattle.std.proofs.lemmas.Option.{same_Some}
use Rattle.std.proofs.lemmas.Slice.Eq.{bytes_eq-Decides}
use Rattle.std.proofs.Math.Seq.{take-append_seam, drop-append_seam}
use Rattle.html_names.specs.Attributes.{Meaning, attribute_rows, attribute_of, is_suffix_byte, is_prefixed_name, printed_name, is_reserved}
use Rattle.html_names.specs.Elements.{element_rows, void_flag, IsElementName}
use Rattle.fizz_text.specs.Ascii.{capital_a, capital_z, hyphen}
use Rattle.html_names.specs.Names.{begins_with, is_digit, is_small_letter, is_name_byte, is_plain_name}
use Rattle.html_names.specs.declared.attributes.AttrKind.TheVariants.{Booleanish}
use Rattle.html_names.proofs.EscapedPrefixLemmas.{or_cases, and_both}

step : {V : Type 0} (p : List ℕ → V → Bool) (name : List ℕ) (row : List ℕ × V) (rest : Bool) (left : Option V) (v : V) (b : Bool) → bytes_eq name row.0 ≡ b →
    (p row.0 row.1 && rest) ≡ true → cond b (Some row.1) left ≡ Some v → (rest ≡ true → left ≡ Some v → p name v ≡ true) → p name v ≡ true
step p name row rest left v true same pass e more =
    ap (λ n. p n v) ((bytes_eq-Decides _ _).0 same) ∙ (ap (p row.0) (sym (same_Some row.1 v e)) ∙ (and_both (p row.0 row.1) rest pass).0)
step p name row rest left v false same pass e more = more ((and_both (p row.0 row.1) rest pass).1) e

-- What each row passes, what is found passes.
found_passes : {V : Type 0} (p : List ℕ → V → Bool) (name : List ℕ) (rows : List (List ℕ × V)) (v : V) →
    list_all (λ (row : List ℕ × V). p row.0 row.1) rows ≡ true → lookup (bytes_eq name) rows ≡ Some v → p name v ≡ true
found_passes p name [] v pass e = absurd cc
found_passes p name (row ∷ rows) v pass e =
    step p name row (list_all (λ row. p row.0 row.1) rows) (lookup (bytes_eq name) rows) v (bytes_eq name row.0) refl pass e (found_passes p name rows v)

element_named : (name : List ℕ) (flag : Option Bool) → lookup (bytes_eq name) element_rows ≡ flag → is_some flag ≡ true → is_plain_name name ≡ true
unfolding element_rows
element_named name (Some v) e s = found_passes (λ n flag. is_plain_name n) name element_rows v refl e
element_named name None e s = absurd cc

pub element_is_plain : (name : List ℕ) → IsElementName name → is_plain_name name ≡ true
element_is_plain name h = element_named name (void_flag name) refl h

wider : (upper lower digit dash : Bool) → (lower || (digit || dash)) ≡ true → (upper || lower || (digit || dash)) ≡ true
wider true lower digit dash h = refl
wider false lower digit dash h = h

all_wider : (bs : List ℕ) → list_all is_suffix_byte bs ≡ true → list_all is_name_byte bs ≡ true
all_wider [] h = refl
all_wider (b ∷ bs) h =
    let both : (is_suffix_byte b ≡ true) × (list_all is_suffix_byte bs ≡ true) = and_both (is_suffix_byte b) (list_all is_suffix_byte bs) h in
    let head : is_name_byte b ≡ true = wider (nat_le capital_a b && nat_le b capital_z) (is_small_letter b) (is_digit b) (b == hyphen) both.0 in
    ap (λ t. t && list_all is_name_byte bs) head ∙ all_wider bs both.1

prefixed_is_plain : (name : List ℕ) → is_prefixed_name name ≡ true → is_plain_name name ≡ true
prefixed_is_plain name h =
    let form : (begins_with (codes "aria-") name || begins_with (codes "data-") name) && (nat_lt 0 (length (drop 5 name)) && list_all is_suffix_byte (drop 5 name)) ≡ true =
    (and_both ((begins_with (codes "aria-") name || begins_with (codes "data-") name) && (nat_lt 0 (length (drop 5 name)) && list_all is_suffix_byte (drop 5 name))) _ h).0 in
    let front : (begins_with (codes "aria-") name || begins_with (codes "data-") name) ≡ true =
    (and_both (begins_with (codes "aria-") name || begins_with (codes "data-") name) _ form).0 in
    let rest : list_all is_name_byte (drop 5 name) ≡ true =
    all_wider (drop 5 name) ((and_both (nat_lt 0 (length (drop 5 name))) _ ((and_both (begins_with (codes "aria-") name || begins_with (codes "data-") name) _ form).1)).1) in
    let at : (word : List ℕ) → take 5 name ≡ word → is_plain_name (word ++ drop 5 name) ≡ true → is_plain_name name ≡ true = λ word e p.
    ap is_plain_name (sym (take-append-drop 5 name) ∙ ap (λ w. w ++ drop 5 name) e) ∙ p in
    ⊎_elim (λ e. at (codes "aria-") ((bytes_eq-Decides (take 5 name) (codes "aria-")).0 e) rest) (λ e. at (codes "data-") ((bytes_eq-Decides (take 5 name) (codes "data-")).0 e) rest)
    (or_cases (begins_with (codes "aria-") name) _ front)

attribute_named : (name : List ℕ) (m : Meaning) (b : Bool) → is_prefixed_name name ≡ b → cond b (Some (None, Booleanish)) (lookup (bytes_eq name) attribute_rows) ≡ Some m →
    is_plain_name (printed_name name m) ≡ true
unfolding attribute_rows
attribute_named name m true s e = subst (λ m. is_plain_name (printed_name name m) ≡ true) (same_Some _ m e) (prefixed_is_plain name s)
attribute_named name m false s e = found_passes (λ n m. is_plain_name (printed_name n m)) name attribute_rows m refl e

pub attribute_is_plain : (name : List ℕ) (m : Meaning) → attribute_of name ≡ Some m → is_plain_name (printed_name name m) ≡ true
attribute_is_plain name m e = attribute_named name m (is_prefixed_name name) refl e

-- What begins with the prefix is judged by what follows it.
pub reserved_after : (prefix more : List ℕ) → is_reserved prefix (prefix ++ more) ≡ (begins_with (codes "B:") more || begins_with (codes "S:") more || begins_with (codes "P:") more)
reserved_after prefix more =
    let front : begins_with prefix (prefix ++ more) ≡ true = (bytes_eq-Decides _ _).1 (take-append_seam prefix more) in
    ap (λ t. t && (begins_with (codes "B:") (drop (length prefix) (prefix ++ more)) || begins_with (codes "S:") (drop (length prefix) (prefix ++ more)) || begins_with (codes "P:") (drop (length prefix) (prefix ++ more)))) front
    ∙ ap (λ xs. begins_with (codes "B:") xs || begins_with (codes "S:") xs || begins_with (codes "P:") xs) (drop-append_seam prefix more)
