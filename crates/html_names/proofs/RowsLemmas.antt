-- A search in a table.
use Rattle.std.proofs.Common.{◌≡◌, ℕ, suc, ◌<◌, Bool, true, false, cond, if◌then◌else◌, List, [], ◌∷◌, map, drop, length, get_or, ap, sym, refl, ◌∙◌, Option, Some, None, option_map, Bor}
use Rattle.std.specs.Map.{lookup}
use Rattle.std.specs.Str.{bytes_eq}
use Rattle.html_names.specs.Attributes.{Meaning, attribute_rows, attribute_of, is_prefixed_name}
use Rattle.html_names.specs.Rows.{row_of, pair_meaning, attribute_row}
use Rattle.html_names.specs.declared.attributes.AttrKind.TheVariants.{Booleanish}
use Rattle.html_names.specs.declared.attributes.AttrName.{AttrName}
use Rattle.html_names.specs.declared.attributes.AttrKind.{AttrKind}
use Rattle.std.proofs.Math.Seq.{drop-cons}

-- The row at which the rows that are left decide is the one found.
pub row_found : {A V : Type 0} (shown : A → List ℕ × V) (rows : List A) (name : List ℕ) (i : ℕ) (d : A) → i < length rows →
    lookup (bytes_eq name) (map shown rows) ≡ lookup (bytes_eq name) (map shown (drop i rows)) →
    bytes_eq name (shown (get_or rows i d)).0 ≡ true →
    lookup (bytes_eq name) (map shown rows) ≡ Some (shown (get_or rows i d)).1
row_found shown rows name i d l left same =
    left ∙ (ap (λ xs. lookup (bytes_eq name) (map shown xs)) (drop-cons rows i d l)
    ∙ ap (λ b. cond b (Some (shown (get_or rows i d)).1) (lookup (bytes_eq name) (map shown (drop (suc i) rows)))) same)

map_choice : {A B : Type 0} (f : A → B) (b : Bool) (x y : Option A) → option_map f (cond b x y) ≡ cond b (option_map f x) (option_map f y)
map_choice f true x y = refl
map_choice f false x y = refl

-- What is found among the meanings is the meaning of what is found among the rows.
pub meaning_found : (test : List ℕ → Bool) (rows : List (Bor (List ℕ) × (AttrName × AttrKind))) →
    option_map pair_meaning (lookup test (map row_of rows)) ≡ lookup test (map attribute_row rows)
meaning_found test [] = refl
meaning_found test (row ∷ rows) =
    map_choice pair_meaning (test row.0.now) (Some row.1) (lookup test (map row_of rows)) ∙ ap (λ found. cond (test row.0.now) (Some (pair_meaning row.1)) found) (meaning_found test rows)

pub attribute_of-unprefixed : (name : List ℕ) (found : Option Meaning) → is_prefixed_name name ≡ false → found ≡ lookup (bytes_eq name) attribute_rows → found ≡ attribute_of name
attribute_of-unprefixed name found e h = h ∙ ap (λ b. if b then Some (None, Booleanish) else lookup (bytes_eq name) attribute_rows) (sym e)
