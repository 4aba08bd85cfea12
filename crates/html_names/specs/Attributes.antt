-- The attributes that an element may have: the names that a source writes, in React's spelling, the names that are
-- printed, in HTML's, and how each value is printed.
use Rattle.std.specs.Prelude.{ℕ, Bool, ◌&&◌, ◌||◌, ◌==◌, if◌then◌else◌, List, [], ◌∷◌, drop, length, nat_lt, not, codes, Option, None, Some, unwrap_or}
use Rattle.std.specs.List.{list_all}
use Rattle.std.specs.Map.{lookup}
use Rattle.std.specs.Str.{bytes_eq}
use Rattle.html_names.specs.declared.attributes.AttrKind.{AttrKind}
use Rattle.html_names.specs.declared.attributes.AttrKind.TheVariants.{Plain, Boolean, Booleanish, Id, Key}
use Rattle.fizz_text.specs.Ascii.{hyphen}
use Rattle.html_names.specs.Names.{begins_with, is_digit, is_small_letter}

-- What an attribute means: the name that is printed, where it is another than the one that is written, and the kind.
abbrev pub Meaning : Type 0
Meaning = Option (List ℕ) × AttrKind

-- The attributes that go by one name.
unfoldable pub attribute_rows : List (List ℕ × Meaning)
attribute_rows =
    (codes "className", (Some (codes "class"), Plain)) ∷
    (codes "cite", (None, Plain)) ∷
    (codes "dir", (None, Plain)) ∷
    (codes "disabled", (None, Boolean)) ∷
    (codes "hidden", (None, Boolean)) ∷
    (codes "href", (None, Plain)) ∷
    (codes "htmlFor", (Some (codes "for"), Plain)) ∷
    (codes "id", (None, Id)) ∷
    (codes "key", (None, Key)) ∷
    (codes "lang", (None, Plain)) ∷
    (codes "open", (None, Boolean)) ∷
    (codes "rel", (None, Plain)) ∷
    (codes "role", (None, Plain)) ∷
    (codes "target", (None, Plain)) ∷
    (codes "title", (None, Plain)) ∷
    []

-- A byte that may follow `aria-` and `data-`: a to z, 0 to 9 and `-`.
abbrev pub is_suffix_byte : ℕ → Bool
is_suffix_byte b = is_small_letter b || (is_digit b || b == hyphen)

-- `aria-` or `data-` begins the name.
abbrev pub has_prefix : List ℕ → Bool
has_prefix name = begins_with (codes "aria-") name || begins_with (codes "data-") name

-- `aria-` or `data-` and one or more such bytes. The renderer writes `data-dgst` itself, and so a source may not.
abbrev pub is_prefixed_name : List ℕ → Bool
is_prefixed_name name =
    let rest = drop 5 name in
    has_prefix name && (nat_lt 0 (length rest) && list_all is_suffix_byte rest)
    && not (bytes_eq name (codes "data-dgst"))

-- The attribute of this name, or None where there is no such attribute.
abbrev pub attribute_of : List ℕ → Option Meaning
attribute_of name = if is_prefixed_name name then Some (None, Booleanish) else lookup (bytes_eq name) attribute_rows

-- The name that is printed for an attribute that is written `name`.
abbrev pub printed_name : List ℕ → Meaning → List ℕ
printed_name name meaning = unwrap_or meaning.0 name

-- The value begins with the prefix and then `B:`, `S:` or `P:`, as the renderer's own ids do.
abbrev pub is_reserved : List ℕ → List ℕ → Bool
is_reserved prefix value =
    let rest = drop (length prefix) value in
    begins_with prefix value
    && (begins_with (codes "B:") rest || begins_with (codes "S:") rest || begins_with (codes "P:") rest)
