-- Character references, in the text between tags and in strings of Tag, as HTML writes them: six of its names, and
-- numbers. Any other `&` stands for itself.
use Rattle.std.specs.Prelude.{ℕ, zero, suc, ◌+◌, ◌-◌, ◌&&◌, ◌==◌, nat_lt, if◌then◌else◌, List, [], ◌∷◌, ◌++◌, length, take, drop, codes, find, Option, Some, None, option_map, encode_utf8}
use Rattle.std.specs.List.{prefix_len}
use Rattle.std.specs.Option.{option_map_or}
use Rattle.std.specs.Char.{is_digit}
use Rattle.std.specs.Str.Parse.{digits_value}
use lib.Utf8.{scalar}
use Rattle.fizz_text.specs.Ascii.{ampersand}
use Rattle.jsx_lex.specs.Characters.{begins}

-- the names, as they follow an `&`, with their characters. `nbsp` is the space that does not break, U+00A0.
unfoldable pub reference_names : List (List ℕ × ℕ)
reference_names =
    (codes "amp;", 38) ∷
    (codes "lt;", 60) ∷
    (codes "gt;", 62) ∷
    (codes "quot;", 34) ∷
    (codes "apos;", 39) ∷
    (codes "nbsp;", 160) ∷
    []

-- Digits and a `;`, where they write a Unicode scalar value: the character, and the bytes with those in front.
abbrev pub numeric_reference : ℕ → ℕ → List ℕ → Option (ℕ × ℕ)
numeric_reference radix front text =
    let size = prefix_len (λ b. is_digit b radix) text in
    let value = digits_value radix (take size text) in
    if (nat_lt 0 size && begins (codes ";") (drop size text)) && scalar value then Some (value, front + size + 1) else None

abbrev pub named_reference : List ℕ → Option (ℕ × ℕ)
named_reference text =
    option_map (λ (r : List ℕ × ℕ). (r.1, 1 + length r.0)) (find (λ (r : List ℕ × ℕ). begins r.0 text) reference_names)

-- the character that an `&` and this text begin with, and how many bytes spell it
abbrev pub reference_at : List ℕ → Option (ℕ × ℕ)
reference_at text =
    if begins (codes "#x") text then numeric_reference 16 3 (drop 2 text)
    else if begins (codes "#") text then numeric_reference 10 2 (drop 1 text)
    else named_reference text

-- The text with its references replaced. The first `passed` bytes belong to one that was replaced.
abbrev pub decoded_text_after : ℕ → List ℕ → List ℕ
decoded_text_after passed [] = []
decoded_text_after (suc passed) (b ∷ bs) = decoded_text_after passed bs
decoded_text_after zero (b ∷ bs) =
    if b == ampersand
    then option_map_or (λ (r : ℕ × ℕ). encode_utf8 r.0 ++ decoded_text_after (r.1 - 1) bs) (reference_at bs) (b ∷ decoded_text_after zero bs)
    else b ∷ decoded_text_after zero bs

abbrev pub decoded_text : List ℕ → List ℕ
decoded_text text = decoded_text_after 0 text
