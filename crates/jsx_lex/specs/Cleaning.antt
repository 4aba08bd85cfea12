-- What is left of the text between tags, as JSX has it: the line breaks and the spaces around them that only lay out
-- the source go, and each break between two lines with something on them becomes one space.
use Rattle.std.specs.Prelude.{ℕ, Bool, true, false, ◌||◌, ◌==◌, if◌then◌else◌, List, [], ◌∷◌, ◌-◌, take, drop, filter, nat_lt, length}
use Rattle.std.specs.List.{prefix_len, suffix_len, join_with_byte, slice_split}
use Rattle.fizz_text.specs.Ascii.{carriage_return, line_feed, space, tab}

-- space, tab or carriage return
abbrev pub is_blank : ℕ → Bool
is_blank b = (b == space || b == tab) || b == carriage_return

abbrev pub without_leading_blanks : List ℕ → List ℕ
without_leading_blanks line = drop (prefix_len is_blank line) line

abbrev pub without_trailing_blanks : List ℕ → List ℕ
without_trailing_blanks line = take (length line - suffix_len is_blank line) line

-- Each line but the first loses its leading blanks, each but the last its trailing ones.
abbrev pub trimmed_lines : Bool → List (List ℕ) → List (List ℕ)
trimmed_lines is_first [] = []
trimmed_lines is_first (x ∷ []) = (if is_first then x else without_leading_blanks x) ∷ []
trimmed_lines is_first (x ∷ y ∷ ys) =
    without_trailing_blanks (if is_first then x else without_leading_blanks x) ∷ trimmed_lines false (y ∷ ys)

abbrev pub lines_of : List ℕ → List (List ℕ)
lines_of text = slice_split (λ b. b == line_feed) text

-- The lines that are not empty then, with one space between each two. A text without a line feed stays as it is.
abbrev pub clean_text : List ℕ → List ℕ
clean_text text = join_with_byte 32 (filter (λ line. nat_lt 0 (length line)) (trimmed_lines true (lines_of text)))
