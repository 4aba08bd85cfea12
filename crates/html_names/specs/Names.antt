-- Names as bytes.
use Rattle.std.specs.Prelude.{ℕ, Bool, false, ◌&&◌, ◌||◌, ◌==◌, List, [], ◌∷◌, take, length, nat_le}
use Rattle.std.specs.List.{list_all}
use Rattle.std.specs.Str.{bytes_eq}
use Rattle.fizz_text.specs.Ascii.{capital_a, capital_z, digit_0, digit_9, hyphen, small_a, small_z}

-- The bytes begin with these.
abbrev pub begins_with : List ℕ → List ℕ → Bool
begins_with prefix bytes = bytes_eq (take (length prefix) bytes) prefix

abbrev pub is_small_letter : ℕ → Bool
is_small_letter b = nat_le small_a b && nat_le b small_z

abbrev pub is_letter : ℕ → Bool
is_letter b = (nat_le capital_a b && nat_le b capital_z) || is_small_letter b

abbrev pub is_digit : ℕ → Bool
is_digit b = nat_le digit_0 b && nat_le b digit_9

-- A letter, a digit or `-`.
abbrev pub is_name_byte : ℕ → Bool
is_name_byte b = is_letter b || (is_digit b || b == hyphen)

-- A letter, followed by letters, digits and `-`. Each name that is printed is one.
abbrev pub is_plain_name : List ℕ → Bool
is_plain_name [] = false
is_plain_name (b ∷ bs) = is_letter b && list_all is_name_byte bs
