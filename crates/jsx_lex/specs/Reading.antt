-- What the lexer finds at a place, as functions of the text there. The private functions of the crate compute these;
-- the public contracts speak of lexemes alone, of which these find all and nothing else.
use Rattle.std.specs.Prelude.{ℕ, zero, suc, ◌+◌, ◌-◌, ◌^◌, Bool, true, not, ◌&&◌, ◌||◌, ◌==◌, nat_lt, nat_le, if◌then◌else◌, List, [], ◌∷◌, length, take, drop, slice_index, codes, Option, Some, None, option_map, option_and_then}
use Rattle.std.specs.List.{prefix_len}
use Rattle.std.specs.Char.{is_ascii_digit, is_digit}
use lib.Utf8.{scalar}
use Rattle.std.specs.Str.Parse.{digits_value}
use Rattle.fizz_text.specs.Ascii.{asterisk, backslash, digit_0, hyphen, line_feed, slash, small_u}
use Rattle.jsx_lex.specs.Characters.{is_space, is_name_start, is_name_part, is_tag_name_part, is_number_start, is_number_follower, is_quote, is_in_line, is_jsx_text, begins}
use Rattle.jsx_lex.specs.SignTable.{SignRow, code_signs, tag_signs, children_signs, close_signs, first_sign}
use Rattle.jsx_lex.specs.StringParts.{escape_value, hex_value}
use Rattle.jsx_lex.specs.declared.mode.Mode.{Mode}
use Rattle.jsx_lex.specs.declared.mode.Mode.TheVariants.{Code, Tag, Children, Close}
use Rattle.jsx_lex.specs.declared.mode.Change.TheVariants.{Keep}
use Rattle.jsx_lex.specs.declared.token.TokenKind.{TokenKind}
use Rattle.jsx_lex.specs.declared.token.TokenKind.TheVariants.{Name, Number, Str, TagStr, JsxText, Sign}
use Rattle.jsx_lex.specs.declared.lexeme.Found.{Found}
use Rattle.jsx_lex.specs.declared.string.Part.{Part}
use Rattle.jsx_lex.specs.declared.string.Meaning.{Meaning}
use Rattle.jsx_lex.specs.declared.string.Meaning.TheVariants.{Byte, Character}

-- a number of bytes, if any, and n more
abbrev pub offset_by : ℕ → Option ℕ → Option ℕ
offset_by n o = option_map (λ m. n + m) o

-- a lexeme of this kind and length, which keeps the mode
abbrev pub found : Option TokenKind → ℕ → Found
found kind size = record { kind = kind; length = size; change = Keep }

abbrev pub found_sign : SignRow → Found
found_sign r = record { kind = Some Sign; length = length r.bytes; change = r.change }

abbrev pub part : ℕ → Meaning → Part
part size meaning = record { length = size; meaning = meaning }

-- the number that four hexadecimal digits write
abbrev pub hex_at : ℕ → ℕ → ℕ → ℕ → Option ℕ
hex_at a b c d =
    if ((is_digit a 16 && is_digit b 16) && is_digit c 16) && is_digit d 16 then Some (hex_value a b c d) else None

abbrev pub character_part : ℕ → Option Part
character_part code = if scalar code then Some (part 6 (Character code)) else None

-- after `\u`
abbrev pub unicode_at : List ℕ → Option Part
unicode_at [] = None
unicode_at (a ∷ []) = None
unicode_at (a ∷ b ∷ []) = None
unicode_at (a ∷ b ∷ c ∷ []) = None
unicode_at (a ∷ b ∷ c ∷ d ∷ more) = option_and_then character_part (hex_at a b c d)

-- after a backslash
abbrev pub escape_at : List ℕ → Option Part
escape_at [] = None
escape_at (c ∷ cs) = if c == small_u then unicode_at cs else option_map (λ v. part 2 (Byte v)) (escape_value c)

-- the part of a string at the front
abbrev pub part_at : ℕ → List ℕ → Option Part
part_at quote [] = None
part_at quote (b ∷ bs) =
    if b == quote || b == line_feed then None
    else if b == backslash then escape_at bs
    else Some (part 1 (Byte b))

-- How many bytes there are up to the closing quote, and with it. The first `passed` belong to a part that was read.
abbrev pub string_len : ℕ → ℕ → List ℕ → Option ℕ
string_len quote passed [] = None
string_len quote (suc passed) (b ∷ bs) = offset_by 1 (string_len quote passed bs)
string_len quote zero (b ∷ bs) =
    if b == quote then Some 1
    else option_and_then (λ (p : Part). offset_by 1 (string_len quote (p.length - 1) bs)) (part_at quote (b ∷ bs))

-- how many bytes there are up to the first `*/`, and with it
abbrev pub comment_end : List ℕ → Option ℕ
comment_end [] = None
comment_end (b ∷ bs) = if begins (codes "*/") (b ∷ bs) then Some 2 else offset_by 1 (comment_end bs)

-- the length of a comment after its first `/`
abbrev pub comment_len : List ℕ → Option ℕ
comment_len [] = None
comment_len (c ∷ cs) =
    if c == slash then Some (2 + prefix_len is_in_line cs)
    else if c == asterisk then offset_by 2 (comment_end cs)
    else None

-- the text's first character, if any, fails the test
abbrev pub ends : (ℕ → Bool) → List ℕ → Bool
ends test [] = true
ends test (b ∷ bs) = not (test b)

-- the digits are a Number with a value from `least` on and before `past`, in front of what comes after them
abbrev pub is_numeral : ℕ → ℕ → List ℕ → List ℕ → Bool
is_numeral least past digits after =
    (((nat_lt 0 (length digits) && (length digits == 1 || not (slice_index digits 0 == digit_0)))
    && nat_le least (digits_value 10 digits)) && nat_lt (digits_value 10 digits) past) && ends is_number_follower after

abbrev pub digits_len : ℕ → ℕ → List ℕ → Option ℕ
digits_len least past text =
    let n = prefix_len is_ascii_digit text in
    if is_numeral least past (take n text) (drop n text) then Some n else None

abbrev pub number_len : List ℕ → Option ℕ
number_len [] = None
number_len (b ∷ bs) =
    if b == hyphen then offset_by 1 (digits_len 1 (2 ^ 63 + 1) bs) else digits_len 0 (2 ^ 63) (b ∷ bs)

-- a string of Tag after its first quote
abbrev pub tag_string_len : ℕ → List ℕ → Option ℕ
tag_string_len quote text =
    let n = prefix_len (λ b. not (b == quote)) text in
    if nat_lt n (length text) then Some (n + 2) else None

abbrev pub read_code : List ℕ → Option Found
read_code [] = None
read_code (b ∷ bs) =
    if is_space b then Some (found None 1)
    else if is_name_start b then Some (found (Some Name) (1 + prefix_len is_name_part bs))
    else if is_number_start b then option_map (λ n. found (Some Number) n) (number_len (b ∷ bs))
    else if is_quote b then option_map (λ n. found (Some Str) (1 + n)) (string_len b 0 bs)
    else if b == slash then option_map (λ n. found None n) (comment_len bs)
    else option_map found_sign (first_sign code_signs (b ∷ bs))

abbrev pub read_tag : List ℕ → Option Found
read_tag [] = None
read_tag (b ∷ bs) =
    if is_space b then Some (found None 1)
    else if is_name_start b then Some (found (Some Name) (1 + prefix_len is_tag_name_part bs))
    else if is_quote b then option_map (λ n. found (Some TagStr) n) (tag_string_len b bs)
    else option_map found_sign (first_sign tag_signs (b ∷ bs))

abbrev pub read_children : List ℕ → Option Found
read_children [] = None
read_children (b ∷ bs) =
    if is_jsx_text b then Some (found (Some JsxText) (1 + prefix_len is_jsx_text bs))
    else option_map found_sign (first_sign children_signs (b ∷ bs))

abbrev pub read_close : List ℕ → Option Found
read_close [] = None
read_close (b ∷ bs) =
    if is_space b then Some (found None 1)
    else if is_name_start b then Some (found (Some Name) (1 + prefix_len is_tag_name_part bs))
    else option_map found_sign (first_sign close_signs (b ∷ bs))

-- In the first Code no `}` is a lexeme.
abbrev pub read : Mode → Bool → List ℕ → Option Found
read Code is_first text = if is_first && begins (codes "}") text then None else read_code text
read Tag _ text = read_tag text
read Children _ text = read_children text
read Close _ text = read_close text
