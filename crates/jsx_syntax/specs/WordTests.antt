-- Tests of words. Private functions of the parser compute these.
use Rattle.std.specs.Prelude.{ℕ, Bool, true, false, not, ◌&&◌, ◌==◌, nat_lt, if◌then◌else◌, List, Result, Ok, Err}
use Rattle.std.specs.Str.{bytes_eq}
use Rattle.jsx_lex.specs.declared.word.Word.{Word}
use Rattle.jsx_lex.specs.declared.word.Word.TheVariants.{Name, Number, Text, JsxText, Sign}
use Rattle.jsx_lex.specs.declared.word.Punctuator.{Punctuator}
use Rattle.jsx_lex.specs.declared.word.Punctuator.TheVariants as p
use Rattle.jsx_syntax.specs.declared.name.Name as name
use Rattle.jsx_syntax.specs.declared.fault.Wanted.{Wanted}
use Rattle.jsx_syntax.specs.declared.fault.Wanted.TheVariants.{Token, Shallower}
use Rattle.jsx_syntax.specs.Words.{is_reserved, nesting_limit}

abbrev pub punctuator_number : Punctuator → ℕ
punctuator_number p.StrictEqual = 0
punctuator_number p.StrictNotEqual = 1
punctuator_number p.Arrow = 2
punctuator_number p.AndAnd = 3
punctuator_number p.OrOr = 4
punctuator_number p.OpenBrace = 5
punctuator_number p.CloseBrace = 6
punctuator_number p.OpenParen = 7
punctuator_number p.CloseParen = 8
punctuator_number p.OpenBracket = 9
punctuator_number p.CloseBracket = 10
punctuator_number p.Comma = 11
punctuator_number p.Semicolon = 12
punctuator_number p.Colon = 13
punctuator_number p.Dot = 14
punctuator_number p.Question = 15
punctuator_number p.Not = 16
punctuator_number p.Assign = 17
punctuator_number p.Plus = 18
punctuator_number p.Less = 19
punctuator_number p.Greater = 20
punctuator_number p.SlashGreater = 21
punctuator_number p.LessSlash = 22

abbrev pub is_sign : Punctuator → Word → Bool
is_sign sign (Sign other) = punctuator_number sign == punctuator_number other
is_sign sign (Name text at_) = false
is_sign sign (Number z) = false
is_sign sign (Text x) = false
is_sign sign (JsxText x) = false

-- a name of this text
abbrev pub is_word : List ℕ → Word → Bool
is_word text (Name other at_) = bytes_eq other text
is_word text (Sign other) = false
is_word text (Number z) = false
is_word text (Text x) = false
is_word text (JsxText x) = false

abbrev pub is_opening : Punctuator → Bool
is_opening p.OpenParen = true
is_opening p.OpenBracket = true
is_opening p.OpenBrace = true
is_opening p.Less = true
is_opening p.Not = true
is_opening p.Question = true
is_opening p.StrictEqual = false
is_opening p.StrictNotEqual = false
is_opening p.Arrow = false
is_opening p.AndAnd = false
is_opening p.OrOr = false
is_opening p.CloseBrace = false
is_opening p.CloseParen = false
is_opening p.CloseBracket = false
is_opening p.Comma = false
is_opening p.Semicolon = false
is_opening p.Colon = false
is_opening p.Dot = false
is_opening p.Assign = false
is_opening p.Plus = false
is_opening p.Greater = false
is_opening p.SlashGreater = false
is_opening p.LessSlash = false

abbrev pub opens : Word → Bool
opens (Sign sign) = is_opening sign
opens (Name text at_) = false
opens (Number z) = false
opens (Text x) = false
opens (JsxText x) = false

abbrev pub has_room : ℕ → Bool
has_room open_ = nat_lt open_ nesting_limit

-- why a word is refused that could stand at no nesting, by whether one more may be open
abbrev pub refusal_by : Bool → Word → Wanted
refusal_by room w = if opens w && not room then Shallower else Token

-- the same where so many are open
abbrev pub refusal : ℕ → Word → Wanted
refusal open_ w = refusal_by (has_room open_) w

-- a name of code
abbrev pub code_name_by : Bool → Word → Result name.Name Wanted
code_name_by room (Name text at_) = if is_reserved text then Err Token else Ok (record { text = text; at = at_ })
code_name_by room (Sign sign) = Err (refusal_by room (Sign sign))
code_name_by room (Number z) = Err Token
code_name_by room (Text x) = Err Token
code_name_by room (JsxText x) = Err Token

abbrev pub code_name : ℕ → Word → Result name.Name Wanted
code_name open_ w = code_name_by (has_room open_) w

-- a name of a tag or after a dot, where a word of the language is one too
abbrev pub any_name_by : Bool → Word → Result name.Name Wanted
any_name_by room (Name text at_) = Ok (record { text = text; at = at_ })
any_name_by room (Sign sign) = Err (refusal_by room (Sign sign))
any_name_by room (Number z) = Err Token
any_name_by room (Text x) = Err Token
any_name_by room (JsxText x) = Err Token

abbrev pub any_name : ℕ → Word → Result name.Name Wanted
any_name open_ w = any_name_by (has_room open_) w
