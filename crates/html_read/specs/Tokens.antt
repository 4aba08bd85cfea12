-- The tokens of a page as React's server renderer prints it, and the bytes that they are. It is the part of HTML
-- (WHATWG, "Tokenization") in which each token has one spelling.
use Rattle.std.specs.Prelude.{◌≡◌, ◌≢◌, ℕ, ◌+◌, Bool, true, false, Option, Some, None, List, [], ◌∷◌, ◌++◌, length, codes}
use Rattle.std.specs.List.{flat_map}
use Rattle.std.specs.Str.{IsUtf8}
use Rattle.fizz_text.specs.declared.attribute.Attr.{Attr}
use Rattle.html_names.specs.Comments.{comment_spelling}
use Rattle.html_names.specs.Elements.{IsVoidName}
use Rattle.html_names.specs.Escape.{escape_of}
use Rattle.html_names.specs.Printing.{tag_prefix, end_tag}
use Rattle.html_read.specs.declared.token.Token.{Token}
use Rattle.html_read.specs.declared.token.Token.TheVariants.{Start, End, Void, Text, Comment, Script}
use Rattle.html_read.specs.Names.{IsTagName, IsAttributeName}

-- An attribute has a value that is a text, or is `hidden` without one.
abbrev pub HasValue : List ℕ → Option (List ℕ) → Type 0
HasValue name None = name ≡ codes "hidden"
HasValue name (Some value) = IsUtf8 value

abbrev pub IsAttribute : Attr → Type 0
IsAttribute a = IsAttributeName a.name × HasValue a.name a.value

abbrev pub AreAttributes : List Attr → Type 0
AreAttributes [] = Unit {0}
AreAttributes (a ∷ more) = IsAttribute a × AreAttributes more

-- The end of a script does not stand in its body.
abbrev pub script_end : List ℕ
script_end = codes "</script>"

abbrev pub IsScriptBody : List ℕ → Type 0
IsScriptBody body = (before after : List ℕ) → body ≡ before ++ (script_end ++ after) → ⊥

-- The bytes of a token.
abbrev pub spelling : Token → List ℕ
spelling (Start name attributes from) = tag_prefix name attributes ++ codes ">"
spelling (End name from) = end_tag name
spelling (Void name attributes from) = tag_prefix name attributes ++ codes "/>"
spelling (Text text from) = escape_of text
spelling (Comment which from) = comment_spelling which
spelling (Script body from) = codes "<script>" ++ (body ++ script_end)

abbrev pub spellings : List Token → List ℕ
spellings toks = flat_map spelling toks

-- What may be a token, its place apart.
abbrev pub IsToken : Token → Type 0
IsToken (Start name attributes from) = IsTagName name × AreAttributes attributes
IsToken (End name from) = IsTagName name
IsToken (Void name attributes from) = IsVoidName name × AreAttributes attributes
IsToken (Text text from) = (text ≢ []) × IsUtf8 text
IsToken (Comment which from) = Unit {0}
IsToken (Script body from) = IsScriptBody body

-- The place of a token's first byte.
abbrev pub place_of : Token → ℕ
place_of (Start name attributes from) = from
place_of (End name from) = from
place_of (Void name attributes from) = from
place_of (Text text from) = from
place_of (Comment which from) = from
place_of (Script body from) = from

abbrev pub is_text : Token → Bool
is_text (Start name attributes from) = false
is_text (End name from) = false
is_text (Void name attributes from) = false
is_text (Text text from) = true
is_text (Comment which from) = false
is_text (Script body from) = false

-- A text is as long as it can be: no text follows another.
abbrev pub MayFollow : Bool → Bool → Type 0
MayFollow true true = ⊥
MayFollow true false = Unit {0}
MayFollow false after = Unit {0}

-- Tokens one after the other from a place on, after a text or not.
abbrev pub AreTokensFrom : ℕ → Bool → List Token → Type 0
AreTokensFrom place after_text [] = Unit {0}
AreTokensFrom place after_text (tok ∷ toks) =
    IsToken tok × (place_of tok ≡ place) × MayFollow after_text (is_text tok) × AreTokensFrom (place + length (spelling tok)) (is_text tok) toks

abbrev pub AreTokens : List Token → Type 0
AreTokens toks = AreTokensFrom 0 false toks

-- The bytes are these tokens.
pub record Tokenizes (bytes : List ℕ) (toks : List Token) : Type 0 where
  pub spelled : bytes ≡ spellings toks
  pub tokens : AreTokens toks
