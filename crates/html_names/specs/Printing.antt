-- How tags are printed, after React's server renderer.
use Rattle.std.specs.Prelude.{ℕ, List, [], ◌++◌, Option, Some, None, codes}
use Rattle.std.specs.List.{flat_map}
use Rattle.fizz_text.specs.declared.attribute.Attr.{Attr}
use Rattle.html_names.specs.Escape.{escape_of}

-- What follows the name: `="value"` with the value escaped, or nothing.
abbrev pub value_spelling : Option (List ℕ) → List ℕ
value_spelling None = []
value_spelling (Some value) = codes "=\"" ++ (escape_of value ++ codes "\"")

-- ` name="value"`, or ` hidden` alone.
abbrev pub attribute_spelling : Attr → List ℕ
attribute_spelling a = codes " " ++ (a.name ++ value_spelling a.value)

abbrev pub attributes_spelling : List Attr → List ℕ
attributes_spelling attributes = flat_map attribute_spelling attributes

-- A start tag or a void tag up to its end.
abbrev pub tag_prefix : List ℕ → List Attr → List ℕ
tag_prefix name attributes = codes "<" ++ (name ++ attributes_spelling attributes)

abbrev pub end_tag : List ℕ → List ℕ
end_tag name = codes "</" ++ (name ++ codes ">")
