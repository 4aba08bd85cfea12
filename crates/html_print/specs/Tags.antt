-- The tags of an element.
use Rattle.std.specs.Prelude.{ℕ, Bool, false, List, ◌++◌, codes, unwrap_or}
use Rattle.fizz_text.specs.declared.attribute.Attr.{Attr}
use Rattle.html_names.specs.Elements.{void_flag}
use Rattle.html_names.specs.Printing.{tag_prefix}

-- Whether HTML has a void element of this name, which has no content and no end tag.
abbrev pub is_void : List ℕ → Bool
is_void name = unwrap_or (void_flag name) false

abbrev pub start_tag : List ℕ → List Attr → List ℕ
start_tag name attributes = tag_prefix name attributes ++ codes ">"

abbrev pub void_tag : List ℕ → List Attr → List ℕ
void_tag name attributes = tag_prefix name attributes ++ codes "/>"
