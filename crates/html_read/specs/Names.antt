-- The names in the tags of a printed page.
use Rattle.std.specs.Prelude.{◌≡◌, ℕ, Bool, true, List, [], ◌∷◌, ◌||◌, codes}
use Rattle.std.specs.List.{list_all}
use Rattle.std.specs.Str.{bytes_eq}
use Rattle.html_names.specs.Elements.{is_element_name}
use Rattle.html_names.specs.Names.{is_letter, is_name_byte}

-- Start and end tags have the name of any element, a void one too, or `template`.
abbrev pub is_tag_name : List ℕ → Bool
is_tag_name name = is_element_name name || bytes_eq name (codes "template")

abbrev pub IsTagName : List ℕ → Type 0
IsTagName name = is_tag_name name ≡ true

-- The name of an attribute is a letter followed by letters, digits and `-`.
abbrev pub IsAttributeName : List ℕ → Type 0
IsAttributeName [] = ⊥
IsAttributeName (b ∷ bs) = (is_letter b ≡ true) × (list_all is_name_byte bs ≡ true)
