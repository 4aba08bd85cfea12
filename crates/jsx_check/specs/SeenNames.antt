-- Names as a list, and how often each is among them. This is for private functions.
use Rattle.std.specs.Prelude.{◌≡◌, ℕ, ◌+◌, if◌then◌else◌, List, [], ◌∷◌, map, reverse, Option, option_map}
use Rattle.std.specs.Option.{unwrap_or}
use Rattle.std.specs.Borrow.{Bor}
use Rattle.std.specs.Str.{bytes_eq}
use Rattle.std.specs.Ordering.{nat_cmp}
use Rattle.std.specs.Cmp.Lexicographic.{slice_cmp}
use Rattle.std.specs.BTreeMap.{BTreeMap, get_by}
use Rattle.jsx_syntax.specs.Rules.{properties_of}
use Rattle.jsx_syntax.specs.declared.file.Component.{Component}
use Rattle.jsx_syntax.specs.declared.name.Name.{Name}

-- the last of them first
abbrev pub last_first : List (Bor (List ℕ)) → List (List ℕ)
last_first names = reverse (map (λ (n : Bor (List ℕ)). n.now) names)

abbrev pub name_count : List ℕ → List (List ℕ) → ℕ
name_count name [] = 0
name_count name (n ∷ names) = if bytes_eq name n then 1 + name_count name names else name_count name names

-- what a map gives for a name
abbrev pub value_at : {V : Type 0} → BTreeMap (Bor (List ℕ)) V → List ℕ → Option V
value_at m name = get_by (λ k. slice_cmp nat_cmp name k.now) m

-- the map counts the names
abbrev pub Counts : BTreeMap (Bor (List ℕ)) ℕ → List (List ℕ) → Type 0
Counts m names = (name : List ℕ) → unwrap_or (value_at m name) 0 ≡ name_count name names

-- the names, the last of them first, and then others
abbrev pub texts_onto : List (List ℕ) → List Name → List (List ℕ)
texts_onto others [] = others
texts_onto others (name ∷ names) = texts_onto (name.text ∷ others) names

-- The map gives each component's properties by its name.
abbrev pub Knows : BTreeMap (Bor (List ℕ)) (List (List ℕ)) → List Component → Type 0
Knows m components = (name : List ℕ) → value_at m name ≡ option_map (texts_onto []) (properties_of name components)
