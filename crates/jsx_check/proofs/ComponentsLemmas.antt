-- Components by their names.
use Rattle.std.proofs.Common.{◌≡◌, ℕ, Bool, true, false, ◌||◌, cond, if◌then◌else◌, Option, Some, None, List, [], ◌∷◌, ◌++◌, Bor, refl, sym, ◌∙◌, ap}
use Rattle.std.specs.Prelude.{option_map, is_some}
use Rattle.std.specs.Str.{bytes_eq}
use Rattle.std.specs.Ordering.{nat_cmp}
use Rattle.std.specs.Cmp.Lexicographic.{slice_cmp}
use Rattle.std.specs.BTreeMap.{BTreeMap, UpdatesBy}
use Rattle.std.proofs.lemmas.Option.{same_Some, none-some}
use Rattle.std.proofs.lemmas.Map.Text.{btree_map_updates_str}
use Rattle.std.proofs.lemmas.Slice.Eq.{bytes_eq-Decides}
use Rattle.jsx_syntax.specs.Rules.{has_name, has_property, properties_of, texts_of}
use Rattle.jsx_syntax.specs.declared.file.Component.{Component}
use Rattle.jsx_syntax.specs.declared.name.Name.{Name}
use Rattle.jsx_check.specs.SeenNames.{Knows, texts_onto, value_at}
use Rattle.jsx_check.proofs.CountsLemmas.{bytes_eq-sym}

abbrev or_new : Option (List Name) → Bool → List Name → Option (List Name)
or_new (Some p) b q = Some p
or_new None b q = if b then Some q else None

head_new : (a b : Bool) (p : Option (List Name)) (q r : List Name) → (if a then Some r else or_new p b q) ≡ or_new (if a then Some r else p) b q
head_new true b p q r = refl
head_new false b p q r = refl

-- the properties by a name in a longer list
properties_of-push : (name : List ℕ) (cs : List Component) (c : Component)
    → properties_of name (cs ++ c ∷ []) ≡ or_new (properties_of name cs) (bytes_eq name c.name.text) c.properties
properties_of-push name [] c = refl
properties_of-push name (x ∷ cs) c =
    ap (λ (p : Option (List Name)). if bytes_eq name x.name.text then Some x.properties else p) (properties_of-push name cs c)
    ∙ head_new (bytes_eq name x.name.text) (bytes_eq name c.name.text) (properties_of name cs) c.properties x.properties

abbrev pub seen : Option (List Name) → Option (List (List ℕ))
seen o = option_map (texts_onto []) o

pub is_some-seen : (o : Option (List Name)) → is_some (seen o) ≡ is_some o
is_some-seen None = refl
is_some-seen (Some x) = refl

-- A name that is there stays.
old_kept : (o : Option (List Name)) (b : Bool) (q : List Name) → (b ≡ true → is_some o ≡ true) → or_new o b q ≡ o
old_kept (Some p) b q h = refl
old_kept None true q h = let e : false ≡ true = h refl in absurd (cc)
old_kept None false q h = refl

pub knows_kept : (m : BTreeMap (Bor (List ℕ)) (List (List ℕ))) (cs : List Component) (c : Component)
    → Knows m cs → is_some (value_at m c.name.text) ≡ true → Knows m (cs ++ c ∷ [])
knows_kept m cs c k there name =
    k name
    ∙ ap seen (sym (properties_of-push name cs c
    ∙ old_kept (properties_of name cs) (bytes_eq name c.name.text) c.properties
    (λ t. ap (λ (b : List ℕ). is_some (properties_of b cs)) ((bytes_eq-Decides name c.name.text).0 t)
    ∙ (sym (is_some-seen (properties_of c.name.text cs)) ∙ (ap is_some (sym (k c.name.text)) ∙ there)))))

-- and a new one is added.
new_added : (o : Option (List Name)) (b : Bool) (q : List Name) → (b ≡ true → is_some o ≡ false) → cond b (Some (texts_onto [] q)) (seen o) ≡ seen (or_new o b q)
new_added None true q h = refl
new_added (Some p) true q h = let e : true ≡ false = h refl in absurd (cc)
new_added None false q h = refl
new_added (Some p) false q h = refl

pub knows_added : (m new : BTreeMap (Bor (List ℕ)) (List (List ℕ))) (bytes : List ℕ) (names : List (List ℕ)) (cs : List Component) (c : Component)
    → UpdatesBy (λ x y. slice_cmp nat_cmp x.now y.now) (λ k. slice_cmp nat_cmp bytes k.now) m new (Some names)
    → bytes ≡ c.name.text → names ≡ texts_onto [] c.properties
    → Knows m cs → is_some (value_at m bytes) ≡ false → Knows new (cs ++ c ∷ [])
knows_added m new bytes names cs c u is all k none name =
    let flag : bytes_eq bytes name ≡ bytes_eq name c.name.text = bytes_eq-sym bytes name ∙ ap (bytes_eq name) is in
    btree_map_updates_str bytes m new (Some names) u name
    ∙ (ap (λ (b : Bool). cond b (Some names) (value_at m name)) flag
    ∙ (ap (λ (ns : List (List ℕ)). cond (bytes_eq name c.name.text) (Some ns) (value_at m name)) all
    ∙ (ap (λ (o : Option (List (List ℕ))). cond (bytes_eq name c.name.text) (Some (texts_onto [] c.properties)) o) (k name)
    ∙ (new_added (properties_of name cs) (bytes_eq name c.name.text) c.properties
    (λ t. ap (λ (b : List ℕ). is_some (properties_of b cs)) ((bytes_eq-Decides name c.name.text).0 t ∙ sym is)
    ∙ (sym (is_some-seen (properties_of bytes cs)) ∙ (ap is_some (sym (k bytes)) ∙ none)))
    ∙ ap seen (sym (properties_of-push name cs c))))))

-- a property among those of a component
swapped : (a b c : Bool) → (a || (b || c)) ≡ ((b || a) || c)
swapped true true c = refl
swapped true false c = refl
swapped false true c = refl
swapped false false c = refl

or_false : (a : Bool) → (a || false) ≡ a
or_false true = refl
or_false false = refl

has_name-texts_onto : (q : List ℕ) (others : List (List ℕ)) (names : List Name)
    → has_name q (texts_onto others names) ≡ (has_name q (texts_of names) || has_name q others)
has_name-texts_onto q others [] = refl
has_name-texts_onto q others (n ∷ names) =
    has_name-texts_onto q (n.text ∷ others) names ∙ swapped (has_name q (texts_of names)) (bytes_eq q n.text) (has_name q others)

pub property_found : (q : List ℕ) (o : Option (List Name)) (names : List (List ℕ)) → seen o ≡ Some names → has_name q names ≡ has_property q o
property_found q None names e = absurd (none-some names e)
property_found q (Some p) names e =
    ap (has_name q) (sym (same_Some (texts_onto [] p) names e)) ∙ (has_name-texts_onto q [] p ∙ or_false (has_name q (texts_of p)))

pub property_missing : (q : List ℕ) (o : Option (List Name)) → seen o ≡ None → false ≡ has_property q o
property_missing q None e = refl
property_missing q (Some p) e = absurd (none-some (texts_onto [] p) (sym e))
