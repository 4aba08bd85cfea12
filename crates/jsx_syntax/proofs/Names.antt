-- The names before a last `map`, by the last name.
use Rattle.std.proofs.Common.{◌≡◌, ℕ, Bool, true, false, List, [], ◌∷◌, ◌++◌, codes, Option, Some, None, refl, sym, ap, subst, ◌∙◌, if◌then◌else◌, is_some, option_map, MatchOption}
use Rattle.std.specs.Str.{bytes_eq}
use Rattle.jsx_syntax.specs.Steps.{names_before_map}

pub names_snoc : (xs : List (List ℕ)) (x : List ℕ) → names_before_map (xs ++ x ∷ []) ≡ (if bytes_eq x (codes "map") then Some xs else None)
names_snoc [] x = refl
names_snoc (y ∷ []) x = first_names (bytes_eq x (codes "map")) y
  where
    first_names : (b_ : Bool) (y : List ℕ) → option_map (λ (names : List (List ℕ)). y ∷ names) (if b_ then Some [] else None) ≡ (if b_ then Some (y ∷ []) else None)
    first_names true y = refl
    first_names false y = refl
names_snoc (y ∷ v ∷ ys) x = ap (option_map (λ (names : List (List ℕ)). y ∷ names)) (names_snoc (v ∷ ys) x) ∙ more_names (bytes_eq x (codes "map")) y (v ∷ ys)
  where
    more_names : (b_ : Bool) (y : List ℕ) (ys : List (List ℕ)) → option_map (λ (names : List (List ℕ)). y ∷ names) (if b_ then Some ys else None) ≡ (if b_ then Some (y ∷ ys) else None)
    more_names true y ys = refl
    more_names false y ys = refl

-- whether the names end in `map`
pub ends_by : (front all : List (List ℕ)) (last : List ℕ) → all ≡ front ++ last ∷ [] → bytes_eq last (codes "map") ≡ is_some (names_before_map all)
ends_by front all last split = by_test (bytes_eq last (codes "map")) (names_before_map all) (ap names_before_map split ∙ names_snoc front last)
  where
    by_test : (b : Bool) (o : Option (List (List ℕ))) → o ≡ (if b then Some front else None) → b ≡ is_some o
    by_test true o h = sym (ap is_some h)
    by_test false o h = sym (ap is_some h)

-- those before it, where they do
pub before_by : (front all : List (List ℕ)) (last : List ℕ) → all ≡ front ++ last ∷ [] → is_some (names_before_map all) ≡ true
    → names_before_map all ≡ Some front
before_by front all last split is = by_test (bytes_eq last (codes "map")) (names_before_map all) (ap names_before_map split ∙ names_snoc front last) is
  where
    by_test : (b : Bool) (o : Option (List (List ℕ))) → o ≡ (if b then Some front else None) → is_some o ≡ true → o ≡ Some front
    by_test true o h k = h
    by_test false o h k = absurd (cc)

pub none_by : (o : Option (List (List ℕ))) → is_some o ≡ false → o ≡ None
none_by None h = refl
none_by (Some x) h = absurd (cc)

-- those that are left when the last one is taken, where it is `map`
pub taken : (last : Option (List ℕ)) (old new : List (List ℕ)) → MatchOption last ((old ≡ []) × (new ≡ [])) (λ (name : List ℕ). old ≡ new ++ name ∷ [])
    → is_some (names_before_map old) ≡ true → names_before_map old ≡ Some new
taken (Some name) old new h k = before_by new old name h k
taken None old new h k = absurd (none_taken (sym (ap (λ (names : List (List ℕ)). is_some (names_before_map names)) h.0) ∙ k))
  where
    none_taken : false ≡ true → ⊥
    none_taken is = cc
