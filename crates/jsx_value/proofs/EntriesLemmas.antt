-- Names in one list behind another.
use Rattle.std.proofs.Common.{◌≡◌, ℕ, Bool, true, false, if◌then◌else◌, Option, Some, None, List, [], ◌∷◌, ◌++◌, refl, sym, ap, ◌∙◌}
use Rattle.std.specs.Str.{bytes_eq}
use Rattle.settle_script.specs.declared.value.Entry.{Entry}
use Rattle.settle_script.specs.Settlements.{entry_named}

-- the first, or else the second
abbrev pub first_of : {A : Type 0} → Option A → Option A → Option A
first_of (Some x) other = Some x
first_of None other = other

first_of-head : {A : Type 0} (b : Bool) (v : A) (p q r : Option A) → r ≡ first_of p q
    → (if b then Some v else r) ≡ first_of (if b then Some v else p) q
first_of-head true v p q r is = refl
first_of-head false v p q r is = is

pub entry_named-append : {A : Type 0} (name : List ℕ) (xs ys : List (Entry A))
    → entry_named name (xs ++ ys) ≡ first_of (entry_named name xs) (entry_named name ys)
entry_named-append name [] ys = refl
entry_named-append name (x ∷ xs) ys =
    first_of-head (bytes_eq name x.name) x.value (entry_named name xs) (entry_named name ys) (entry_named name (xs ++ ys)) (entry_named-append name xs ys)

pub found_first : {A : Type 0} (name : List ℕ) (xs ys zs : List (Entry A)) (v : A) → Some v ≡ entry_named name xs → xs ++ ys ≡ zs
    → Some v ≡ entry_named name zs
found_first {A} name xs ys zs v is all =
    ap (λ (o : Option A). first_of o (entry_named name ys)) is ∙ sym (entry_named-append name xs ys) ∙ ap (λ (es : List (Entry A)). entry_named name es) all

pub found_second : {A : Type 0} (name : List ℕ) (xs ys zs : List (Entry A)) (o : Option A) → None ≡ entry_named name xs → xs ++ ys ≡ zs
    → o ≡ entry_named name ys → o ≡ entry_named name zs
found_second {A} name xs ys zs o none all is =
    is ∙ ap (λ (p : Option A). first_of p (entry_named name ys)) none ∙ sym (entry_named-append name xs ys) ∙ ap (λ (es : List (Entry A)). entry_named name es) all
