-- Names that are counted.
use Rattle.std.proofs.Common.{◌≡◌, ℕ, ◌+◌, ◌-◌, ◌≤◌, nat_lt, Bool, true, false, ◌||◌, cond, if◌then◌else◌, Option, Some, List, [], ◌∷◌, ◌++◌, length, map, take, reverse, Bor, refl, sym, ◌∙◌, ap, subst, arith}
use Rattle.std.specs.Option.{unwrap_or}
use Rattle.std.specs.Str.{bytes_eq}
use Rattle.std.specs.Ordering.{nat_cmp}
use Rattle.std.specs.Cmp.Lexicographic.{slice_cmp}
use Rattle.std.specs.BTreeMap.{BTreeMap, UpdatesBy}
use Rattle.std.proofs.lemmas.Bool.{lt-ltb}
use Rattle.std.proofs.lemmas.List.{map-append, reverse-append, length-map, length-reverse}
use Rattle.std.proofs.Math.Seq.{take-append_seam}
use Rattle.std.proofs.lemmas.Map.Text.{btree_map_updates_str}
use Rattle.std.proofs.lemmas.Slice.Eq.{bytes_eq-Decides}
use Rattle.jsx_syntax.specs.Rules.{has_name}
use Rattle.jsx_check.specs.SeenNames.{last_first, name_count, value_at, Counts}

same_tests : (a b : Bool) → (a ≡ true → b ≡ true) → (b ≡ true → a ≡ true) → a ≡ b
same_tests true b there back = sym (there refl)
same_tests false true there back = back refl
same_tests false false there back = refl

pub bytes_eq-sym : (a b : List ℕ) → bytes_eq a b ≡ bytes_eq b a
bytes_eq-sym a b =
    same_tests (bytes_eq a b) (bytes_eq b a)
    (λ h. (bytes_eq-Decides b a).1 (sym ((bytes_eq-Decides a b).0 h)))
    (λ h. (bytes_eq-Decides a b).1 (sym ((bytes_eq-Decides b a).0 h)))

pub bytes_eq-refl : (a : List ℕ) → bytes_eq a a ≡ true
bytes_eq-refl a = (bytes_eq-Decides a a).1 refl

pub last_first-push : (items : List (Bor (List ℕ))) (x : Bor (List ℕ)) → last_first (items ++ x ∷ []) ≡ x.now ∷ last_first items
last_first-push items x =
    ap reverse (map-append (λ (n : Bor (List ℕ)). n.now) items (x ∷ []))
    ∙ reverse-append (map (λ (n : Bor (List ℕ)). n.now) items) (x.now ∷ [])

-- a name is counted exactly where it is there
found_in : (b : Bool) (n : ℕ) (r : Bool) → nat_lt 0 n ≡ r → nat_lt 0 (if b then 1 + n else n) ≡ (b || r)
found_in true n r e = lt-ltb 0 (1 + n) (omega arith)
found_in false n r e = e

pub has_name-count : (name : List ℕ) (names : List (List ℕ)) → nat_lt 0 (name_count name names) ≡ has_name name names
has_name-count name [] = refl
has_name-count name (n ∷ names) = found_in (bytes_eq name n) (name_count name names) (has_name name names) (has_name-count name names)

one_more : (b : Bool) (n k : ℕ) → n ≤ k → (if b then 1 + n else n) ≤ k + 1
one_more true n k l = omega (arith, l)
one_more false n k l = omega (arith, l)

pub name_count-le : (name : List ℕ) (names : List (List ℕ)) → name_count name names ≤ length names
name_count-le name [] = omega arith
name_count-le name (n ∷ names) = omega (arith, one_more (bytes_eq name n) (name_count name names) (length names) (name_count-le name names))

pub count-last_first : (name : List ℕ) (items : List (Bor (List ℕ))) → name_count name (last_first items) ≤ length items
count-last_first name items =
    subst (λ k. name_count name (last_first items) ≤ k)
    (length-reverse (map (λ (n : Bor (List ℕ)). n.now) items) ∙ length-map items (λ (n : Bor (List ℕ)). n.now))
    (name_count-le name (last_first items))

-- one name more, and one less
chosen : (b : Bool) (n m k : ℕ) (o : Option ℕ) → (b ≡ true → n ≡ k) → unwrap_or o 0 ≡ m → (b ≡ false → m ≡ k)
    → unwrap_or (cond b (Some n) o) 0 ≡ k
chosen true n m k o t e f = t refl
chosen false n m k o t e f = e ∙ f refl

pub counts_on : (m new : BTreeMap (Bor (List ℕ)) ℕ) (bytes : List ℕ) (n : ℕ) (names names2 : List (List ℕ))
    → UpdatesBy (λ x y. slice_cmp nat_cmp x.now y.now) (λ k. slice_cmp nat_cmp bytes k.now) m new (Some n)
    → Counts m names → n ≡ name_count bytes names2
    → ((q : List ℕ) → bytes_eq bytes q ≡ false → name_count q names ≡ name_count q names2)
    → Counts new names2
counts_on m new bytes n names names2 u c is others q =
    ap (λ (o : Option ℕ). unwrap_or o 0) (btree_map_updates_str bytes m new (Some n) u q)
    ∙ chosen (bytes_eq bytes q) n (name_count q names) (name_count q names2) (value_at m q)
    (λ t. is ∙ ap (λ (b : List ℕ). name_count b names2) ((bytes_eq-Decides bytes q).0 t)) (c q) (others q)

skipped : (q x : List ℕ) (names : List (List ℕ)) → bytes_eq x q ≡ false → name_count q names ≡ name_count q (x ∷ names)
skipped q x names e = ap (λ (b : Bool). if b then 1 + name_count q names else name_count q names) (sym (bytes_eq-sym q x ∙ e))

taken : (x : List ℕ) (names : List (List ℕ)) → name_count x (x ∷ names) ≡ 1 + name_count x names
taken x names = ap (λ (b : Bool). if b then 1 + name_count x names else name_count x names) (bytes_eq-refl x)

pub counts_pushed : (m new : BTreeMap (Bor (List ℕ)) ℕ) (x : Bor (List ℕ)) (n : ℕ) (items items2 : List (Bor (List ℕ)))
    → UpdatesBy (λ x y. slice_cmp nat_cmp x.now y.now) (λ k. slice_cmp nat_cmp x.now k.now) m new (Some n)
    → Counts m (last_first items) → n ≡ 1 + name_count x.now (last_first items) → items2 ≡ items ++ x ∷ []
    → Counts new (last_first items2)
counts_pushed m new x n items items2 u c e is =
    subst (λ (xs : List (List ℕ)). Counts new xs) (sym (ap last_first is ∙ last_first-push items x))
    (counts_on m new x.now n (last_first items) (x.now ∷ last_first items) u c (e ∙ sym (taken x.now (last_first items)))
    (λ q f. skipped q x.now (last_first items) f))

pub counted_last : (x : Bor (List ℕ)) (items earlier : List (Bor (List ℕ))) → items ≡ earlier ++ x ∷ []
    → name_count x.now (last_first items) ≡ 1 + name_count x.now (last_first earlier)
counted_last x items earlier is =
    ap (λ (xs : List (Bor (List ℕ))). name_count x.now (last_first xs)) is
    ∙ (ap (name_count x.now) (last_first-push earlier x) ∙ taken x.now (last_first earlier))

pub truncated : (x : Bor (List ℕ)) (items earlier : List (Bor (List ℕ))) → items ≡ earlier ++ x ∷ [] → take (length earlier) items ≡ earlier
truncated x items earlier is = ap (take (length earlier)) is ∙ take-append_seam earlier (x ∷ [])

pub counts_popped : (m new : BTreeMap (Bor (List ℕ)) ℕ) (x : Bor (List ℕ)) (n : ℕ) (items earlier items2 : List (Bor (List ℕ)))
    → UpdatesBy (λ x y. slice_cmp nat_cmp x.now y.now) (λ k. slice_cmp nat_cmp x.now k.now) m new (Some n)
    → Counts m (last_first items) → items ≡ earlier ++ x ∷ [] → n ≡ name_count x.now (last_first items) - 1
    → items2 ≡ take (length earlier) items → Counts new (last_first items2)
counts_popped m new x n items earlier items2 u c is e cut =
    let all : last_first items ≡ x.now ∷ last_first earlier = ap last_first is ∙ last_first-push earlier x in
    subst (λ (xs : List (List ℕ)). Counts new xs) (sym (ap last_first (cut ∙ truncated x items earlier is)))
    (counts_on m new x.now n (x.now ∷ last_first earlier) (last_first earlier) u (subst (λ (xs : List (List ℕ)). Counts m xs) all c)
    (e ∙ (ap (λ k. k - 1) (counted_last x items earlier is) ∙ omega arith))
    (λ q f. sym (skipped q x.now (last_first earlier) f)))
