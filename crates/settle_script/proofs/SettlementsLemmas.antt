-- Settlements by name and by place.
use Rattle.std.proofs.Common.{◌≡◌, ◌≢◌, ℕ, zero, suc, ◌+◌, ◌-◌, ◌^◌, ◌<◌, ◌≤◌, Bool, true, false, if◌then◌else◌, Option, Some, None, inl, inr, List, [], ◌∷◌, ◌++◌, length, take, get_or, refl, sym, ap, ◌∙◌, subst, arith}
use Rattle.std.specs.Prelude.{option_map, is_some}
use Rattle.std.specs.Str.{bytes_eq}
use Rattle.std.proofs.lemmas.Bool.{cases_lt}
use Rattle.std.proofs.lemmas.List.{length-append, get_or_append_left, get_or-append_right, get_or-take, get_or-append-add, length-take-le, get_or_default, length_push}
use Rattle.std.proofs.lemmas.Map.Text.{btree_map_updates_text}
use Rattle.std.specs.BTreeMap.{BTreeMap, Updates, get_by_text}
use Rattle.std.specs.String.{string_cmp}
use Rattle.std.specs.Prelude.{String, string_bytes}
use Rattle.std.specs.declared.alloc.Global.{Global}
use Rattle.std.proofs.lemmas.List.Quantifiers.{all_pairs_push}
use Rattle.std.proofs.lemmas.Slice.Eq.{bytes_eq-Decides}
use Rattle.settle_script.specs.declared.value.Entry.{Entry}
use Rattle.settle_script.specs.declared.outcome.Outcome.{Outcome}
use Rattle.settle_script.specs.Settlements.{entry_named, known, first_common, HasDistinctNames}
use Rattle.settle_script.specs.Index.{place_of, IsIndexOf}

-- what the first n settlements say of the one at the place
abbrev pub IsSeen : Option ℕ → ℕ → List (Entry Outcome) → Option Outcome → Type 0
IsSeen (Some i) n es o = ((d : Entry Outcome) → i < n → o ≡ Some (get_or es i d).value) × (n ≤ i → o ≡ None)
IsSeen None n es o = o ≡ None

IsSeen-zero : (p : Option ℕ) (es : List (Entry Outcome)) → IsSeen p 0 es None
IsSeen-zero None es = refl
IsSeen-zero (Some i) es = (λ d less. absurd (omega arith), λ le. refl)

IsSeen-suc : (p : Option ℕ) (n : ℕ) (e : Entry Outcome) (es : List (Entry Outcome)) (o : Option Outcome)
    → IsSeen p n es o → IsSeen (option_map suc p) (suc n) (e ∷ es) o
IsSeen-suc None n e es o h = h
IsSeen-suc (Some i) n e es o h = (λ d less. h.0 d (omega arith), λ le. h.1 (omega arith))

IsSeen-head : (b : Bool) (p : Option ℕ) (n : ℕ) (e : Entry Outcome) (es : List (Entry Outcome)) (o : Option Outcome)
    → IsSeen p n es o → IsSeen (if b then Some 0 else option_map suc p) (suc n) (e ∷ es) (if b then Some e.value else o)
IsSeen-head true p n e es o h = (λ d less. refl, λ le. absurd (omega arith))
IsSeen-head false p n e es o h = IsSeen-suc p n e es o h

pub known-place : (es : List (Entry Outcome)) (n : ℕ) (name : List ℕ) → IsSeen (place_of name es) n es (known es n name)
known-place es zero name = IsSeen-zero (place_of name es) es
known-place [] (suc n) name = refl
known-place (e ∷ es) (suc n) name =
    IsSeen-head (bytes_eq name e.name) (place_of name es) n e es (entry_named name (take n es)) (known-place es n name)

-- the answer at a place, and where there is none
pub known_at : (es xs : List (Entry Outcome)) (n : ℕ) (name : List ℕ) (i : ℕ) (d : Entry Outcome)
    → xs ≡ es → place_of name es ≡ Some i → i < n → Some (get_or xs i d).value ≡ known es n name
known_at es xs n name i d is at less =
    let seen = subst (λ (p : Option ℕ). IsSeen p n es (known es n name)) at (known-place es n name) in
    ap (λ (ys : List (Entry Outcome)). Some (get_or ys i d).value) is ∙ sym (seen.0 d less)

pub known_later : (es : List (Entry Outcome)) (n : ℕ) (name : List ℕ) (i : ℕ)
    → place_of name es ≡ Some i → n ≤ i → None ≡ known es n name
known_later es n name i at le =
    let seen = subst (λ (p : Option ℕ). IsSeen p n es (known es n name)) at (known-place es n name) in
    sym (seen.1 le)

pub known_never : (es : List (Entry Outcome)) (n : ℕ) (name : List ℕ) → place_of name es ≡ None → None ≡ known es n name
known_never es n name at = sym (subst (λ (p : Option ℕ). IsSeen p n es (known es n name)) at (known-place es n name))

-- a place is within the list
abbrev pub IsWithin : Option ℕ → ℕ → Type 0
IsWithin (Some i) n = i < n
IsWithin None n = Unit {0}

IsWithin-suc : (p : Option ℕ) (n : ℕ) → IsWithin p n → IsWithin (option_map suc p) (suc n)
IsWithin-suc None n h = tt
IsWithin-suc (Some i) n h = omega arith

IsWithin-head : (b : Bool) (p : Option ℕ) (n : ℕ) → IsWithin p n → IsWithin (if b then Some 0 else option_map suc p) (suc n)
IsWithin-head true p n h = omega arith
IsWithin-head false p n h = IsWithin-suc p n h

pub place_of-within : (name : List ℕ) (es : List (Entry Outcome)) → IsWithin (place_of name es) (length es)
place_of-within name [] = tt
place_of-within name (e ∷ es) = IsWithin-head (bytes_eq name e.name) (place_of name es) (length es) (place_of-within name es)

pub place_within : (name : List ℕ) (es : List (Entry Outcome)) (i : ℕ) → place_of name es ≡ Some i → i < length es
place_within name es i at = subst (λ (p : Option ℕ). IsWithin p (length es)) at (place_of-within name es)

-- a name has a place exactly where it has an entry
is_some-head : (b : Bool) (p : Option ℕ) (o : Option Outcome) (v : Outcome) → is_some p ≡ is_some o
    → is_some (if b then Some 0 else option_map suc p) ≡ is_some (if b then Some v else o)
is_some-head true p o v h = refl
is_some-head false None o v h = h
is_some-head false (Some i) o v h = h

pub is_some-place_of : (name : List ℕ) (es : List (Entry Outcome)) → is_some (place_of name es) ≡ is_some (entry_named name es)
is_some-place_of name [] = refl
is_some-place_of name (e ∷ es) =
    is_some-head (bytes_eq name e.name) (place_of name es) (entry_named name es) e.value (is_some-place_of name es)

none_from : (p : Option ℕ) (o : Option Outcome) → is_some p ≡ is_some o → o ≡ None → p ≡ None
none_from None o h is = refl
none_from (Some i) o h is = let e : true ≡ false = h ∙ ap is_some is in absurd (cc)

pub place_of-new : (name : List ℕ) (es : List (Entry Outcome)) → entry_named name es ≡ None → place_of name es ≡ None
place_of-new name es new = none_from (place_of name es) (entry_named name es) (is_some-place_of name es) new

-- the place in a longer list
abbrev pub or_last : Option ℕ → Bool → ℕ → Option ℕ
or_last (Some i) b n = Some i
or_last None b n = if b then Some n else None

or_last-suc : (p : Option ℕ) (b : Bool) (n : ℕ) → option_map suc (or_last p b n) ≡ or_last (option_map suc p) b (suc n)
or_last-suc (Some i) b n = refl
or_last-suc None true n = refl
or_last-suc None false n = refl

or_last-head : (a b : Bool) (p : Option ℕ) (n : ℕ)
    → (if a then Some 0 else option_map suc (or_last p b n)) ≡ or_last (if a then Some 0 else option_map suc p) b (suc n)
or_last-head true b p n = refl
or_last-head false b p n = or_last-suc p b n

pub place_of-push : (name : List ℕ) (es : List (Entry Outcome)) (e : Entry Outcome)
    → place_of name (es ++ e ∷ []) ≡ or_last (place_of name es) (bytes_eq name e.name) (length es)
place_of-push name [] e = refl
place_of-push name (x ∷ es) e =
    ap (λ (p : Option ℕ). if bytes_eq name x.name then Some 0 else option_map suc p) (place_of-push name es e)
    ∙ or_last-head (bytes_eq name x.name) (bytes_eq name e.name) (place_of name es) (length es)

same_tests : (a b : Bool) → (a ≡ true → b ≡ true) → (b ≡ true → a ≡ true) → a ≡ b
same_tests true b there back = sym (there refl)
same_tests false true there back = back refl
same_tests false false there back = refl

bytes_eq-sym : (a b : List ℕ) → bytes_eq a b ≡ bytes_eq b a
bytes_eq-sym a b =
    same_tests (bytes_eq a b) (bytes_eq b a)
    (λ h. (bytes_eq-Decides b a).1 (sym ((bytes_eq-Decides a b).0 h)))
    (λ h. (bytes_eq-Decides a b).1 (sym ((bytes_eq-Decides b a).0 h)))

-- an index that gives the new name the new place gives each name its place
new_last : (p : Option ℕ) (b : Bool) (n : ℕ) → (b ≡ true → p ≡ None) → (if b then Some n else p) ≡ or_last p b n
new_last None true n new = refl
new_last None false n new = refl
new_last (Some i) true n new = let e : Some i ≡ None = new refl in absurd (cc)
new_last (Some i) false n new = refl

pub place_pushed : (name : List ℕ) (es : List (Entry Outcome)) (e : Entry Outcome) → entry_named e.name es ≡ None
    → (if bytes_eq e.name name then Some (length es) else place_of name es) ≡ place_of name (es ++ e ∷ [])
place_pushed name es e new =
    new_last (place_of name es) (bytes_eq e.name name) (length es)
    (λ same. ap (λ (q : List ℕ). place_of q es) (sym ((bytes_eq-Decides e.name name).0 same)) ∙ place_of-new e.name es new)
    ∙ ap (λ (b : Bool). or_last (place_of name es) b (length es)) (bytes_eq-sym e.name name)
    ∙ sym (place_of-push name es e)

-- a name that has no entry is that of none
head_apart : (name : List ℕ) (e : Entry Outcome) (o : Option Outcome) (b : Bool) → b ≡ bytes_eq name e.name
    → (if b then Some e.value else o) ≡ None → (e.name ≢ name) × (o ≡ None)
head_apart name e o true at is = absurd (cc)
head_apart name e o false at is =
    (λ same. let f : bytes_eq name e.name ≡ true = (bytes_eq-Decides name e.name).1 (sym same) in absurd (let g : false ≡ true = at ∙ f in cc), is)

pub apart : (name : List ℕ) (es : List (Entry Outcome)) → entry_named name es ≡ None
    → (k : ℕ) (d : Entry Outcome) → k < length es → (get_or es k d).name ≢ name
apart name [] new k d less = absurd (omega arith)
apart name (e ∷ es) new zero d less = (head_apart name e (entry_named name es) (bytes_eq name e.name) refl new).0
apart name (e ∷ es) new (suc k) d less = apart name es (head_apart name e (entry_named name es) (bytes_eq name e.name) refl new).1 k d (omega arith)

pub distinct-push : (es : List (Entry Outcome)) (e : Entry Outcome) → HasDistinctNames es → entry_named e.name es ≡ None
    → HasDistinctNames (es ++ e ∷ [])
distinct-push es e distinct new = all_pairs_push (λ a b. a.name ≢ b.name) es e distinct (apart e.name es new)

-- a name that is that of no entry has none
head_none : (name : List ℕ) (e : Entry Outcome) (o : Option Outcome) (b : Bool) → b ≡ bytes_eq name e.name
    → e.name ≢ name → o ≡ None → (if b then Some e.value else o) ≡ None
head_none name e o true at other is = absurd (other (sym ((bytes_eq-Decides name e.name).0 (sym at))))
head_none name e o false at other is = is

pub none_apart : (name : List ℕ) (es : List (Entry Outcome))
    → ((k : ℕ) (d : Entry Outcome) → k < length es → (get_or es k d).name ≢ name) → entry_named name es ≡ None
none_apart name [] others = refl
none_apart name (e ∷ es) others =
    head_none name e (entry_named name es) (bytes_eq name e.name) refl (others 0 e (omega arith)) (none_apart name es (λ k d less. others (suc k) d (omega arith)))

-- where each name stands once, none of the names before an entry is its own
pub distinct_new : (es : List (Entry Outcome)) (i : ℕ) (d : Entry Outcome) → HasDistinctNames es → i < length es
    → entry_named (get_or es i d).name (take i es) ≡ None
distinct_new es i d distinct less =
    none_apart (get_or es i d).name (take i es) (λ k e within.
    let len : length (take i es) ≡ i = length-take-le i es (omega arith) in
    let before : k < i = omega (arith, len) in
    λ same. distinct k i d before less
    (ap (λ (x : Entry Outcome). x.name) (get_or_default es k d e (omega arith) ∙ sym (get_or-take i es k e before)) ∙ same))

-- a name of the later list is new to the earlier one, where no name is common
none_of : (o : Option Outcome) (e : Entry Outcome) (p : Option (List ℕ)) → (if is_some o then Some e.name else p) ≡ None → (o ≡ None) × (p ≡ None)
none_of None e p is = (refl, is)
none_of (Some x) e p is = absurd (cc)

pub first_common-apart : (es fs : List (Entry Outcome)) → first_common es fs ≡ None
    → (k : ℕ) (d : Entry Outcome) → k < length fs → entry_named (get_or fs k d).name es ≡ None
first_common-apart es [] common k d less = absurd (omega arith)
first_common-apart es (f ∷ fs) common zero d less = (none_of (entry_named f.name es) f (first_common es fs) common).0
first_common-apart es (f ∷ fs) common (suc k) d less =
    first_common-apart es fs (none_of (entry_named f.name es) f (first_common es fs) common).1 k d (omega arith)

-- one list behind another has each name once, where both have and no name is common
left_name : (es fs : List (Entry Outcome)) (i : ℕ) (d : Entry Outcome) → i < length es → (get_or (es ++ fs) i d).name ≡ (get_or es i d).name
left_name es fs i d less = ap (λ (e : Entry Outcome). e.name) (get_or_append_left es fs d i less)

right_name : (es fs : List (Entry Outcome)) (i : ℕ) (d : Entry Outcome) → length es ≤ i → (get_or (es ++ fs) i d).name ≡ (get_or fs (i - length es) d).name
right_name es fs i d le = ap (λ (e : Entry Outcome). e.name) (get_or-append_right es fs (length es) i d refl le)

pub distinct-append : (es fs : List (Entry Outcome)) → HasDistinctNames es → HasDistinctNames fs → first_common es fs ≡ None
    → HasDistinctNames (es ++ fs)
distinct-append es fs first second common i j d less within same =
    let len : length (es ++ fs) ≡ length es + length fs = length-append es fs in
    elim (cases_lt j (length es)) [
      | inl low ↦ let lower : i < length es = omega arith in first i j d less low (sym (left_name es fs i d lower) ∙ same ∙ left_name es fs j d low)
      | inr high ↦ let inner : j - length es < length fs = omega (arith, len) in elim (cases_lt i (length es)) [
        | inl low ↦ apart (get_or fs (j - length es) d).name es (first_common-apart es fs common (j - length es) d inner) i d low
            (sym (left_name es fs i d low) ∙ same ∙ right_name es fs j d high)
        | inr higher ↦ let order : i - length es < j - length es = omega arith in
            second (i - length es) (j - length es) d order inner (sym (right_name es fs i d higher) ∙ same ∙ right_name es fs j d high)
      ]
    ]

-- the index of a longer list
pub index_pushed : (m n : BTreeMap (String Global) ℕ) (es : List (Entry Outcome)) (e : Entry Outcome) (key : String Global)
    → IsIndexOf m es → entry_named e.name es ≡ None → string_bytes key ≡ e.name
    → Updates string_cmp m n key (Some (length es)) → length es + 1 < 2 ^ 32 → IsIndexOf n (es ++ e ∷ [])
index_pushed m n es e key index new is updates few = record {
  place = λ name.
      btree_map_updates_text (string_bytes key) m n (Some (length es)) updates name
      ∙ ap (λ (q : List ℕ). if bytes_eq q name then Some (length es) else get_by_text m name) is
      ∙ ap (λ (p : Option ℕ). if bytes_eq e.name name then Some (length es) else p) (index.place name)
      ∙ place_pushed name es e new;
  distinct = distinct-push es e index.distinct new;
  few = omega (arith, length_push es e);
}

-- the entries before one of the later list
take_past : (es fs : List (Entry Outcome)) (i n : ℕ) → n ≡ length es + i → take n (es ++ fs) ≡ es ++ take i fs
take_past [] fs i n is = ap (λ (k : ℕ). take k fs) (omega arith)
take_past (e ∷ es) fs i zero is = absurd (omega arith)
take_past (e ∷ es) fs i (suc n) is = ap (λ (xs : List (Entry Outcome)). e ∷ xs) (take_past es fs i n (omega arith))

pub appended_new : (es fs gs : List (Entry Outcome)) (i : ℕ) (x : Entry Outcome) (name : List ℕ) → HasDistinctNames (es ++ fs) → i < length fs
    → gs ≡ es ++ take i fs → x ≡ get_or fs i x → name ≡ x.name → entry_named name gs ≡ None
appended_new es fs gs i x name distinct less are is named =
    let len : length (es ++ fs) ≡ length es + length fs = length-append es fs in
    let within : length es + i < length (es ++ fs) = omega (arith, len) in
    ap (λ (xs : List (Entry Outcome)). entry_named name xs) (are ∙ sym (take_past es fs i (length es + i) refl))
    ∙ ap (λ (q : List ℕ). entry_named q (take (length es + i) (es ++ fs)))
    (named ∙ ap (λ (e : Entry Outcome). e.name) (is ∙ sym (get_or-append-add es fs i x)))
    ∙ distinct_new (es ++ fs) (length es + i) x distinct within

pub joined_distinct : (es fs xs ys : List (Entry Outcome)) → xs ≡ es → ys ≡ fs → HasDistinctNames es → HasDistinctNames fs
    → first_common es fs ≡ None → HasDistinctNames (xs ++ ys)
joined_distinct es fs xs ys first second a b common =
    subst (λ (zs : List (Entry Outcome)). HasDistinctNames zs) (ap (λ (zs : List (Entry Outcome)). zs ++ fs) (sym first) ∙ ap (λ (zs : List (Entry Outcome)). xs ++ zs) (sym second))
    (distinct-append es fs a b common)

-- the same, of what a list is known to be
pub index_kept : (m n : BTreeMap (String Global) ℕ) (es old after : List (Entry Outcome)) (e : Entry Outcome) (key : String Global) (place : ℕ)
    → es ≡ old → IsIndexOf m es → entry_named e.name old ≡ None → string_bytes key ≡ e.name → Updates string_cmp m n key (Some place)
    → place ≡ length old → length old + 1 < 2 ^ 32 → after ≡ old ++ e ∷ [] → IsIndexOf n after
index_kept m n es old after e key place was index new is updates at few added =
    subst (λ (xs : List (Entry Outcome)). IsIndexOf n xs) (sym added)
    (index_pushed m n old e key (subst (λ (xs : List (Entry Outcome)). IsIndexOf m xs) was index) new is
    (subst (λ (p : ℕ). Updates string_cmp m n key (Some p)) at updates) few)
