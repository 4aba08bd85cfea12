-- Lists without an id that stands in none of them.
use Rattle.std.proofs.Common.{subst, ◌≡◌, ◌<◌, ◌≤◌, ◌+◌, ◌==◌, ℕ, zero, suc, Bool, true, false, List, [], ◌∷◌, ◌++◌, length, slice_set, Option, Some, None, inl, inr, sym, ap, refl, arith}
use Rattle.id_lists.specs.Lists.{AreLists, Lists, first_of, list_at, one, times, times_in_all}
use Rattle.id_lists.proofs.Counts.{drops_same, keeps_other, list_map, list_past, one_other, one_same, times_at}
use Rattle.std.proofs.lemmas.Bool.{cases_eq}
use Rattle.std.proofs.lemmas.List.{length-map}
use Rattle.id_lists.specs.Calls.{CanPush, list_without, without}

list_without-cons : (id n : ℕ) (ns : List ℕ) (b : Bool) → (id == n) ≡ b → one b + times id ns ≡ 0
    → (times id ns ≡ 0 → list_without id ns ≡ ns) → list_without id (n ∷ ns) ≡ n ∷ ns
list_without-cons id n ns true is none rest = absurd (omega (arith, none))
list_without-cons id n ns false is none rest = rw is (ap (λ xs. n ∷ xs) (rest (omega (arith, none))))

list_without-none : (id : ℕ) (ns : List ℕ) → times id ns ≡ 0 → list_without id ns ≡ ns
list_without-none id [] none = refl
list_without-none id (n ∷ ns) none = list_without-cons id n ns (id == n) refl none (list_without-none id ns)

pub without-none : (id : ℕ) (lists : List (List ℕ)) → times_in_all id lists ≡ 0 → without id lists ≡ lists
without-none id [] none = refl
without-none id (list ∷ lists) none =
    let here : list_without id list ≡ list = list_without-none id list (omega (arith, none)) in
    let later : without id lists ≡ lists = without-none id lists (omega (arith, none)) in
    rw here (rw later refl)

none_of : (n id ids : ℕ) → (0 < n → id < ids) → ids ≤ id → n ≡ 0
none_of zero id ids made unmade = refl
none_of (suc n) id ids made unmade = absurd (omega (arith, made (omega arith), unmade))

pub without-unmade : (all : Lists) (id : ℕ) → AreLists all → all.ids ≤ id
    → all ≡ record all { lists = without id all.lists }
without-unmade all id are unmade =
    let none : times_in_all id all.lists ≡ 0 = none_of (times_in_all id all.lists) id all.ids (are.made id) unmade in
    ap (λ ls. record all { lists = ls }) (sym (without-none id all.lists none))

times-list_without-cons : (id n : ℕ) (ns : List ℕ) (b : Bool) → (id == n) ≡ b → times id (list_without id ns) ≡ 0
    → times id (list_without id (n ∷ ns)) ≡ 0
times-list_without-cons id n ns true is rest = rw is rest
times-list_without-cons id n ns false is rest = rw is (rw is (omega (arith, rest)))

times-list_without : (id : ℕ) (ns : List ℕ) → times id (list_without id ns) ≡ 0
times-list_without id [] = refl
times-list_without id (n ∷ ns) = times-list_without-cons id n ns (id == n) refl (times-list_without id ns)

-- an id that was taken out stands in no list
pub times_in_all-without : (id : ℕ) (lists : List (List ℕ)) → times_in_all id (without id lists) ≡ 0
times_in_all-without id [] = refl
times_in_all-without id (list ∷ lists) = omega (arith, times-list_without id list, times_in_all-without id lists)

-- an id that leaves its list can go to one that was made
pub CanPush-without : (all : Lists) (list id : ℕ) → list < length all.lists → id < all.ids
    → CanPush list id (record all { lists = without id all.lists })
CanPush-without all list id list_made id_made = record {
  list_made = rw (length-map all.lists (list_without id)) list_made;
  id_made = id_made;
  free = times_in_all-without id all.lists;
}

-- an empty list more changes no list
pub list_at-more : (lists : List (List ℕ)) (n : ℕ) → list_at (lists ++ [] ∷ []) n ≡ list_at lists n
list_at-more [] zero = refl
list_at-more [] (suc n) = refl
list_at-more (list ∷ lists) zero = refl
list_at-more (list ∷ lists) (suc n) = list_at-more lists n

times-none_left : (b n : ℕ) → 1 ≤ b → b + n ≤ 1 → n ≡ 0
times-none_left b n some most = omega (arith, some, most)

-- Where an id stands in one list alone, taking it out changes nothing beside that list.
pub slice_set-without : (id k : ℕ) (lists : List (List ℕ)) → times_in_all id lists ≤ 1 → 1 ≤ times id (list_at lists k)
    → slice_set (without id lists) k [] ≡ slice_set lists k []
slice_set-without id k [] once stands = refl
slice_set-without id zero (list ∷ lists) once stands =
    ap (λ ls. [] ∷ ls) (without-none id lists (omega (arith, stands, once)))
slice_set-without id (suc k) (list ∷ lists) once stands =
    let there : 1 ≤ times_in_all id lists = omega (arith, stands, times_at id lists k) in
    let here : list_without id list ≡ list = list_without-none id list (omega (arith, there, once)) in
    let later : slice_set (without id lists) k [] ≡ slice_set lists k [] =
    slice_set-without id k lists (omega (arith, once)) stands in
    rw here (ap (λ ls. list ∷ ls) later)

-- an empty list is set to the empty list
pub slice_set-empty : (k : ℕ) (lists : List (List ℕ)) → list_at lists k ≡ [] → slice_set lists k [] ≡ lists
slice_set-empty k [] empty = refl
slice_set-empty zero (list ∷ lists) empty = ap (λ l. l ∷ lists) (sym empty)
slice_set-empty (suc k) (list ∷ lists) empty = ap (λ ls. list ∷ ls) (slice_set-empty k lists empty)

no_some : (n : ℕ) → None ≡ Some n → ⊥
no_some n is = cc

same_some : (m n : ℕ) → Some m ≡ Some n → n ≡ m
same_some m n is = cc

some_none : (n : ℕ) → Some n ≡ None → ⊥
some_none n is = cc

pub first-stands : (id : ℕ) (ns : List ℕ) → first_of ns ≡ Some id → 1 ≤ times id ns
first-stands id [] is = absurd (no_some id is)
first-stands id (n ∷ ns) is = omega (arith, one_same id n (same_some n id is))

pub no_first : (ns : List ℕ) → first_of ns ≡ None → ns ≡ []
no_first [] none = refl
no_first (n ∷ ns) none = absurd (some_none n none)

length-list_without : (id : ℕ) (ns : List ℕ) → length ns ≡ length (list_without id ns) + times id ns
length-list_without id [] = omega arith
length-list_without id (n ∷ ns) = elim (cases_eq id n) [
  | inl same ↦ omega (arith, length-list_without id ns, ap length (drops_same id n ns same), one_same id n same)
  | inr other ↦ omega (arith, length-list_without id ns, ap length (keeps_other id n ns other), one_other id n other)
]

pub shorter-without : (id k : ℕ) (lists : List (List ℕ)) → first_of (list_at lists k) ≡ Some id
    → length (list_at (without id lists) k) < length (list_at lists k)
shorter-without id k lists first =
    let here : list_at (without id lists) k ≡ list_without id (list_at lists k) = list_map id lists k in
    let stands : 1 ≤ times id (list_at lists k) = first-stands id (list_at lists k) first in
    rw here (omega (arith, stands, length-list_without id (list_at lists k)))

-- the first of a list is taken out, and what is left is emptied as before
pub emptied-without : (all new : Lists) (id k : ℕ) → AreLists all → first_of (list_at all.lists k) ≡ Some id
    → new ≡ record all { lists = without id all.lists }
    → record new { lists = slice_set new.lists k [] } ≡ record all { lists = slice_set all.lists k [] }
emptied-without all new id k are first is =
    subst (λ (n : Lists). record n { lists = slice_set n.lists k [] } ≡ record all { lists = slice_set all.lists k [] }) (sym is)
    (ap (λ ls. record all { lists = ls })
    (slice_set-without id k all.lists (are.once id) (first-stands id (list_at all.lists k) first)))

pub emptied-empty : (all : Lists) (k : ℕ) → first_of (list_at all.lists k) ≡ None
    → all ≡ record all { lists = slice_set all.lists k [] }
emptied-empty all k none =
    ap (λ ls. record all { lists = ls }) (sym (slice_set-empty k all.lists (no_first (list_at all.lists k) none)))

pub emptied-past : (all : Lists) (k : ℕ) → length all.lists ≤ k → all ≡ record all { lists = slice_set all.lists k [] }
emptied-past all k past =
    ap (λ ls. record all { lists = ls }) (sym (slice_set-empty k all.lists (list_past all.lists k past)))
