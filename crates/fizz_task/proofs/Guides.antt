-- Tasks stay where their owners and names say when one of them is moved.
use Rattle.std.proofs.Common.{◌≡◌, ℕ, ◌+◌, ◌-◌, ◌%◌, ◌<◌, Option, Some, None, List, [], ◌∷◌, length, inl, inr, refl, sym, ap, ◌∙◌, subst, arith}
use Rattle.std.proofs.lemmas.Bool.{cases_eq}
use Rattle.std.proofs.lemmas.List.{get_or_append_left, length-append, length-map, length-set}
use Rattle.id_lists.specs.Lists.{AreLists, Lists, list_at, times}
use Rattle.id_lists.specs.Calls.{CanPush, list_without, with_pushed, without}
use Rattle.id_lists.proofs.Counts.{list_map, none_after, one_same, other_after, pushed_other, pushed_same, times-append}
use Rattle.fizz_task.specs.declared.state.State.{State}
use Rattle.fizz_task.specs.declared.state.State.TheVariants.{Gone, Runnable, Claimed, Waiting}
use Rattle.fizz_task.specs.Board.{Board, state_at}
use Rattle.fizz_task.specs.Calls.{owner_at, spawned}
use Rattle.fizz_task.specs.Indexed.{DiffersAt, HasList, HasPlaces, IsAdded, IsFilled, IsGuide, IsIndexed, hash_from, moved, name_list, name_place, name_places, owner_list, owner_place, owner_places}

pub can_move : (all new : Lists) (id list : ℕ) → new ≡ record all { lists = without id all.lists } → id < all.ids → list < length all.lists
    → CanPush list id new
can_move all new id list is made there = subst (CanPush list id) (sym is) (record {
  list_made = omega (arith, there, length-map all.lists (list_without id));
  id_made = made;
  free = none_after id all.lists;
})

pub length-moved : (list : Option ℕ) (id : ℕ) (lists : List (List ℕ)) → length (moved list id lists) ≡ length lists
length-moved None id lists = length-map lists (list_without id)
length-moved (Some list) id lists = length-set (without id lists) list _ ∙ length-map lists (list_without id)

-- what stands in a list and isn't moved stays
stays : (list : Option ℕ) (id other : ℕ) (lists : List (List ℕ)) (j : ℕ) → (other ≡ id → ⊥) → HasList list lists
    → 0 < times other (list_at lists j) → 0 < times other (list_at (moved list id lists) j)
stays None id other lists j apart has stands = omega (arith, stands, ap (times other) (list_map id lists j), other_after id other (list_at lists j) apart)
stays (Some list) id other lists j apart has stands = elim (cases_eq j list) [
  | inl same ↦ subst (λ i. 0 < times other (list_at (with_pushed list id (without id lists)) i)) (sym same)
      (omega (
        arith,
        ap (times other) (pushed_same (without id lists) list id (omega (arith, has, length-map lists (list_without id)))),
        times-append other (list_at (without id lists) list) (id ∷ []),
        ap (times other) (list_map id lists list),
        other_after id other (list_at lists list) apart,
        subst (λ i. 0 < times other (list_at lists i)) same stands,
      ))
  | inr differs ↦ omega (
    arith,
    ap (times other) (pushed_other (without id lists) list id j differs),
    ap (times other) (list_map id lists j),
    other_after id other (list_at lists j) apart,
    stands,
  )
]

-- what is moved stands where it goes
arrives : (list : Option ℕ) (id : ℕ) (lists : List (List ℕ)) (j : ℕ) → HasList list lists → list ≡ Some j
    → 0 < times id (list_at (moved list id lists) j)
arrives None id lists j has is = absurd (none_some j is)
  where
    none_some : (n : ℕ) → ◌≡◌ {A = Option ℕ} None (Some n) → ⊥
    none_some n e = cc
arrives (Some list) id lists j has is = subst (λ i. 0 < times id (list_at (with_pushed list id (without id lists)) i)) (some_some list j is)
    (omega (
      arith,
      ap (times id) (pushed_same (without id lists) list id (omega (arith, has, length-map lists (list_without id)))),
      times-append id (list_at (without id lists) list) (id ∷ []),
      one_same id id refl,
    ))
  where
    some_some : (m n : ℕ) → ◌≡◌ {A = Option ℕ} (Some m) (Some n) → m ≡ n
    some_some m n e = cc

-- all but the one that is moved had their places before
pub guide_moved : (made made' k : ℕ) (place place' : ℕ → Option ℕ) (list : Option ℕ) (lists : List (List ℕ)) → list ≡ place' k → HasList list lists
    → ((j at : ℕ) → j < made' → (j ≡ k → ⊥) → place' j ≡ Some at → (j < made) × (place j ≡ Some at))
    → IsGuide made place lists → IsGuide made' place' (moved list k lists)
guide_moved made made' k place place' list lists own has before guide task j below is = elim (cases_eq task k) [
  | inl same ↦ subst (λ i. 0 < times i (list_at (moved list k lists) j)) (sym same)
      (arrives list k lists j has (own ∙ ap place' (sym same) ∙ is))
  | inr other ↦
      let was : (task < made) × (place task ≡ Some j) = before task j below other is in
      stays list k task lists j other has (guide task j was.0 was.1)
]

pub owner_inside : (count : ℕ) (owner : Option ℕ) → 1 < count → owner_list count owner < count
owner_inside count None some = omega (arith, some)
owner_inside count (Some n) some = omega (arith, some, rest_below (count - 1) n (omega (arith, some)))
  where
    rest_below : (m n : ℕ) → 0 < m → n % m < m
    rest_below m n above = omega arith

pub name_inside : (count : ℕ) (name : List ℕ) → 1 < count → name_list count name < count
name_inside count name some = below (hash_from 0 name)
  where
    below : (n : ℕ) → n % count < count
    below n = omega arith

pub places_moved : (made spare : ℕ) (list : Option ℕ) (id : ℕ) (all new : Lists) → HasPlaces made spare all
    → new ≡ record all { lists = moved list id all.lists } → AreLists new → HasPlaces made spare new
places_moved made spare list id all new places is lists = record {
  ids = ap (λ (a : Lists). a.ids) is ∙ places.ids;
  spare_ids = omega (arith, places.spare_ids, ap (λ (a : Lists). a.spare_ids) is);
  lists = lists;
  some = λ any. omega (arith, places.some any, ap (λ (a : Lists). length a.lists) is, length-moved list id all.lists);
}

-- the guide as it is seen after a move
guide_seen : (made id : ℕ) (places : ℕ → ℕ → Option ℕ) (list : Option ℕ) (all new : Lists) → new ≡ record all { lists = moved list id all.lists }
    → IsGuide made (places (length all.lists)) (moved list id all.lists) → IsGuide made (places (length new.lists)) new.lists
guide_seen made id places list all new is guide =
    subst (λ (a : Lists). IsGuide made (places (length a.lists)) a.lists) (sym is)
    (subst (λ n. IsGuide made (places n) (moved list id all.lists)) (sym (length-moved list id all.lists)) guide)

module _ {W : Type 0} where
  pub owner_has : (count : ℕ) (owner : Option ℕ) (s : State W) (lists : List (List ℕ)) → length lists ≡ count → 1 < count
      → HasList (owner_place count owner s) lists
  owner_has count owner Gone lists long some = tt
  owner_has count owner (Runnable payload) lists long some = omega (arith, owner_inside count owner some, long)
  owner_has count owner (Claimed claim) lists long some = omega (arith, owner_inside count owner some, long)
  owner_has count owner (Waiting resource payload) lists long some = omega (arith, owner_inside count owner some, long)

  pub name_has : (count : ℕ) (s : State W) (lists : List (List ℕ)) → length lists ≡ count → 1 < count → HasList (name_place count s) lists
  name_has count Gone lists long some = tt
  name_has count (Runnable payload) lists long some = tt
  name_has count (Claimed claim) lists long some = tt
  name_has count (Waiting resource payload) lists long some = omega (arith, name_inside count resource some, long)

  pub placed_indexed : (old new : Board W) (k : ℕ) (o o' n n' : Lists) → k < length new.states → DiffersAt k old new → IsIndexed old o n
      → o' ≡ record o { lists = moved (owner_places new (length o.lists) k) k o.lists } → AreLists o'
      → n' ≡ record n { lists = moved (name_places new (length n.lists) k) k n.lists } → AreLists n'
      → IsIndexed new o' n'
  placed_indexed old new k o o' n n' inside differs indexed eo lo en ln = record {
    owner_ids = places_moved _ _ _ k o o' (subst (λ m. HasPlaces m new.spare o) (sym differs.made)
        (subst (λ m. HasPlaces (length old.states) m o) (sym differs.spare) indexed.owner_ids)) eo lo;
    name_ids = places_moved _ _ _ k n n' (subst (λ m. HasPlaces m new.spare n) (sym differs.made)
        (subst (λ m. HasPlaces (length old.states) m n) (sym differs.spare) indexed.name_ids)) en ln;
    owners = guide_seen (length new.states) k (owner_places new) _ o o' eo
        (guide_moved (length old.states) (length new.states) k (owner_places old (length o.lists)) (owner_places new (length o.lists)) _ o.lists refl
        (owner_has (length o.lists) (owner_at new.owners k) (state_at new.states k) o.lists refl (indexed.owner_ids.some (omega (arith, differs.made))))
        (λ j list below other is. (omega (arith, differs.made), sym (same_owner_place j other) ∙ is)) indexed.owners);
    names = guide_seen (length new.states) k (name_places new) _ n n' en
        (guide_moved (length old.states) (length new.states) k (name_places old (length n.lists)) (name_places new (length n.lists)) _ n.lists refl
        (name_has (length n.lists) (state_at new.states k) n.lists refl (indexed.name_ids.some (omega (arith, differs.made))))
        (λ j list below other is. (omega (arith, differs.made), sym (ap (name_place (length n.lists)) (differs.states j other)) ∙ is)) indexed.names);
  }
    where
      same_owner_place : (j : ℕ) → (j ≡ k → ⊥) → owner_places new (length o.lists) j ≡ owner_places old (length o.lists) j
      same_owner_place j other = ap (owner_place (length o.lists) (owner_at new.owners j)) (differs.states j other)
          ∙ ap (λ (os : List (Option ℕ)). owner_place (length o.lists) (owner_at os j) (state_at old.states j)) differs.owners

  pub added_indexed : (old new : Board W) (k : ℕ) (o o' n n' : Lists) → k ≡ length old.states → IsAdded old new
      → HasPlaces (length new.states) new.spare o → HasPlaces (length new.states) new.spare n
      → IsGuide (length old.states) (owner_places old (length o.lists)) o.lists → IsGuide (length old.states) (name_places old (length n.lists)) n.lists
      → o' ≡ record o { lists = moved (owner_places new (length o.lists) k) k o.lists } → AreLists o'
      → n' ≡ record n { lists = moved (name_places new (length n.lists) k) k n.lists } → AreLists n'
      → IsIndexed new o' n'
  added_indexed old new k o o' n n' last added po pn go gn eo lo en ln = record {
    owner_ids = places_moved _ _ _ k o o' po eo lo;
    name_ids = places_moved _ _ _ k n n' pn en ln;
    owners = guide_seen (length new.states) k (owner_places new) _ o o' eo
        (guide_moved (length old.states) (length new.states) k (owner_places old (length o.lists)) (owner_places new (length o.lists)) _ o.lists refl
        (owner_has (length o.lists) (owner_at new.owners k) (state_at new.states k) o.lists refl (po.some (omega (arith, added.made))))
        (λ j list below other is. (older j below other, sym (same_owner_place j (older j below other)) ∙ is)) go);
    names = guide_seen (length new.states) k (name_places new) _ n n' en
        (guide_moved (length old.states) (length new.states) k (name_places old (length n.lists)) (name_places new (length n.lists)) _ n.lists refl
        (name_has (length n.lists) (state_at new.states k) n.lists refl (pn.some (omega (arith, added.made))))
        (λ j list below other is. (older j below other, sym (ap (name_place (length n.lists)) (added.states j (older j below other))) ∙ is)) gn);
  }
    where
      older : (j : ℕ) → j < length new.states → (j ≡ k → ⊥) → j < length old.states
      older j below other = omega (arith, below, other, added.made, last)

      same_owner_place : (j : ℕ) → j < length old.states → owner_places new (length o.lists) j ≡ owner_places old (length o.lists) j
      same_owner_place j below = ap (owner_place (length o.lists) (owner_at new.owners j)) (added.states j below)
          ∙ ap (λ (owner : Option ℕ). owner_place (length o.lists) owner (state_at old.states j)) (added.owners j below)

  pub spawned_added : (owner : Option ℕ) (payload : W) (waits : Option (List ℕ)) (old new : Board W) → new ≡ spawned owner payload waits old
      → 0 < old.spare → length old.owners ≡ length old.states → IsAdded old new
  spawned_added owner payload None old new is some owned = subst (IsAdded old) (sym is) (record {
    spare = omega (arith, some);
    made = length-append old.states (Runnable payload ∷ []) ∙ omega arith;
    owners = λ j below. get_or_append_left old.owners (owner ∷ []) None j (omega (arith, below, owned));
    states = λ j below. get_or_append_left old.states (Runnable payload ∷ []) Gone j below;
  })
  spawned_added owner payload (Some resource) old new is some owned = subst (IsAdded old) (sym is) (record {
    spare = omega (arith, some);
    made = length-append old.states (Waiting resource payload ∷ []) ∙ omega arith;
    owners = λ j below. get_or_append_left old.owners (owner ∷ []) None j (omega (arith, below, owned));
    states = λ j below. get_or_append_left old.states (Waiting resource payload ∷ []) Gone j below;
  })

  -- where no task gets a place that it didn't have
  pub fewer_indexed : (old new : Board W) (o n : Lists) → length new.states ≡ length old.states → new.spare ≡ old.spare
      → ((j count list : ℕ) → owner_places new count j ≡ Some list → owner_places old count j ≡ Some list)
      → ((j count list : ℕ) → name_places new count j ≡ Some list → name_places old count j ≡ Some list)
      → IsIndexed old o n → IsIndexed new o n
  fewer_indexed old new o n made spare owners names indexed = record {
    owner_ids = subst (λ m. HasPlaces m new.spare o) (sym made) (subst (λ m. HasPlaces (length old.states) m o) (sym spare) indexed.owner_ids);
    name_ids = subst (λ m. HasPlaces m new.spare n) (sym made) (subst (λ m. HasPlaces (length old.states) m n) (sym spare) indexed.name_ids);
    owners = λ j list below is. indexed.owners j list (omega (arith, below, made)) (owners j (length o.lists) list is);
    names = λ j list below is. indexed.names j list (omega (arith, below, made)) (names j (length n.lists) list is);
  }

-- one task more is put where it belongs
pub filled_more : (made spare count k : ℕ) (place : ℕ → Option ℕ) (all new : Lists) → IsFilled made spare count k place all
    → HasList (place k) all.lists → new ≡ record all { lists = moved (place k) k all.lists } → AreLists new
    → IsFilled made spare count (k + 1) place new
filled_more made spare count k place all new filled has is lists = record {
  places = places_moved made spare (place k) k all new filled.places is lists;
  counted = ap (λ (a : Lists). length a.lists) is ∙ length-moved (place k) k all.lists ∙ filled.counted;
  guide = subst (λ (a : Lists). IsGuide (k + 1) place a.lists) (sym is)
      (guide_moved k (k + 1) k place place (place k) all.lists refl has (λ j list below other told. (omega (arith, below, other), told)) filled.guide);
}
